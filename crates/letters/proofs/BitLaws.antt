-- Laws of bits, and of sums over all numbers of n bits of products over the spins.
-- Assumes nothing.
use mathlib.Core.Path.{◌≡◌, sym, ◌∙◌, ap, ap₂, subst⁻¹}
use mathlib.Core.Bool.{Bool, true, false, ◌&&◌, cond}
use Prim.Native.Nat.{ℕ, zero, suc, ◌+◌, ◌*◌, ◌/◌, ◌%◌, ◌^◌, ◌<◌}
use native.Mathlib.Omega.{arith}
use native.Mathlib.Nat.{zero-add, pow-suc, one-le-pow, pow-succ', div-div-eq-div-mul, div-add-mod', div-eq_of_lt, mod-lt, mod-eq_of_lt, add-mul-mod_self_right, add-mul-div_right}
use borrow.Author.Tests.{eqb-true, eq-eqb}
use lib.Dec.{eqb}
use Rattle.letters.specs.Gauss.{G, 𝟘, 𝟙, ◌⊕◌, ◌⊗◌, i^}
use Rattle.letters.specs.Sums.{Σ, Π, total}
use Rattle.letters.specs.Matrices.{bit, product}
use Rattle.letters.proofs.TestLaws.{bool_ext, and_left, and_right, and_true}
use Rattle.letters.proofs.GaussLaws.{⊕_⊗, 𝟘_⊕, 𝟘_⊗, ⊗_𝟘, i^_add, i^-zero}
use Rattle.letters.proofs.SumLaws.{Σ_bit, Σ_cong, Σ_scale, Π_cong, Π_mul, Π_none, Π_last}

-- ---- bits

-- a bit is 0 or 1
pub bit_lt : (s k : ℕ) → bit s k < 2
unfolding bit
bit_lt s k = go (k / 2 ^ s)
  where
    go : (m : ℕ) → m % 2 < 2
    go m = omega arith

-- the lowest bit
pub bit-zero : (k : ℕ) → bit 0 k ≡ k % 2
unfolding bit
bit-zero k = omega arith

-- the next bit is that of the half
pub bit_suc : (s k : ℕ) → bit (suc s) k ≡ bit s (k / 2)
unfolding bit
bit_suc s k = ap (λ x. k / x % 2) (pow-succ' 2 s) ∙ ap (λ x. x % 2) (sym (div-div-eq-div-mul k 2 (2 ^ s)))

-- the bits of 2 k and of 2 k + 1
pub bit_suc_even : (s k : ℕ) → bit (suc s) (k * 2) ≡ bit s k
bit_suc_even s k = bit_suc s (k * 2) ∙ ap (bit s) (omega arith)

pub bit_suc_odd : (s k : ℕ) → bit (suc s) (k * 2 + 1) ≡ bit s k
bit_suc_odd s k = bit_suc s (k * 2 + 1) ∙ ap (bit s) (omega arith)

pub bit-zero_even : (k : ℕ) → bit 0 (k * 2) ≡ 0
bit-zero_even k = bit-zero (k * 2) ∙ omega arith

pub bit-zero_odd : (k : ℕ) → bit 0 (k * 2 + 1) ≡ 1
bit-zero_odd k = bit-zero (k * 2 + 1) ∙ omega arith

-- remainders by p and by 2 p
halves : (k p : ℕ) → k % (p * 2) ≡ k % p + k / p % 2 * p
halves k p = pieces (k / (p * 2)) (k / p % 2) (k % p) (k % (p * 2)) (whole ∙ sym part)
  where
    pieces : (a b r x : ℕ) → a * (p * 2) + x ≡ (a * 2 + b) * p + r → x ≡ r + b * p
    pieces a b r x e = omega arith

    quotient : k / (p * 2) * 2 + k / p % 2 ≡ k / p
    quotient = ap (λ q. q * 2 + k / p % 2) (sym (div-div-eq-div-mul k p 2)) ∙ div-add-mod' (k / p) 2

    whole : k / (p * 2) * (p * 2) + k % (p * 2) ≡ k
    whole = div-add-mod' k (p * 2)

    part : (k / (p * 2) * 2 + k / p % 2) * p + k % p ≡ k
    part = ap (λ q. q * p + k % p) quotient ∙ div-add-mod' k p

-- the lowest n + 1 bits are the lowest n and bit n
pub low_suc : (n k : ℕ) → k % 2 ^ suc n ≡ k % 2 ^ n + bit n k * 2 ^ n
unfolding bit
low_suc n k = ap (λ x. k % x) (pow-suc 2 n) ∙ halves k (2 ^ n)

-- ---- numbers by their bits

-- a + b p with a below p tells a and b
parts_low : (p a b : ℕ) → a < p → (a + b * p) % p ≡ a
parts_low p a b h = add-mul-mod_self_right a b p ∙ mod-eq_of_lt h

parts_high : (p a b : ℕ) → a < p → (a + b * p) / p ≡ b
parts_high p a b h = add-mul-div_right a b (omega arith) ∙ ap (λ q. q + b) (div-eq_of_lt h) ∙ zero-add b

-- so two such numbers are equal where both parts are
pub eqb_parts : (p a b c d : ℕ) → a < p → c < p → eqb (a + b * p) (c + d * p) ≡ (eqb a c && eqb b d)
eqb_parts p a b c d ha hc =
    bool_ext
    (eqb (a + b * p) (c + d * p))
    (eqb a c && eqb b d)
    (λ t. let e = eqb-true (a + b * p) (c + d * p) t in
    and_true
    (eq-eqb a c (sym (parts_low p a b ha) ∙ ap (λ x. x % p) e ∙ parts_low p c d hc))
    (eq-eqb b d (sym (parts_high p a b ha) ∙ ap (λ x. x / p) e ∙ parts_high p c d hc)))
    (λ t. eq-eqb
    (a + b * p)
    (c + d * p)
    (ap₂ (λ x y. x + y * p) (eqb-true a c (and_left (eqb a c) (eqb b d) t)) (eqb-true b d (and_right (eqb a c) (eqb b d) t))))

-- a number made of n bits is below 2^n
pub binary_lt : (n : ℕ) (d : ℕ → ℕ) → ((s : ℕ) → s < n → d s < 2) → total (λ s. d s * 2 ^ s) n < 2 ^ n
unfolding total
binary_lt zero d h = omega arith
binary_lt (suc n) d h = subst⁻¹ (λ q. total (λ s. d s * 2 ^ s) n + d n * 2 ^ n < q) (pow-suc 2 n) (go (total (λ s. d s * 2 ^ s) n) (d n) (2 ^ n) (binary_lt n d (λ s l. h s (omega arith))) (h n (omega arith)))
  where
    go : (t b p : ℕ) → t < p → b < 2 → t + b * p < p * 2
    go t zero p ht hb = omega arith
    go t (suc zero) p ht hb = omega arith
    go t (suc (suc b)) p ht hb = absurd (omega arith)

-- a number below 2^n is made of its bits
pub binary_bits : (n k : ℕ) → total (λ s. bit s k * 2 ^ s) n ≡ k % 2 ^ n
unfolding total
binary_bits zero k = omega arith
binary_bits (suc n) k = ap (λ x. x + bit n k * 2 ^ n) (binary_bits n k) ∙ sym (low_suc n k)

cond_⊗ : (a b : Bool) (j k : ℕ) → cond a (i^ j) 𝟘 ⊗ cond b (i^ k) 𝟘 ≡ cond (a && b) (i^ (j + k)) 𝟘
cond_⊗ true true j k = i^_add j k
cond_⊗ true false j k = ⊗_𝟘 (i^ j)
cond_⊗ false b j k = 𝟘_⊗ (cond b (i^ k) 𝟘)

-- a product over the spins of factors that are zero but at one bit, where they are powers of i, is zero but at the number made of those bits
pub one_cell : (n : ℕ) (A : ℕ → ℕ → G) (d k : ℕ → ℕ) → ((s : ℕ) → s < n → d s < 2) → ((s y : ℕ) → s < n → y < 2 → A s y ≡ cond (eqb y (d s)) (i^ (k s)) 𝟘) → (c : ℕ)
    → Π n (λ s. A s (bit s c)) ≡ cond (eqb (c % 2 ^ n) (total (λ s. d s * 2 ^ s) n)) (i^ (total k n)) 𝟘
unfolding total
one_cell zero A d k h e c = Π_none (λ s. A s (bit s c)) ∙ sym i^-zero ∙ ap (λ t. cond t (i^ 0) 𝟘) (sym (eq-eqb (c % 1) 0 (omega arith)))
one_cell (suc n) A d k h e c =
    let low = total (λ s. d s * 2 ^ s) n in
    Π_last n (λ s. A s (bit s c))
    ∙ ap₂ ◌⊗◌ (one_cell n A d k (λ s l. h s (omega arith)) (λ s y l. e s y (omega arith)) c) (e n (bit n c) (omega arith) (bit_lt n c))
    ∙ cond_⊗ (eqb (c % 2 ^ n) low) (eqb (bit n c) (d n)) (total k n) (k n)
    ∙ ap
    (λ t. cond t (i^ (total k n + k n)) 𝟘)
    (sym
    (ap (λ x. eqb x (low + d n * 2 ^ n)) (low_suc n c)
    ∙ eqb_parts (2 ^ n) (c % 2 ^ n) (bit n c) low (d n) (mod-lt c (one-le-pow n 2 (omega arith))) (binary_lt n d (λ s l. h s (omega arith)))))

-- ---- sums over all numbers of n bits

-- of a product over the spins
pub line_sum : (n : ℕ) (w : ℕ → ℕ → G) → Σ (2 ^ n) (λ m. Π n (λ s. w s (bit s m))) ≡ Π n (λ s. w s 0 ⊕ w s 1)
unfolding Π Σ
line_sum zero w = 𝟘_⊕ 𝟙
line_sum (suc n) w =
    Σ_bit n (λ m. Π (suc n) (λ s. w s (bit s m)))
    ∙ Σ_cong
    (2 ^ n)
    (λ m. ap₂
    ◌⊕◌
    (ap₂ ◌⊗◌ (ap (w 0) (bit-zero_even m)) (Π_cong n (λ s. ap (w (suc s)) (bit_suc_even s m))))
    (ap₂ ◌⊗◌ (ap (w 0) (bit-zero_odd m)) (Π_cong n (λ s. ap (w (suc s)) (bit_suc_odd s m))))
    ∙ sym (⊕_⊗ (w 0 0) (w 0 1) (Π n (λ s. w (suc s) (bit s m)))))
    ∙ Σ_scale (2 ^ n) (w 0 0 ⊕ w 0 1) (λ m. Π n (λ s. w (suc s) (bit s m)))
    ∙ ap (λ u. (w 0 0 ⊕ w 0 1) ⊗ u) (line_sum n (λ s. w (suc s)))

-- the product of two matrices that are products over the spins
pub tensor_product : (n : ℕ) (A B : ℕ → ℕ → ℕ → G) (r c : ℕ)
    → Σ (2 ^ n) (λ m. Π n (λ s. A s (bit s r) (bit s m)) ⊗ Π n (λ s. B s (bit s m) (bit s c))) ≡ Π n (λ s. product (A s) (B s) (bit s r) (bit s c))
unfolding product
tensor_product n A B r c =
    Σ_cong (2 ^ n) (λ m. sym (Π_mul n (λ s. A s (bit s r) (bit s m)) (λ s. B s (bit s m) (bit s c))))
    ∙ line_sum n (λ s x. A s (bit s r) x ⊗ B s x (bit s c))
