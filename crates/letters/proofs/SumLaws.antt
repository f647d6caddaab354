-- Laws of finite sums and products of Gaussian integers, and of sums of numbers.
-- Assumes nothing.
use mathlib.Core.Path.{◌≡◌, refl, sym, ◌∙◌, ap, ap₂, fun_ext}
use Prim.Native.Nat.{ℕ, zero, suc, ◌+◌, ◌*◌, ◌%◌, ◌^◌, ◌<◌}
use native.Mathlib.Omega.{arith}
use native.Mathlib.Nat.{pow-suc}
use Rattle.letters.specs.Gauss.{G, 𝟘, 𝟙, ◌⊕◌, ◌⊗◌, conj, i^}
use Rattle.letters.specs.Sums.{Σ, Π, total}
use Rattle.letters.proofs.GaussLaws.{⊕_four, ⊗_four, ⊕_assoc, ⊗_assoc, ⊗_comm, ⊗_⊕, ⊕_𝟘, ⊗_𝟘, 𝟙_⊗, conj_⊗, conj-𝟙, i^_add, i^_mod, i^-zero}

-- ---- sums

-- equal terms below N
pub Σ_cong_below : (N : ℕ) (f g : ℕ → G) → ((k : ℕ) → k < N → f k ≡ g k) → Σ N f ≡ Σ N g
unfolding Σ
Σ_cong_below zero f g e = refl
Σ_cong_below (suc N) f g e = ap₂ ◌⊕◌ (Σ_cong_below N f g (λ k h. e k (omega arith))) (e N (omega arith))

-- equal terms
pub Σ_cong : (N : ℕ) {f g : ℕ → G} → ((k : ℕ) → f k ≡ g k) → Σ N f ≡ Σ N g
Σ_cong N e = ap (Σ N) (fun_ext e)

-- a sum of zeros
pub Σ_zero : (N : ℕ) → Σ N (λ k. 𝟘) ≡ 𝟘
unfolding Σ
Σ_zero zero = refl
Σ_zero (suc N) = ap (λ x. x ⊕ 𝟘) (Σ_zero N) ∙ ⊕_𝟘 𝟘

-- a sum of sums
pub Σ_add : (N : ℕ) (f g : ℕ → G) → Σ N (λ k. f k ⊕ g k) ≡ Σ N f ⊕ Σ N g
unfolding Σ
Σ_add zero f g = sym (⊕_𝟘 𝟘)
Σ_add (suc N) f g = ap (λ x. x ⊕ (f N ⊕ g N)) (Σ_add N f g) ∙ ⊕_four (Σ N f) (Σ N g) (f N) (g N)

-- a common factor in front
pub Σ_scale : (N : ℕ) (c : G) (f : ℕ → G) → Σ N (λ k. c ⊗ f k) ≡ c ⊗ Σ N f
unfolding Σ
Σ_scale zero c f = sym (⊗_𝟘 c)
Σ_scale (suc N) c f = ap (λ x. x ⊕ c ⊗ f N) (Σ_scale N c f) ∙ sym (⊗_⊕ c (Σ N f) (f N))

-- two numbers at a time
pub Σ_two : (M : ℕ) (f : ℕ → G) → Σ (M * 2) f ≡ Σ M (λ k. f (k * 2) ⊕ f (k * 2 + 1))
unfolding Σ
Σ_two zero f = refl
Σ_two (suc M) f =
    ap (λ x. Σ x f) (double M)
    ∙ ⊕_assoc (Σ (M * 2) f) (f (M * 2)) (f (suc (M * 2)))
    ∙ ap₂ (λ x y. x ⊕ (f (M * 2) ⊕ f y)) (Σ_two M f) (one_more M)
  where
    double : (M : ℕ) → suc M * 2 ≡ suc (suc (M * 2))
    double M = omega arith

    one_more : (M : ℕ) → suc (M * 2) ≡ M * 2 + 1
    one_more M = omega arith

-- the same for a number of n + 1 bits: the lowest bit apart
pub Σ_bit : (n : ℕ) (f : ℕ → G) → Σ (2 ^ suc n) f ≡ Σ (2 ^ n) (λ k. f (k * 2) ⊕ f (k * 2 + 1))
Σ_bit n f = ap (λ x. Σ x f) (pow-suc 2 n) ∙ Σ_two (2 ^ n) f

-- ---- products

-- equal factors
pub Π_cong : (n : ℕ) {f g : ℕ → G} → ((s : ℕ) → f s ≡ g s) → Π n f ≡ Π n g
Π_cong n e = ap (Π n) (fun_ext e)

-- equal factors below n
pub Π_cong_below : (n : ℕ) (f g : ℕ → G) → ((s : ℕ) → s < n → f s ≡ g s) → Π n f ≡ Π n g
unfolding Π
Π_cong_below zero f g e = refl
Π_cong_below (suc n) f g e = ap₂ ◌⊗◌ (e 0 (omega arith)) (Π_cong_below n (λ s. f (suc s)) (λ s. g (suc s)) (λ s h. e (suc s) (omega arith)))

-- no factors
pub Π_none : (g : ℕ → G) → Π 0 g ≡ 𝟙
unfolding Π
Π_none g = refl

-- a product of products
pub Π_mul : (n : ℕ) (f g : ℕ → G) → Π n (λ s. f s ⊗ g s) ≡ Π n f ⊗ Π n g
unfolding Π
Π_mul zero f g = sym (𝟙_⊗ 𝟙)
Π_mul (suc n) f g =
    ap (λ x. (f 0 ⊗ g 0) ⊗ x) (Π_mul n (λ s. f (suc s)) (λ s. g (suc s)))
    ∙ ⊗_four (f 0) (g 0) (Π n (λ s. f (suc s))) (Π n (λ s. g (suc s)))

-- the last factor apart
pub Π_last : (n : ℕ) (g : ℕ → G) → Π (suc n) g ≡ Π n g ⊗ g n
unfolding Π
Π_last zero g = ⊗_comm (g 0) 𝟙
Π_last (suc n) g = ap (λ x. g 0 ⊗ x) (Π_last n (λ s. g (suc s))) ∙ sym (⊗_assoc (g 0) (Π n (λ s. g (suc s))) (g (suc n)))

-- the conjugate of a product
pub conj_Π : (n : ℕ) (g : ℕ → G) → conj (Π n g) ≡ Π n (λ s. conj (g s))
unfolding Π
conj_Π zero g = conj-𝟙
conj_Π (suc n) g = conj_⊗ (g 0) (Π n (λ s. g (suc s))) ∙ ap (λ x. conj (g 0) ⊗ x) (conj_Π n (λ s. g (suc s)))

-- ---- sums of numbers

-- equal terms below n
pub total_cong_below : (n : ℕ) (f g : ℕ → ℕ) → ((s : ℕ) → s < n → f s ≡ g s) → total f n ≡ total g n
unfolding total
total_cong_below zero f g e = refl
total_cong_below (suc n) f g e = ap₂ ◌+◌ (total_cong_below n f g (λ s h. e s (omega arith))) (e n (omega arith))

-- terms that are zero below n
pub total-zero : (n : ℕ) (f : ℕ → ℕ) → ((s : ℕ) → s < n → f s ≡ 0) → total f n ≡ 0
unfolding total
total-zero zero f e = refl
total-zero (suc n) f e = ap₂ ◌+◌ (total-zero n f (λ s h. e s (omega arith))) (e n (omega arith))

-- a product of powers of i
pub Π_power : (n : ℕ) (k : ℕ → ℕ) → Π n (λ s. i^ (k s)) ≡ i^ (total k n)
unfolding total
Π_power zero k = Π_none (λ s. i^ (k s)) ∙ sym i^-zero
Π_power (suc n) k = Π_last n (λ s. i^ (k s)) ∙ ap (λ x. x ⊗ i^ (k n)) (Π_power n k) ∙ i^_add (total k n) (k n)

-- the same with the power below 4
pub Π_i^ : (n : ℕ) (k : ℕ → ℕ) → Π n (λ s. i^ (k s)) ≡ i^ (total k n % 4)
Π_i^ n k = Π_power n k ∙ sym (i^_mod (total k n))
