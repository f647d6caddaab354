-- The powers of i that the entries on products answer. For every record, refused ones included, each is 0 to 3; the matrices leave no other number; and where
-- decoherence products are multiplied, and of conjugates, it is 0 or 2: "Factors are +1 or -1 except in conversions". Assumes nothing.
use mathlib.Core.Path.{◌≡◌, refl, ap, ◌∙◌}
use mathlib.Core.Bool.{Bool, true, false, not, cond}
use Prim.Native.Nat.{ℕ, zero, suc, ◌+◌, ◌%◌, ◌^◌, ◌≤◌, ◌<◌}
use native.Mathlib.Nat.{mod-lt}
use native.Mathlib.Omega.{arith}
use lib.Dec.{eqb}
use borrow.Author.Tests.{not-false}
use Rattle.refusal.specs.Refusals.{Said, done}
use Rattle.letters.specs.Gauss.{G, ◌⊗◌, conj, i^}
use Rattle.letters.specs.Sums.{Σ, total}
use Rattle.letters.specs.Matrices.{Letters, decoherence, letters_of, matrix}
use Rattle.letters.specs.Single.{power_of, times, conjugated}
use Rattle.letters.specs.Answers.{other}
use Rattle.letters.specs.declared.Kind.{Kind}
use Rattle.letters.specs.declared.Kind.TheVariants.{Pauli, Decoherence}
use Rattle.letters.proofs.TableLaws.{closed}
use Rattle.letters.proofs.Letterings.{one_power}
use Rattle.letters.proofs.FactorLaws.{Sign, even_sign, times_even, conjugate_power, conjugated_power}
use Rattle.items.specs.Record.{valid, letter_at, reach, reach_of}
use Rattle.merging.specs.ProductAnswers.{multiply_answer}
use Rattle.phases.specs.Answers.{conjugate_answer, convert_answer}
use Rattle.items.specs.declared.Items.{Items}
use Rattle.items.proofs.MaskLaws.{letter_lt}
use Rattle.items.proofs.RecordLaws.{letter_code}
use Rattle.products.proofs.ProductTheorems.{multiply_theorem, multiply-valid, conjugate_theorem, conjugate-valid, convert_theorem, convert-valid}

-- an answer of a product with its power of i
abbrev WithPower : Type 0
WithPower = Said Unit × (ℕ × Items)

-- what holds of the power beside a refusal, and of the power that is answered past it, holds of the answer's
power_past : (P : ℕ → Type 0) (b : Bool) (refused a : WithPower) → P refused.1.0 → (b ≡ false → P a.1.0) → P (cond b refused a).1.0
power_past P true refused a e h = e
power_past P false refused a e h = h refl

-- ---- 0 to 3

pub multiply-below : (M : Letters) (p q : Items) → (multiply_answer M p q).1.0 < 4
unfolding multiply_answer
multiply-below M p q =
    power_past (λ k. k < 4) (not (valid p)) _ _ (omega arith) (λ v. power_past (λ k. k < 4) (not (valid q)) _ _ (omega arith) (λ w. mod-lt _ (omega arith)))

pub conjugate-below : (M : Letters) (p : Items) → (conjugate_answer M p).1.0 < 4
unfolding conjugate_answer
conjugate-below M p = power_past (λ k. k < 4) (not (valid p)) _ _ (omega arith) (λ v. mod-lt _ (omega arith))

pub convert-below : (M M' : Letters) (p : Items) → (convert_answer M M' p).1.0 < 4
unfolding convert_answer
convert-below M M' p = power_past (λ k. k < 4) (not (valid p)) _ _ (omega arith) (λ v. mod-lt _ (omega arith))

-- ---- no other number

-- the k of an answer (done, (k, x)) is that answer's power
answered_below : (k : ℕ) (x : Items) (a : WithPower) → a ≡ (done, (k, x)) → a.1.0 < 4 → k < 4
answered_below k x a e h = omega (arith, ap (λ (z : WithPower). z.1.0) e)

-- a matrix that is i^k times that of a valid record is i^j times it for no other j from 0 to 3
one_record_power : (kind : Kind) (x : Items) → valid x ≡ true → (n : ℕ) (A : ℕ → ℕ → G) (k : ℕ) → k < 4
    → ((r c : ℕ) → A r c ≡ i^ k ⊗ matrix (letters_of kind) n (letter_at x) r c) → (j : ℕ) → j < 4
    → ((r c : ℕ) → r < 2 ^ n → c < 2 ^ n → A r c ≡ i^ j ⊗ matrix (letters_of kind) n (letter_at x) r c) → j ≡ k
one_record_power kind x v n A k hk b j hj a =
    one_power (letters_of kind) (closed kind) n (letter_at x) (λ s h. letter_lt x v s) A j k hj hk a (λ r c hr hc. b r c)

pub multiply_one_power : (kind : Kind) (p q : Items) (k : ℕ) (x : Items) → multiply_answer (letters_of kind) p q ≡ (done, (k, x)) → (n : ℕ) → reach_of p q ≤ n
    → (j : ℕ) → j < 4
    → ((r c : ℕ) → r < 2 ^ n → c < 2 ^ n
    → Σ (2 ^ n) (λ m. matrix (letters_of kind) n (letter_at p) r m ⊗ matrix (letters_of kind) n (letter_at q) m c)
    ≡ i^ j ⊗ matrix (letters_of kind) n (letter_at x) r c)
    → j ≡ k
multiply_one_power kind p q k x e n l =
    let M = letters_of kind in
    one_record_power kind x (multiply-valid kind p q k x e) n (λ r c. Σ (2 ^ n) (λ m. matrix M n (letter_at p) r m ⊗ matrix M n (letter_at q) m c)) k
    (answered_below k x _ e (multiply-below M p q)) (multiply_theorem kind p q k x e n l)

pub conjugate_one_power : (kind : Kind) (p : Items) (k : ℕ) (x : Items) → conjugate_answer (letters_of kind) p ≡ (done, (k, x)) → (n : ℕ) → reach p ≤ n
    → (j : ℕ) → j < 4
    → ((r c : ℕ) → r < 2 ^ n → c < 2 ^ n → conj (matrix (letters_of kind) n (letter_at p) c r) ≡ i^ j ⊗ matrix (letters_of kind) n (letter_at x) r c)
    → j ≡ k
conjugate_one_power kind p k x e n l =
    let M = letters_of kind in
    one_record_power kind x (conjugate-valid kind p k x e) n (λ r c. conj (matrix M n (letter_at p) c r)) k
    (answered_below k x _ e (conjugate-below M p)) (conjugate_theorem kind p k x e n l)

pub convert_one_power : (kind : Kind) (p : Items) (k : ℕ) (x : Items) → convert_answer (letters_of kind) (letters_of (other kind)) p ≡ (done, (k, x))
    → (n : ℕ) → reach p ≤ n → (j : ℕ) → j < 4
    → ((r c : ℕ) → r < 2 ^ n → c < 2 ^ n → matrix (letters_of kind) n (letter_at p) r c ≡ i^ j ⊗ matrix (letters_of (other kind)) n (letter_at x) r c)
    → j ≡ k
convert_one_power kind p k x e n l =
    one_record_power (other kind) x (convert-valid kind p k x e) n (matrix (letters_of kind) n (letter_at p)) k
    (answered_below k x _ e (convert-below (letters_of kind) (letters_of (other kind)) p)) (convert_theorem kind p k x e n l)

-- ---- signs

-- a sum of even numbers
even_total : (f : ℕ → ℕ) (n : ℕ) → ((s : ℕ) → f s % 2 ≡ 0) → total f n % 2 ≡ 0
unfolding total
even_total f zero h = refl
even_total f (suc n) h = go (total f n) (f n) (even_total f n h) (h n)
  where
    go : (x y : ℕ) → x % 2 ≡ 0 → y % 2 ≡ 0 → (x + y) % 2 ≡ 0
    go x y a b = omega arith

-- and what such a number leaves by 4
even_below_4 : (t : ℕ) → t % 2 ≡ 0 → t % 4 % 2 ≡ 0
even_below_4 t e = omega arith

multiply_even : (p q : Items) → (multiply_answer decoherence p q).1.0 % 2 ≡ 0
unfolding multiply_answer
multiply_even p q =
    power_past (λ k. k % 2 ≡ 0) (not (valid p)) _ _ refl
    (λ v. power_past (λ k. k % 2 ≡ 0) (not (valid q)) _ _ refl
    (λ w. even_below_4 _ (even_total (λ s. power_of (times decoherence (letter_at p s) (letter_at q s))) (reach_of p q)
    (λ s. times_even (letter_at p s) (letter_at q s) (omega (arith, letter_code p (not-false _ v) s)) (omega (arith, letter_code q (not-false _ w) s))))))

-- the product of two decoherence products
pub multiply_sign : (p q : Items) → Sign (multiply_answer decoherence p q).1.0
multiply_sign p q = even_sign _ (multiply-below decoherence p q) (multiply_even p q)

conjugate_even : (kind : Kind) (p : Items) → (conjugate_answer (letters_of kind) p).1.0 % 2 ≡ 0
unfolding conjugate_answer
conjugate_even kind p =
    power_past (λ k. k % 2 ≡ 0) (not (valid p)) _ _ refl
    (λ v. even_below_4 _ (even_total (λ s. power_of (conjugated (letters_of kind) (letter_at p s))) (reach p)
    (λ s. ap (λ k. k % 2) (conjugated_power kind (letter_at p s) (omega (arith, letter_code p (not-false _ v) s))) ∙ go kind (eqb (letter_at p s) 2))))
  where
    go : (kind : Kind) (b : Bool) → cond b (conjugate_power kind) 0 % 2 ≡ 0
    go Pauli true = refl
    go Decoherence true = refl
    go kind false = refl

-- the conjugate of a product of either kind
pub conjugate_sign : (kind : Kind) (p : Items) → Sign (conjugate_answer (letters_of kind) p).1.0
conjugate_sign kind p = even_sign _ (conjugate-below (letters_of kind) p) (conjugate_even kind p)
