-- The whole answer of a conjugation, which keeps the letters: of a decoherence product "its sign is -1 for an odd number of iY", of a Pauli product it is 1.
-- Assumes nothing.
use mathlib.Core.Path.{◌≡◌, ap, ap₂, ◌∙◌}
use mathlib.Core.Bool.{Bool, true, false, cond}
use Prim.Native.Nat.{ℕ, zero, suc, ◌+◌, ◌*◌, ◌%◌}
use native.Mathlib.Omega.{arith}
use lib.Dec.{eqb}
use Rattle.refusal.specs.Refusals.{done}
use Rattle.letters.specs.Sums.{total}
use Rattle.letters.specs.Matrices.{pauli, decoherence, letters_of}
use Rattle.letters.specs.Single.{power_of, conjugated}
use Rattle.letters.specs.declared.Kind.{Kind}
use Rattle.letters.specs.declared.Kind.TheVariants.{Pauli, Decoherence}
use Rattle.letters.proofs.SumLaws.{total_cong_below}
use Rattle.letters.proofs.FactorLaws.{conjugate_power, conjugated_power}
use Rattle.items.specs.Record.{valid, letter_at, reach}
use Rattle.phases.specs.Answers.{conjugate_answer}
use Rattle.items.specs.declared.Items.{Items}
use Rattle.items.proofs.RecordLaws.{letter_code}
use Rattle.phases.proofs.ChangeLaws.{conjugate_keeps, changed_record}

-- ---- conjugates

-- the number of sites with the letter 2: Y, or iY
abbrev pub count_of_Y : Items → ℕ
count_of_Y p = total (λ s. cond (eqb (letter_at p s) 2) 1 0) (reach p)

-- the same power at each place that passes a test
total_test : (m : ℕ) (f : ℕ → Bool) (n : ℕ) → total (λ s. cond (f s) m 0) n ≡ m * total (λ s. cond (f s) 1 0) n
unfolding total
total_test m f zero = omega arith
total_test m f (suc n) = go (f n) _ _ (total_test m f n)
  where
    go : (b : Bool) (x y : ℕ) → x ≡ m * y → x + cond b m 0 ≡ m * (y + cond b 1 0)
    go true x y e = omega arith
    go false x y e = omega arith

-- of either kind: the product itself, and a power for each letter 2
conjugate-whole : (kind : Kind) (p : Items) → valid p ≡ true → conjugate_answer (letters_of kind) p ≡ (done, (conjugate_power kind * count_of_Y p % 4, p))
unfolding conjugate_answer
conjugate-whole kind p v =
    rw v
    (ap₂ (λ k q. (done, (k % 4, q)))
    (total_cong_below (reach p) (λ s. power_of (conjugated (letters_of kind) (letter_at p s))) (λ s. cond (eqb (letter_at p s) 2) (conjugate_power kind) 0)
    (λ s h. conjugated_power kind (letter_at p s) (omega (arith, letter_code p v s)))
    ∙ total_test (conjugate_power kind) (λ s. eqb (letter_at p s) 2) (reach p))
    (changed_record (conjugated (letters_of kind)) (conjugate_keeps kind) p v))

-- "its sign is -1 for an odd number of iY": i to the power 2 where the number is odd, 0 where it is even
pub decoherence-conjugate : (p : Items) → valid p ≡ true → conjugate_answer decoherence p ≡ (done, (2 * (count_of_Y p % 2), p))
unfolding letters_of
decoherence-conjugate p v = conjugate-whole Decoherence p v ∙ ap (λ k. (done, (k, p))) (go (count_of_Y p))
  where
    go : (c : ℕ) → 2 * c % 4 ≡ 2 * (c % 2)
    go c = omega arith

-- a Pauli product is its own conjugate
pub pauli-conjugate : (p : Items) → valid p ≡ true → conjugate_answer pauli p ≡ (done, (0, p))
unfolding letters_of
pauli-conjugate p v = conjugate-whole Pauli p v ∙ ap (λ k. (done, (k, p))) (go (count_of_Y p))
  where
    go : (c : ℕ) → 0 * c % 4 ≡ 0
    go c = omega arith
