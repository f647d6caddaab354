-- What multiplying and joining products answer, refusals first in the order of their numbers. Document 01: pauli_product.rs,
-- decoherence_product.rs and `Numbers of the no`. Beside a refusal stands the first record given.
use Rattle.std.specs.Prelude.{[], ◌∷◌, not, cond, ℕ, ◌+◌, ◌%◌, ltb}
use Rattle.refusal.specs.Refusals.{Said, refuses, done}
use Rattle.letters.specs.Tests.{first_from}
use Rattle.letters.specs.Sums.{total}
use Rattle.letters.specs.Matrices.{Letters}
use Rattle.letters.specs.Single.{letter_of, power_of, times}
use Rattle.items.specs.Lists.{at}
use Rattle.items.specs.Record.{valid, letter_at, reach_of, record_of}
use Rattle.items.specs.declared.Items.{Items}

-- site by site the product of the two letters; the powers of i add up
unfoldable pub multiply_answer : Letters → Items → Items → Said Unit × (ℕ × Items)
multiply_answer M p q =
    cond (not (valid p)) (refuses 0 [], (0, p))
    (cond (not (valid q)) (refuses 0 [], (0, p)) (
      done,
      (
        total (λ s. power_of (times M (letter_at p s) (letter_at q s))) (reach_of p q) % 4,
        record_of (λ s. letter_of (times M (letter_at p s) (letter_at q s))) (reach_of p q),
      ),
    ))

-- the place of the first site of the second product that the first one occupies; its count where there is none
unfoldable pub first_occupied : Items → Items → ℕ
first_occupied p q = first_from (λ j. ltb 0 (letter_at p (at q.sites j))) q.count 0

-- "refuses the first site of the second product, ascending, that the first one occupies"; on no site are both letters there
unfoldable pub concatenate_answer : Items → Items → Said Unit × Items
concatenate_answer p q =
    cond (not (valid p)) (refuses 0 [], p)
    (cond (not (valid q)) (refuses 0 [], p)
    (cond (ltb (first_occupied p q) q.count) (refuses 3 (at q.sites (first_occupied p q) ∷ []), p)
    (done, record_of (λ s. letter_at p s + letter_at q s) (reach_of p q))))
