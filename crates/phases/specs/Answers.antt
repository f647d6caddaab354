-- What conjugating and converting a product answer, refusals first in the order of their numbers. Document 01: pauli_product.rs,
-- decoherence_product.rs and `Numbers of the no`. Beside a refusal stands the record given; a conversion, whose answer has another
-- type, is refused with the empty product.
use Rattle.std.specs.Prelude.{[], not, cond, ℕ, ◌%◌}
use Rattle.refusal.specs.Refusals.{Said, refuses, done}
use Rattle.letters.specs.Sums.{total}
use Rattle.letters.specs.Matrices.{Letters}
use Rattle.letters.specs.Single.{letter_of, power_of, conjugated, converted}
use Rattle.items.specs.Record.{valid, letter_at, reach, record_of, empty_product}
use Rattle.items.specs.declared.Items.{Items}

-- the conjugate transpose
unfoldable pub conjugate_answer : Letters → Items → Said Unit × (ℕ × Items)
conjugate_answer M p =
    cond (not (valid p)) (refuses 0 [], (0, p))
    (done, (total (λ s. power_of (conjugated M (letter_at p s))) (reach p) % 4, record_of (λ s. letter_of (conjugated M (letter_at p s))) (reach p)))

-- a product of letters of the kind M in letters of the kind M'
unfoldable pub convert_answer : Letters → Letters → Items → Said Unit × (ℕ × Items)
convert_answer M M' p =
    cond (not (valid p)) (refuses 0 [], (0, empty_product))
    (done, (total (λ s. power_of (converted M M' (letter_at p s))) (reach p) % 4, record_of (λ s. letter_of (converted M M' (letter_at p s))) (reach p)))
