-- The entry of a row by two masks m: the column has the row's bits with some turned over, and counts of bits give the power of i.
-- Of the masks of a record that number 0 lets pass the result is the product's entry (MaskEntryLaws: `from_masks_inside`); of any other it means nothing.
-- Callers who know their records to be valid need not judge them again.
use Rattle.std.specs.Prelude.{ℕ, ◌+◌, ◌*◌, ◌/◌, ◌%◌}
use Rattle.std.specs.Int.Bits.{bit_and, bit_xor}
use Rattle.std.specs.Int.Count.{ones}
use Rattle.letters.specs.Matrices.{Letters}
use Rattle.letters.specs.Single.{cell}
use Rattle.items.specs.Masks.{flip_of, sign_of}

-- the power of i that stands in row 0 of Y: the other letters have 1 there
unfoldable pub power_of_Y : Letters → ℕ
power_of_Y M = cell M 2 0 / 2

-- the column, and the power: that of each Y (both bits), and 2 for each sign at a 1 of the row
unfoldable pub entry_from_masks : Letters → ℕ → ℕ → ℕ × ℕ
entry_from_masks M m r = (bit_xor r (flip_of m), (power_of_Y M * ones (bit_and (flip_of m) (sign_of m)) + 2 * ones (bit_and r (sign_of m))) % 4)
