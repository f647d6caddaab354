-- The letters of a record as two masks of bits in one number: X turns its site's bit over, Z gives a sign where that bit is 1, Y does both.
-- Defined for every record; of a valid one (MaskLaws: `flips_masked`, `signs_masked`) each letter has its site's bits.
use Rattle.std.specs.Prelude.{ℕ, zero, suc, ◌+◌, ◌*◌, ◌/◌, ◌%◌, ◌^◌, min, List, cond, eqb}
use Rattle.std.specs.Int.Bits.{bit_xor}
use Rattle.items.specs.Lists.{at}
use Rattle.items.specs.Record.{capacity}
use Rattle.items.specs.declared.Items.{Items}

-- the bits of a letter: of X (1) the lowest of the low half, of Z (3) the lowest of the high half, of Y (2) both
unfoldable pub letter_bits : ℕ → ℕ
letter_bits l = cond (eqb l 1) 1 (cond (eqb l 2) (2 ^ 32 + 1) (cond (eqb l 3) (2 ^ 32) 0))

-- the bits of the first n places' letters, each at its site: sites count by their remainder by 32, letters by that by 4
unfoldable pub masks_in : List ℕ → List ℕ → ℕ → ℕ
masks_in sites letters zero = 0
masks_in sites letters (suc n) = bit_xor (masks_in sites letters n) (letter_bits (at letters n % 4) * 2 ^ (at sites n % 32))

-- of a record: in the low half the bits that it turns over, in the high half those that give a sign
unfoldable pub masks_of : Items → ℕ
masks_of p = masks_in p.sites p.letters (min p.count capacity)

-- of such a number m: the bits turned over
unfoldable pub flip_of : ℕ → ℕ
flip_of m = m % 2 ^ 32

-- and the bits that give a sign
unfoldable pub sign_of : ℕ → ℕ
sign_of m = m / 2 ^ 32
