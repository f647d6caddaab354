-- A row of a lettering's matrix: the column at which it is not zero, and what stands there as a power of i.
-- Document 01, `In each row a product has one nonzero column`.
use Rattle.std.specs.Prelude.{ℕ, ◌*◌, ◌/◌, ◌%◌, ◌^◌}
use Rattle.letters.specs.Sums.{total}
use Rattle.letters.specs.Matrices.{Letters, bit}
use Rattle.letters.specs.Single.{cell}

-- the column over n spins: its bit s is that of the entry of row (bit s of r) in the letter on spin s
unfoldable pub column_of : Letters → ℕ → (ℕ → ℕ) → ℕ → ℕ
column_of M n f r = total (λ s. cell M (f s) (bit s r) % 2 * 2 ^ s) n

-- the power of i there: the sum of the letters' powers
unfoldable pub row_power : Letters → ℕ → (ℕ → ℕ) → ℕ → ℕ
row_power M n f r = total (λ s. cell M (f s) (bit s r) / 2) n % 4
