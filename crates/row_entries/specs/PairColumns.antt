-- Rows and columns of the superoperator over n spins: pairs of rows, and of columns, of the matrices.
use Rattle.std.specs.Prelude.{ℕ, ◌+◌, ◌*◌, ◌^◌}

-- (a, b) as one column
abbrev pub pair_column : ℕ → ℕ → ℕ → ℕ
pair_column n a b = a * 2 ^ n + b
