-- What each term contributes to a row: a column and a number, in document 01's order. In each row a product has one nonzero column.
use Rattle.std.specs.Prelude.{ℕ, ◌+◌, ◌*◌, ◌%◌, List, [], ◌∷◌}
use Rattle.letters.specs.Matrices.{Letters, pauli, decoherence}
use Rattle.letters.specs.Rows.{column_of, row_power}
use Rattle.row_entries.specs.PairColumns.{pair_column}
use Rattle.master_equation.specs.Numbers.{Numbers}

module _ {C N : Type 0} (A : Numbers C N) (n : ℕ) where
  -- a term of an operator's row r
  unfoldable pub operator_terms : Letters → ℕ → (ℕ → ℕ) → C → List (ℕ × N)
  operator_terms M r f c = (column_of M n f r, A.scaled (row_power M n f r) c) ∷ []

  -- a term of a commutator's row (k, l): first its left half, then its right
  unfoldable pub commutator_terms : ℕ → ℕ → (ℕ → ℕ) → C → List (ℕ × N)
  commutator_terms k l f c =
      let b = column_of pauli n f l in
      (pair_column n (column_of pauli n f k) l, A.scaled ((3 + row_power pauli n f k) % 4) c)
      ∷ (pair_column n k b, A.scaled ((1 + row_power pauli n f b) % 4) c) ∷ []

  -- a pair's row (k, l): L(k, a) times R(l, b), then -1/2 of R† L on the left half, then on the right.
  -- R† L at (k, a) is conj R(m, k) times L(m, a) at the one m that row k of R meets; at (b, l) the one m that row l of L meets
  unfoldable pub noise_terms : ℕ → ℕ → (ℕ → ℕ) → (ℕ → ℕ) → C → List (ℕ × N)
  noise_terms k l f g c =
      let m = column_of decoherence n g k in
      let m' = column_of decoherence n f l in
      (pair_column n (column_of decoherence n f k) (column_of decoherence n g l), A.scaled ((row_power decoherence n f k + row_power decoherence n g l) % 4) c)
      ∷ (pair_column n (column_of decoherence n f m) l, A.minus_half ((3 * row_power decoherence n g m + row_power decoherence n f m) % 4) c)
      ∷ (pair_column n k (column_of decoherence n g m'), A.minus_half ((3 * row_power decoherence n g m' + row_power decoherence n f m') % 4) c) ∷ []
