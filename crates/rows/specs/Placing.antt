-- A row from its contributions, over any numbers: entries (column, number) by ascending column, each the sum of its column's contributions;
-- and an open system's row from those of both its parts. Contracts name the instance in f64 and, of exact rows, that over whole numbers, which
-- theorems hold against the matrices.
-- Document 01, `Rows`: "A sum starts with its first contribution and adds the rest in term order"; "Entries are delivered by ascending column".
use Rattle.std.specs.Prelude.{ℕ, Bool, true, false, cond, List, [], ◌∷◌, ltb, eqb}
use Rattle.master_equation.specs.Numbers.{Numbers}

module _ {N : Type 0} (sum : N → N → N) where
  -- one contribution more, in a row by ascending column: added to its column's sum, or put in its place
  unfoldable pub placed : ℕ × N → List (ℕ × N) → List (ℕ × N)
  placed e [] = e ∷ []
  placed e (x ∷ xs) =
      cond (ltb x.0 e.0) (x ∷ placed e xs)
      (cond (eqb x.0 e.0) ((x.0, sum x.1 e.1) ∷ xs) (e ∷ x ∷ xs))

  -- contributions placed one after the other
  unfoldable pub place_all : List (ℕ × N) → List (ℕ × N) → List (ℕ × N)
  place_all [] row = row
  place_all (e ∷ es) row = place_all es (placed e row)

  -- the row of contributions
  unfoldable pub row_of : List (ℕ × N) → List (ℕ × N)
  row_of es = place_all es []

-- the entries that are not zero
unfoldable pub nonzero : {N : Type 0} → (N → Bool) → List (ℕ × N) → List (ℕ × N)
nonzero is_zero [] = []
nonzero is_zero (x ∷ xs) = cond (is_zero x.1) (nonzero is_zero xs) (x ∷ nonzero is_zero xs)

-- entries with zero sums, or without
unfoldable pub kept_by : {N : Type 0} → (N → Bool) → Bool → List (ℕ × N) → List (ℕ × N)
kept_by is_zero zeros l = cond zeros l (nonzero is_zero l)

module _ {C N : Type 0} (A : Numbers C N) where
  -- a row of contributions: zero sums kept, or left out
  unfoldable pub row_in : Bool → List (ℕ × N) → List (ℕ × N)
  row_in zeros es = kept_by A.is_zero zeros (row_of A.sum es)

  -- an open system's row, of the contributions of its commutator and of its noise:
  -- "where both have one, noise is added to the commutator entry, and a zero there is kept"
  unfoldable pub open_row_in : List (ℕ × N) → List (ℕ × N) → List (ℕ × N)
  open_row_in commutator noise = place_all A.sum (row_in true noise) (row_in false commutator)
