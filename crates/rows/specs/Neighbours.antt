-- Neighbours of one column added up, as in a list that is sorted by column: only the helpers that work a row out cite these.
use Rattle.std.specs.Prelude.{ℕ, cond, List, [], ◌∷◌, eqb}

module _ {N : Type 0} (sum : N → N → N) where
  -- the entries of a list that begins with x, neighbours of one column added from left to right
  unfoldable pub added_from : ℕ × N → List (ℕ × N) → List (ℕ × N)
  added_from x [] = x ∷ []
  added_from x (y ∷ ys) = cond (eqb y.0 x.0) (added_from (x.0, sum x.1 y.1) ys) (x ∷ added_from y ys)

  -- neighbours of one column added from left to right
  unfoldable pub neighbours_added : List (ℕ × N) → List (ℕ × N)
  neighbours_added [] = []
  neighbours_added (x ∷ xs) = added_from x xs
