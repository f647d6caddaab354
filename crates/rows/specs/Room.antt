-- Contributions after contributions, where there is room for all of them; else they stay as they are, and the answer is 0.
use Rattle.std.specs.Prelude.{ℕ, ◌+◌, cond, List, [], ◌++◌, leb, length}
use Rattle.refusal.specs.Refusals.{Said, gives, refuses}
use Rattle.rows.specs.Buffers.{most_entries}

unfoldable pub added_where_room : {N : Type 0} → List (ℕ × N) → List (ℕ × N) → List (ℕ × N)
added_where_room es l = cond (leb (length l + length es) most_entries) (l ++ es) l

unfoldable pub done_where_room : {N : Type 0} → List (ℕ × N) → List (ℕ × N) → Said Unit
done_where_room es l = cond (leb (length l + length es) most_entries) (gives tt) (refuses 0 [])
