-- Entries of a row, and contributions, as columns with numbers.
use Rattle.std.specs.Prelude.{ℕ, List, map}
use Rattle.rows.specs.declared.Entry.{Entry}

abbrev pub pair : {V : Type 0} → Entry V → ℕ × V
pair e = (e.column, e.value)

abbrev pub pairs : {V : Type 0} → List (Entry V) → List (ℕ × V)
pairs l = map (λ e. (e.column, e.value)) l
