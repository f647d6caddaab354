-- The contributions that are there, and the entries of a row.
use Rattle.std.specs.Prelude.{ℕ, List, Result}
use Rattle.refusal.specs.Refusals.{Said, said_by}
use Rattle.refusal.specs.declared.Refusal.{Refusal}
use Rattle.rows.specs.Pairs.{pairs}
use Rattle.rows.specs.declared.Contributions.{Contributions}
use Rattle.rows.specs.declared.Row.{Row}

abbrev pub contributions_of : {V : Type 0} → Contributions V → List (ℕ × V)
contributions_of r = pairs r.entries.items

abbrev pub entries_of : {V : Type 0} → Row V → List (ℕ × V)
entries_of r = pairs r.entries.items

-- what is said of a row, or the refusal
abbrev pub said_row : {V : Type 0} → Result (Row V) Refusal → Said (List (ℕ × V))
said_row r = said_by entries_of r
