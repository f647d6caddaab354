-- An entry with a number added to its own: only helpers cite it.
use Rattle.rows.specs.declared.Entry.{Entry}

abbrev pub plus : {V : Type 0} → (V → V → V) → Entry V → V → Entry V
plus sum e v = record { column = e.column; value = sum e.value v }
