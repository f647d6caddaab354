-- The lines that print a row: for each entry the row, its column, and how many halves its real and imaginary parts have.
use Rattle.std.specs.Prelude.{ℕ, ℤ, List, [], ◌∷◌, ◌++◌, codes, decimal}
use Rattle.std.specs.Fmt.{signed_decimal}
use Rattle.printing.specs.declared.Entry.{Entry}

-- an entry's line, without its end
abbrev pub entry_line : Entry → List ℕ
entry_line e = decimal e.row ++ (codes " " ++ (decimal e.column ++ (codes " " ++ (signed_decimal e.re ++ (codes " " ++ signed_decimal e.im)))))

-- a line for each entry of a row, from its columns, real halves and imaginary halves
unfoldable pub row_lines : ℕ → List ℕ → List ℤ → List ℤ → List ℕ
row_lines row (column ∷ columns) (x ∷ re) (y ∷ im) = (entry_line (record { row = row; column = column; re = x; im = y }) ++ codes "\n") ++ row_lines row columns re im
row_lines row columns re im = []
