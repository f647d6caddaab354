-- The lines of a row, entry by entry, and where one of its three lists ends.
-- Assumes nothing.
use Rattle.std.proofs.Common.{◌≡◌, ℕ, ℤ, List, [], ◌∷◌, ◌++◌, refl, sym, length, ◌∙◌, ap, append_assoc}
use Rattle.std.proofs.lemmas.List.{nil_from_length}
use Rattle.std.specs.Prelude.{codes}
use Rattle.printing.specs.Lines.{entry_line, row_lines}

pub lines_more : (row : ℕ) {columns : List ℕ} {re im : List ℤ} {columns' : List ℕ} {re' im' : List ℤ} {column : ℕ} {x y : ℤ} → columns ≡ column ∷ columns' → re ≡ x ∷ re' → im ≡ y ∷ im' → row_lines row columns re im ≡ (entry_line (record { row = row; column = column; re = x; im = y }) ++ codes "\n") ++ row_lines row columns' re' im'
unfolding row_lines
lines_more row a b c = rw (a, b, c)

pub no_columns : (row : ℕ) (columns : List ℕ) (re im : List ℤ) → length columns ≡ 0 → row_lines row columns re im ≡ []
unfolding row_lines
no_columns row columns re im h = rw (nil_from_length columns h)

pub no_reals : (row : ℕ) (columns : List ℕ) (re im : List ℤ) → length re ≡ 0 → row_lines row columns re im ≡ []
unfolding row_lines
no_reals row [] re im h = refl
no_reals row (c ∷ columns) re im h = rw (nil_from_length re h)

pub no_imaginaries : (row : ℕ) (columns : List ℕ) (re im : List ℤ) → length im ≡ 0 → row_lines row columns re im ≡ []
unfolding row_lines
no_imaginaries row [] re im h = refl
no_imaginaries row (c ∷ columns) [] im h = refl
no_imaginaries row (c ∷ columns) (x ∷ re) im h = rw (nil_from_length im h)

-- one line more is written
pub line_added : (done line rest : List ℕ) {before all : List ℕ} → before ≡ line ++ rest → done ++ before ≡ all → (done ++ line) ++ rest ≡ all
line_added done line rest e so_far = append_assoc done line rest ∙ ap (λ (t : List ℕ). done ++ t) (sym e) ∙ so_far
