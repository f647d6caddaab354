-- What a row of a product answers, refusals first in the order of their numbers. Document 01, `Rows` and `Numbers of the no`.
use Rattle.std.specs.Prelude.{Result, [], ◌∷◌, not, cond, ℕ, ◌-◌, ◌^◌, ltb, leb}
use Rattle.refusal.specs.Refusals.{Said, gives, refuses, said_by}
use Rattle.refusal.specs.declared.Refusal.{Refusal}
use Rattle.letters.specs.Matrices.{Letters}
use Rattle.letters.specs.Rows.{column_of, row_power}
use Rattle.items.specs.Record.{valid, letter_at, reach}
use Rattle.items.specs.declared.Items.{Items}
use Rattle.row_entries.specs.declared.Entry.{Entry}

-- the most spins that a row takes
abbrev pub most_spins : ℕ
most_spins = 31

-- the column and the power of i of the one entry of a row that is not zero
unfoldable pub row_answer : Letters → Items → ℕ → ℕ → Said (ℕ × ℕ)
row_answer M p n r =
    cond (not (valid p)) (refuses 0 [])
    (cond (ltb most_spins n) (refuses 7 [])
    (cond (leb (2 ^ n) r) (refuses 9 [])
    (cond (ltb n (reach p)) (refuses 8 ((reach p - 1) ∷ []))
    (gives (column_of M n (letter_at p) r, row_power M n (letter_at p) r)))))

abbrev pub said_row : Result Entry Refusal → Said (ℕ × ℕ)
said_row r = said_by (λ e. (e.column, e.power)) r
