-- A row call over n spins that no number refuses. Document 01: 0, then "rows 7, 9, 8".
use Rattle.std.specs.Prelude.{ℕ, ◌≤◌, ◌<◌, ◌≡◌, true, List, []}
use Rattle.items.specs.Record.{valid}
use Rattle.row_entries.specs.Answers.{most_spins}
use Rattle.items.specs.declared.Items.{Items}
use Rattle.terms.specs.Keyed.{each}
use Rattle.rows.specs.Calls.{outside}

-- the row r of `rows` rows, of terms with the products ps
pub record Accepted (n rows r : ℕ) (ps : List Items) : Type 0 where
  pub held : each (λ p qs. valid p) ps ≡ true
  pub few : n ≤ most_spins
  pub below : r < rows
  pub inside : outside n ps ≡ []
