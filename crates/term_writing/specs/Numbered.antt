-- A set that holds its own terms, with the numbers of its keys beside them: only helpers cite it.
use Rattle.std.specs.Prelude.{◌≡◌, ◌≤◌, ℕ, List, map, length, take}
use Rattle.complex.specs.Coefficients.{Coefficients}
use Rattle.terms.specs.Setting.{most_terms}
use Rattle.term_sets.specs.Keys.{Keys}
use Rattle.term_sets.specs.Sets.{held_by, filled}
use Rattle.term_sets.specs.declared.Set.{Set}

pub record Numbered {K N : Type 0} (k : Keys K) (c : Coefficients N) (s : Set K N) (numbers : List ℕ) : Type 0 where
  pub few : s.count ≤ most_terms
  -- past its terms stand zero records
  pub own : s ≡ filled k c (held_by s)
  pub long : length numbers ≡ most_terms
  pub numbered : take s.count numbers ≡ map (λ t. k.number_of t.key) (held_by s)
