-- The text that prints a refusal: its number, and ' site ' and the site where it carries one.
use Rattle.std.specs.Prelude.{ℕ, List, [], ◌∷◌, ◌++◌, codes, decimal}
use Rattle.refusal.specs.declared.Refusal.{Refusal}
use Rattle.refusal.specs.Refusals.{number, site_of}

-- what follows the number
abbrev pub site_text : List ℕ → List ℕ
site_text (s ∷ rest) = codes " site " ++ decimal s
site_text [] = []

abbrev pub refusal_text : Refusal → List ℕ
refusal_text why = decimal (number why) ++ site_text (site_of why)
