-- What a row of the code's numbers says as whole numbers.
use Rattle.std.specs.Prelude.{ℕ, List, map, Result}
use Rattle.refusal.specs.Refusals.{Said, said_by}
use Rattle.refusal.specs.declared.Refusal.{Refusal}
use Rattle.letters.specs.Gauss.{G}
use Rattle.rows.specs.Entries.{entries_of}
use Rattle.rows.specs.declared.Row.{Row}
use Rattle.exact_sums.specs.ExactSums.{whole}
use Rattle.exact_sums.specs.declared.Halves.{Halves}

abbrev pub exact_pair : ℕ × Halves → ℕ × G
exact_pair e = (e.0, whole e.1.re e.1.im)

abbrev pub said_exact : Result (Row Halves) Refusal → Said (List (ℕ × G))
said_exact r = said_by (λ s. map exact_pair (entries_of s)) r
