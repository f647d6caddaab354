-- What both entries on a set say first: number 0 of the set, what the key gives, 5 of the coefficient. Only helpers cite it.
use Rattle.std.specs.Prelude.{Bool, cond, []}
use Rattle.refusal.specs.Refusals.{Said, refuses, done}
use Rattle.complex.specs.Coefficients.{Coefficients}
use Rattle.terms.specs.Chains.{and_then}
use Rattle.term_sets.specs.Keys.{Keys}
use Rattle.term_sets.specs.Sets.{valid_set}
use Rattle.term_sets.specs.declared.Set.{Set}

abbrev pub checked : {K N : Type 0} (k : Keys K) (c : Coefficients N) → Bool → Set K N → K → N → Said Unit
checked k c zeros s x a = cond (valid_set k c zeros s) (and_then (k.said_of x) (λ u. cond (c.in_range a) done (refuses 5 []))) (refuses 0 [])
