-- What judging hands out of a set, for any keys and coefficients: nothing of one that is not valid, and of a valid one its terms, masked.
-- Assumes nothing.
use mathlib.Core.Path.{◌≡◌, ap}
use mathlib.Core.Bool.{Bool, true, false}
use mathlib.Core.List.{map}
use Rattle.std.specs.Prelude.{Some, None}
use Rattle.complex.specs.Coefficients.{Coefficients}
use Rattle.term_sets.specs.Keys.{Keys}
use Rattle.term_sets.specs.Sets.{held_by, valid_set, masked_term, masked_terms, masked_set}
use Rattle.term_sets.specs.declared.Set.{Set}
use Rattle.term_sets.specs.declared.judging.MaskedTerm.{MaskedTerm}
use Rattle.arrayvec.specs.ArrayVec.{ArrayVec}
use Rattle.term_sets.proofs.MaskedLaws.{key_refused, key_judged}

module _ {K N : Type 0} (k : Keys K) (c : Coefficients N) (zeros : Bool) (s : Set K N) where
  pub nothing_handed : None ≡ masked_set k c zeros s → valid_set k c zeros s ≡ false
  unfolding masked_set
  nothing_handed e = key_refused (valid_set k c zeros s) (masked_terms k c (held_by s)) e

  module _ {m : ArrayVec (MaskedTerm N)} (e : Some m ≡ masked_set k c zeros s) where
    pub handed_valid : valid_set k c zeros s ≡ true
    unfolding masked_set
    handed_valid = (key_judged (valid_set k c zeros s) (masked_terms k c (held_by s)) m e).0

    handed : m ≡ masked_terms k c (held_by s)
    unfolding masked_set
    handed = (key_judged (valid_set k c zeros s) (masked_terms k c (held_by s)) m e).1

    pub handed_terms : m.items ≡ map (masked_term k c) (held_by s)
    handed_terms = ap (λ (x : ArrayVec (MaskedTerm N)). x.items) handed
