-- Sets of any keys and coefficients as a kind of set, for the laws over any kind; and those of products with complex ones.
-- Assumes nothing.
use mathlib.Core.Path.{◌≡◌, refl}
use mathlib.Core.List.{List}
use lib.ListN.{length}
use Rattle.complex.specs.Coefficients.{Coefficients, complexes}
use Rattle.terms.specs.Keyed.{padded}
use Rattle.terms.specs.Setting.{most_terms}
use Rattle.terms.proofs.FilledLaws.{Sets}
use Rattle.terms.proofs.FilledLaws as laws
use Rattle.term_sets.specs.Complexes.{Term, TermSet, held_by, filled}
use Rattle.term_sets.specs.Keys.{Keys, item_keys}
use Rattle.term_sets.specs.Sets as any
use Rattle.term_sets.specs.declared.Set.{Set}
use Rattle.term_sets.specs.declared.Term as any_term

module _ {K N : Type 0} (k : Keys K) (c : Coefficients N) where
  -- the set that holds given terms, by its count and its places
  pub fills : (l : List (any_term.Term K N)) → any.filled k c l ≡ record { count = length l; terms = padded most_terms (any.blank k c) l }
  unfolding any.filled
  fills l = refl

  -- this kind of set
  abbrev pub sets : Sets (any_term.Term K N) (Set K N)
  sets =
      record {
        blank = any.blank k c;
        count = λ s. s.count;
        places = λ s. s.terms;
        make = λ n t. record { count = n; terms = t };
        filled = any.filled k c;
        made = λ s. refl;
        made-count = λ n t. refl;
        made-places = λ n t. refl;
        fills = fills;
      }

-- ---- products with complex coefficients

abbrev pub term_sets : Sets Term TermSet
term_sets = sets item_keys complexes

-- the terms of the set that holds given terms
pub held-from : (s : TermSet) (l : List Term) → s ≡ filled l → held_by s ≡ l
held-from = laws.held-from term_sets
