-- Noise sets as a kind of valid set, for the laws over any kind; the tests of a key; and what other laws cite of a valid set.
-- Assumes nothing.
use mathlib.Core.Path.{◌≡◌, refl, ap, ◌∙◌}
use mathlib.Core.Bool.{Bool, true, false, not, ◌&&◌, ◌||◌}
use mathlib.Core.List.{[]}
use Rattle.complex.specs.Coefficients.{complexes}
use Rattle.complex.specs.PlusZero.{complex_plus_zero}
use Rattle.terms.specs.Keyed.{each}
use Rattle.terms.proofs.PlacesLaws.{Valid}
use Rattle.terms.proofs.ValidSetLaws.{ValidSets}
use Rattle.terms.proofs.ValidSetLaws as laws
use Rattle.term_sets.specs.Keys.{pair_keys}
use Rattle.term_sets.specs.KeyInstances.{pair_laws}
use Rattle.term_sets.proofs.ValidLaws.{valid_sets}
use Rattle.noise_sets.specs.Pairs.{Key, NoiseSet, pair_terms, is_empty, held_by, filled, good_key, good_term, is_blank, valid_set}
use Rattle.noise_sets.specs.Answers.{valid_key, empty_side}

-- this kind of valid set
abbrev pub valid_noise_sets : ValidSets pair_terms NoiseSet
valid_noise_sets = valid_sets pair_keys complexes pair_laws complex_plus_zero false

-- ---- the tests of a key

-- neither of two, said in two ways
pub neither : (x y : Bool) → (not x && not y) ≡ not (x || y)
neither true y = refl
neither false y = refl

-- its two tests
pub key_not_valid : (k : Key) → valid_key k ≡ false → good_key k ≡ false
key_not_valid k e = rw e

pub key-empty : (k : Key) → valid_key k ≡ true → empty_side k ≡ true → good_key k ≡ false
key-empty k v e = rw v (neither (is_empty k.0) (is_empty k.1) ∙ ap not e)

pub key_good : (k : Key) → valid_key k ≡ true → empty_side k ≡ false → good_key k ≡ true
key_good k v e = pair_laws.accepted k (rw (v, e))

-- ---- valid sets

module _ (s : NoiseSet) (e : valid_set s ≡ true) where
  pub valid-parts : Valid good_term is_blank s.count s.terms
  valid-parts = laws.valid-parts valid_noise_sets s e

  -- it is the set that holds its terms
  pub valid_own : s ≡ filled (held_by s)
  valid_own = laws.valid_own valid_noise_sets s e

  -- the keys of its terms are good
  pub valid-keys : each (λ t ts. good_key t.key) (held_by s) ≡ true
  valid-keys = laws.valid-keys valid_noise_sets s e

-- the empty set is valid
pub empty-valid : valid_set (filled []) ≡ true
empty-valid = laws.empty-valid valid_noise_sets
