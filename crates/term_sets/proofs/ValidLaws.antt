-- Sets of any keys and coefficients as a kind of valid set, for the laws over any kind; those of products with complex ones, and what other laws
-- cite of a valid one.
-- Assumes nothing.
use mathlib.Core.Path.{◌≡◌, refl, ap}
use mathlib.Core.Bool.{Bool, true, false, not}
use mathlib.Core.List.{[]}
use Rattle.letters.proofs.TestLaws.{and_true, and_left, and_right}
use Rattle.complex.specs.Coefficients.{Coefficients, PlusZeroLaws, complexes}
use Rattle.complex.specs.PlusZero.{complex_plus_zero}
use Rattle.items.specs.Record.{valid}
use Rattle.terms.specs.Keyed.{each}
use Rattle.terms.specs.Places.{valid_places}
use Rattle.terms.proofs.SettingLaws.{alike_by}
use Rattle.terms.proofs.ValidSetLaws.{ValidSets}
use Rattle.terms.proofs.ValidSetLaws as laws
use Rattle.term_sets.specs.Complexes.{TermSet, complex_terms, held_by, filled, valid_set}
use Rattle.term_sets.specs.Keys.{Keys, KeyLaws, item_keys}
use Rattle.term_sets.specs.KeyInstances.{item_laws}
use Rattle.term_sets.specs.Sets.{terms, good_coefficient, good_term}
use Rattle.term_sets.specs.Sets as any
use Rattle.term_sets.specs.declared.Set.{Set}
use Rattle.term_sets.specs.declared.Term.{Term}
use Rattle.term_sets.proofs.SetLaws.{sets}

-- a coefficient in range that is not zero may be held
pub other_allowed : {N : Type 0} (c : Coefficients N) (zeros : Bool) (a : N) → c.in_range a ≡ true → c.is_zero a ≡ false → good_coefficient c zeros a ≡ true
other_allowed c true a r z = and_true r refl
other_allowed c false a r z = and_true r (ap not z)

module _ {K N : Type 0} (k : Keys K) (c : Coefficients N) (laws : KeyLaws k) (plus : PlusZeroLaws c) where
  -- the zero record is blank, and no other one
  pub blank_passes : any.is_blank k c (any.blank k c) ≡ true
  unfolding any.is_blank
  blank_passes = and_true (laws.itself k.blank) plus.passes

  pub blank_only : (t : Term K N) → any.is_blank k c t ≡ true → t ≡ any.blank k c
  unfolding any.is_blank
  blank_only t e =
      let same = k.same t.key k.blank in
      let zeros = c.is_plus_zero t.coefficient in
      let p = laws.equal t.key k.blank (and_left same zeros e) in
      let a = plus.only t.coefficient (and_right same zeros e) in
      λ j. record { key = p j; coefficient = a j }

  pub valid_means : (zeros : Bool) (s : Set K N) → any.valid_set k c zeros s ≡ valid_places (good_term k c zeros) (any.is_blank k c) s.count s.terms
  unfolding any.valid_set
  valid_means zeros s = refl

  -- this kind of valid set
  abbrev pub valid_sets : Bool → ValidSets (terms k c) (Set K N)
  valid_sets zeros =
      record {
        sets = sets k c;
        good_key = k.good;
        good_coefficient = good_coefficient c zeros;
        in_range = c.in_range;
        is_blank = any.is_blank k c;
        valid = any.valid_set k c zeros;
        means = valid_means zeros;
        passes = blank_passes;
        only = blank_only;
        allows = other_allowed c zeros;
        alike = alike_by (terms k c) laws.itself laws.equal (λ x a. refl);
        coefficient_of_lem = λ x a. refl;
      }

-- ---- products with complex coefficients

abbrev pub valid_term_sets : Bool → ValidSets complex_terms TermSet
valid_term_sets = valid_sets item_keys complexes item_laws complex_plus_zero

module _ (zeros : Bool) (s : TermSet) (e : valid_set zeros s ≡ true) where
  -- the products of its terms are valid
  pub valid-products : each (λ t ts. valid t.key) (held_by s) ≡ true
  valid-products = laws.valid-keys (valid_term_sets zeros) s e

-- the empty set is valid
pub empty-valid : (zeros : Bool) → valid_set zeros (filled []) ≡ true
empty-valid zeros = laws.empty-valid (valid_term_sets zeros)
