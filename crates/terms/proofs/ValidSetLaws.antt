-- Valid sets, for any kind of set: what a valid one holds, the tests of the term at a place, that good terms make a valid set, what an entry or a
-- chain of additions leaves.
-- Assumes nothing.
use Prim.Native.Nat.{◌≤◌}
use native.Mathlib.Omega.{arith}
use mathlib.Core.Path.{◌≡◌, refl, sym, ap, ◌∙◌}
use mathlib.Core.Bool.{Bool, true, false, not}
use mathlib.Core.List.{List, []}
use lib.ListN.{length}
use borrow.Author.Tests.{not-true}
use Rattle.refusal.specs.Refusals.{Said, gives}
use Rattle.terms.specs.Keyed.{each}
use Rattle.terms.specs.Kind.{Terms}
use Rattle.terms.specs.Setting.{most_terms, write, has_room, added, add_all}
use Rattle.terms.specs.Places.{good_term, valid_places}
use Rattle.terms.specs.Entries.{all_in_range, set_in, add_in, ended}
use Rattle.terms.proofs.SettingLaws.{Held, Alike, different, write-length, keys-write, each_write, each-write-other}
use Rattle.terms.proofs.EachLaws.{each_follows, each_both}
use Rattle.terms.proofs.FilledLaws.{Sets, held_in, own_held, filled-count, filled-places}
use Rattle.terms.proofs.PlacesLaws.{Valid, padded-valid}
use Rattle.terms.proofs.PlacesLaws as places
use Rattle.terms.proofs.GoodLaws as good
use Rattle.terms.proofs.AnswerLaws.{Answered, set_answered, add_answered, ended_answered}
use Rattle.terms.proofs.StepLaws.{Giving, add_all_keeps}

-- a kind of set with terms of S: what the keys and the coefficients of its terms have to pass, which of its places are blank, and which records
-- are valid
pub record ValidSets {K N : Type 0} (S : Terms K N) (R : Type 0) : Type 0 where
  pub sets : Sets S.Term R
  pub good_key : K → Bool
  pub good_coefficient : N → Bool
  pub in_range : N → Bool
  pub is_blank : S.Term → Bool
  pub valid : R → Bool
  -- a record is valid as its count and its places are
  pub means : (s : R) → valid s ≡ valid_places (good_term S good_key good_coefficient) is_blank (sets.count s) (sets.places s)
  -- the blank is blank, and nothing else
  pub passes : is_blank sets.blank ≡ true
  pub only : (x : S.Term) → is_blank x ≡ true → x ≡ sets.blank
  -- a coefficient in range that is not zero is good
  pub allows : (a : N) → in_range a ≡ true → S.is_zero a ≡ false → good_coefficient a ≡ true
  -- keys are the same as equal ones, and a term has its coefficient
  pub alike : Alike S
  pub coefficient_of_lem : (k : K) (a : N) → S.coefficient (S.term k a) ≡ a

module _ {K N R : Type 0} {S : Terms K N} (W : ValidSets S R) where
  -- a set's terms; the test of one of them, with those after it
  abbrev terms : R → List S.Term
  terms s = held_in W.sets s

  abbrev fine : S.Term → List S.Term → Bool
  fine = good_term S W.good_key W.good_coefficient

  -- ---- what a valid set holds

  module _ (s : R) where
    pub valid-parts : W.valid s ≡ true → Valid fine W.is_blank (W.sets.count s) (W.sets.places s)
    valid-parts e = places.valid-parts fine W.is_blank (W.sets.count s) (W.sets.places s) (sym (W.means s) ∙ e)

    pub valid_by : Valid fine W.is_blank (W.sets.count s) (W.sets.places s) → W.valid s ≡ true
    valid_by v = W.means s ∙ places.valid_by fine W.is_blank (W.sets.count s) (W.sets.places s) v

  module _ (s : R) (e : W.valid s ≡ true) where
    pub valid-count : W.sets.count s ≤ most_terms
    valid-count = (valid-parts s e).few

    -- its places are its terms, and blanks past them
    pub valid-held : Held W.sets.blank (W.sets.count s) (W.sets.places s)
    valid-held = places.valid-held fine W.is_blank (W.sets.count s) (W.sets.places s) W.sets.blank W.only (sym (W.means s) ∙ e)

    -- it is the set that holds its terms
    pub valid_own : s ≡ W.sets.filled (terms s)
    valid_own = own_held W.sets s valid-held

    -- which are no more than the most
    pub valid-few : length (terms s) ≤ most_terms
    valid-few = omega (arith, valid-held.long, valid-held.few)

    -- their keys and coefficients are good, and no key comes twice
    pub valid-keys : each (λ t ts. W.good_key (S.key t)) (terms s) ≡ true
    valid-keys = good.good_keys S W.good_key W.good_coefficient (terms s) (valid-parts s e).good

    pub valid-coefficients : each (λ t ts. W.good_coefficient (S.coefficient t)) (terms s) ≡ true
    valid-coefficients = good.good_coefficients S W.good_key W.good_coefficient (terms s) (valid-parts s e).good

    pub valid-different : each (different S) (terms s) ≡ true
    valid-different = good.good_differents S W.good_key W.good_coefficient (terms s) (valid-parts s e).good

  -- ---- good terms make a valid set

  -- from tests of each term alone, and of keys
  pub filled-valid : (l : List S.Term) → length l ≤ most_terms → each (λ t ts. W.good_key (S.key t)) l ≡ true → each (λ t ts. W.good_coefficient (S.coefficient t)) l ≡ true
      → each (different S) l ≡ true → W.valid (W.sets.filled l) ≡ true
  filled-valid l few keys coefficients once =
      let n = filled-count W.sets l in
      let t = filled-places W.sets l in
      W.means (W.sets.filled l)
      ∙ (λ j. valid_places fine W.is_blank (n j) (t j))
      ∙ padded-valid fine W.is_blank W.sets.blank W.passes l few (good.all_good S W.good_key W.good_coefficient l keys coefficients once)

  pub empty-valid : W.valid (W.sets.filled []) ≡ true
  unfolding each
  empty-valid = filled-valid [] (omega arith) refl refl refl

  -- ---- what an entry leaves

  -- a coefficient in range, put under a good key of a valid set that has room for it
  pub write-valid : (s : R) (k : K) → W.valid s ≡ true → W.good_key k ≡ true
      → (a : N) → W.in_range a ≡ true → has_room S k a (terms s) ≡ true → W.valid (W.sets.filled (write S k a (terms s))) ≡ true
  write-valid s k v w a r room =
      let l = terms s in
      filled-valid (write S k a l)
      (write-length S k a l room (valid-few s v))
      (each_write S (λ t. W.good_key (S.key t)) k a l (valid-keys s v) (ap W.good_key (W.alike.key_of k a) ∙ w))
      (each-write-other S (λ t. W.good_coefficient (S.coefficient t)) k a l (valid-coefficients s v) (λ z. ap W.good_coefficient (W.coefficient_of_lem k a) ∙ W.allows a r z))
      (keys-write S W.alike k a l (valid-different s v))

  module _ (s : R) (k : K) (a : N) (v : W.valid s ≡ true) (w : W.good_key k ≡ true) where
    pub set_valid : {A : Type 0} (shown : S.Term → A) → Answered (λ x. W.valid x ≡ true) s (set_in S W.in_range W.sets.filled shown s (terms s) k a)
    set_valid = set_answered S W.in_range W.sets.filled (terms s) k a (write-valid s k v w)

    pub add_valid : Answered (λ x. W.valid x ≡ true) s (add_in S W.in_range W.sets.filled s (terms s) k a)
    add_valid = add_answered S W.in_range W.sets.filled (terms s) k a (write-valid s k v w)

-- ---- what a chain of additions holds: terms that a valid set can hold, but for the range of their coefficients

-- at most the most terms, with good keys, none zero, and no key twice
pub record Sound {K N : Type 0} (S : Terms K N) (good_key : K → Bool) (l : List S.Term) : Type 0 where
  pub few : length l ≤ most_terms
  pub keys : each (λ t ts. good_key (S.key t)) l ≡ true
  pub nonzero : each (λ t ts. not (S.is_zero (S.coefficient t))) l ≡ true
  pub once : each (different S) l ≡ true

module _ {K N R : Type 0} {S : Terms K N} (W : ValidSets S R) where
  -- no terms, and those of a valid set without zeros
  pub sound_none : Sound S W.good_key []
  unfolding each
  sound_none = record { few = omega arith; keys = refl; nonzero = refl; once = refl }

  pub sound_held : ((a : N) → W.good_coefficient a ≡ true → not (S.is_zero a) ≡ true) → (s : R) → W.valid s ≡ true → Sound S W.good_key (held_in W.sets s)
  sound_held other s v =
      record {
        few = valid-few W s v;
        keys = valid-keys W s v;
        nonzero =
            each_follows (λ t ts. W.good_coefficient (S.coefficient t)) (λ t ts. not (S.is_zero (S.coefficient t))) (λ t ts. other (S.coefficient t)) (held_in W.sets s) (valid-coefficients W s v);
        once = valid-different W s v;
      }

  -- a coefficient put under a good key, with room for it
  pub sound_write : (k : K) (a : N) (l : List S.Term) → Sound S W.good_key l → W.good_key k ≡ true → has_room S k a l ≡ true → Sound S W.good_key (write S k a l)
  sound_write k a l h g room =
      record {
        few = write-length S k a l room h.few;
        keys = each_write S (λ t. W.good_key (S.key t)) k a l h.keys (ap W.good_key (W.alike.key_of k a) ∙ g);
        nonzero =
            each-write-other S (λ t. not (S.is_zero (S.coefficient t))) k a l h.nonzero (λ z. ap (λ (b : N). not (S.is_zero b)) (W.coefficient_of_lem k a) ∙ ap not z);
        once = keys-write S W.alike k a l h.once;
      }

  -- steps that give terms with good keys, one after the other
  pub sound_all : (xs : List (Said S.Term)) (l m : List S.Term) → Giving S (λ t. W.good_key (S.key t) ≡ true) xs → Sound S W.good_key l → add_all S xs l ≡ gives m → Sound S W.good_key m
  sound_all xs l m g h e =
      add_all_keeps S (Sound S W.good_key) (λ t. W.good_key (S.key t) ≡ true) (λ t n q p r. sound_write (S.key t) (added S (S.key t) (S.coefficient t) n) n p q r) xs l m g h e

  -- with coefficients in range they make a valid set
  pub sound_valid : (l : List S.Term) → Sound S W.good_key l → all_in_range S W.in_range l ≡ true → W.valid (W.sets.filled l) ≡ true
  unfolding all_in_range
  sound_valid l h r =
      filled-valid W l h.few h.keys
      (each_both (λ t ts. W.in_range (S.coefficient t)) (λ t ts. not (S.is_zero (S.coefficient t))) (λ t ts. W.good_coefficient (S.coefficient t))
      (λ t ts a b. W.allows (S.coefficient t) a (not-true (S.is_zero (S.coefficient t)) b)) l r h.nonzero)
      h.once

  -- the answer of such a chain, with s beside its refusals
  pub chain_valid : (s : R) (xs : List (Said S.Term)) (l : List S.Term) → Giving S (λ t. W.good_key (S.key t) ≡ true) xs → Sound S W.good_key l
      → Answered (λ x. W.valid x ≡ true) s (ended S W.in_range W.sets.filled s (add_all S xs l))
  chain_valid s xs l g h =
      ended_answered S W.in_range W.sets.filled (add_all S xs l) (λ m e r. sound_valid m (sound_all xs l m g h e) r)
