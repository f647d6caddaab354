-- A set judged by its masks, for any keys and coefficients: whether its terms are good, by what was found of one of them, and whether the set is
-- valid, by its terms and by what stands past them.
-- Assumes nothing.
use Prim.Native.Nat.{ℕ, ◌+◌, ◌≤◌, ◌<◌}
use mathlib.Core.Path.{◌≡◌, refl, sym, ap, ◌∙◌}
use mathlib.Core.Bool.{Bool, true, false, ◌&&◌, cond}
use mathlib.Core.List.{List, [], ◌∷◌, ◌++◌}
use lib.Dec.{eqb}
use lib.ListN.{length, drop, get_or}
use borrow.Author.Tests.{le-leb, lt-leb}
use Rattle.letters.proofs.TestLaws.{and_true, and_false}
use Rattle.std.specs.Prelude.{Some, None}
use Rattle.std.specs.List.{list_all}
use Rattle.complex.specs.Coefficients.{Coefficients}
use Rattle.terms.specs.Keyed.{each}
use Rattle.terms.specs.Setting.{most_terms}
use Rattle.terms.proofs.FingerprintLaws.{Fingerprinted, fingerprinted_failed, fingerprinted_again, fingerprinted_more}
use Rattle.terms.specs.Places.{valid_places}
use Rattle.terms.proofs.PlacesLaws.{valid_is}
use Rattle.term_sets.specs.Keys.{Keys, KeyLaws}
use Rattle.term_sets.specs.Seen.{holds}
use Rattle.term_sets.specs.Sets.{terms, held_by, good_coefficient, good_term, is_blank, valid_set}
use Rattle.term_sets.specs.declared.Set.{Set}
use Rattle.term_sets.specs.declared.Term.{Term}
use Rattle.term_sets.specs.declared.masks.Masks.{Masks}
use Rattle.term_sets.proofs.MaskLaws.{masks_as, masks_again}

-- what a test lets pass, and what it does not
pub key_refused : {A : Type 0} (b : Bool) (x : A) → None ≡ cond b (Some x) None → b ≡ false
key_refused true x e = cc
key_refused false x e = refl

pub key_judged : {A : Type 0} (b : Bool) (x y : A) → Some y ≡ cond b (Some x) None → (b ≡ true) × (y ≡ x)
key_judged true x y e = (refl, cc)
key_judged false x y e = cc

and_last : (a : Bool) {b : Bool} → b ≡ true → (a && b) ≡ a
and_last true e = e
and_last false e = refl

-- a test of each element alone
pub all_each : {A : Type 0} (p : A → Bool) (l : List A) → list_all p l ≡ each (λ x xs. p x) l
unfolding each
all_each p [] = refl
all_each p (x ∷ l) = ap (λ (b : Bool). p x && b) (all_each p l)

module _ {K N : Type 0} (k : Keys K) (c : Coefficients N) where
  -- ---- the walk: the first i of the terms l are good, and m has their masks; t is the term at i, as code reads it

  module _ (laws : KeyLaws k) (zeros : Bool) {l : List (Term K N)} {m : List Masks} {i : ℕ} (t : Term K N) (is : t ≡ get_or l i t)
      (j : Fingerprinted (good_term k c zeros) (λ t. k.masks_of t.key) l m i) (h : i < length l) where
    abbrev coefficient_good : Term K N → Bool
    coefficient_good y = good_coefficient c zeros y.coefficient

    alone_no : (k.good t.key && coefficient_good t) ≡ false → each (good_term k c zeros) l ≡ false
    alone_no e =
        fingerprinted_failed (terms k c) k.good (good_coefficient c zeros) (masks_as k c laws) t j h
        (ap (λ (y : Term K N). k.good y.key && coefficient_good y) (sym is) ∙ e)

    -- its key is not good
    pub bad_key : None ≡ cond (k.good t.key) (Some (k.masks_of t.key)) None → each (good_term k c zeros) l ≡ false
    bad_key e = alone_no (ap (λ (b : Bool). b && coefficient_good t) (key_refused (k.good t.key) (k.masks_of t.key) e))

    -- its coefficient is not
    pub bad_coefficient : coefficient_good t ≡ false → each (good_term k c zeros) l ≡ false
    bad_coefficient e = alone_no (and_false (k.good t.key) (coefficient_good t) e)

    module _ {x : Masks} (e : Some x ≡ cond (k.good t.key) (Some (k.masks_of t.key)) None) where
      judged : (k.good t.key ≡ true) × (x ≡ k.masks_of t.key)
      judged = key_judged (k.good t.key) (k.masks_of t.key) x e

      masks_are : x ≡ k.masks_of (get_or l i t).key
      masks_are = judged.1 ∙ ap (λ (y : Term K N). k.masks_of y.key) is

      -- its masks were seen
      pub seen_before : holds m x ≡ true → each (good_term k c zeros) l ≡ false
      seen_before s = fingerprinted_again (terms k c) k.good (good_coefficient c zeros) (masks_as k c laws) t j h masks_are (masks_again k c laws) s

      -- it is good
      pub judged_more : {n : List Masks} → coefficient_good t ≡ true → holds m x ≡ false → n ≡ m ++ x ∷ []
          → Fingerprinted (good_term k c zeros) (λ t. k.masks_of t.key) l n (i + 1)
      judged_more g s last =
          fingerprinted_more (terms k c) k.good (good_coefficient c zeros) (masks_as k c laws) t j h masks_are
          (ap (λ (y : Term K N). k.good y.key && coefficient_good y) (sym is) ∙ and_true judged.0 g)
          s
          last

  -- ---- the set, by its terms and by what stands past them

  module _ (zeros : Bool) (s : Set K N) where
    -- more terms than the most
    pub too_many : most_terms < s.count → valid_set k c zeros s ≡ false
    unfolding valid_set valid_places
    too_many h = rw (lt-leb s.count most_terms h) (and_false (eqb (length s.terms) most_terms) false refl)

    module _ (whole : length s.terms ≡ most_terms) (few : s.count ≤ most_terms) where
      valid_as : valid_set k c zeros s ≡ (each (good_term k c zeros) (held_by s) && each (λ t ts. is_blank k c t) (drop s.count s.terms))
      unfolding valid_set
      valid_as = rw (valid_is (good_term k c zeros) (is_blank k c) s.count s.terms whole, le-leb s.count most_terms few)

      -- a place past the count is not blank
      pub not_blank : each (λ t ts. is_blank k c t) (drop s.count s.terms) ≡ false → valid_set k c zeros s ≡ false
      not_blank e = rw (valid_as, e) (and_false (each (good_term k c zeros) (held_by s)) false refl)

      -- the places past the count are blank: the held terms decide
      pub by_held : each (λ t ts. is_blank k c t) (drop s.count s.terms) ≡ true → each (good_term k c zeros) (held_by s) ≡ valid_set k c zeros s
      by_held e = sym (rw valid_as (and_last (each (good_term k c zeros) (held_by s)) e))
