-- Masks: those that are the same are equal, those whose mark is not set were not seen, and those of good keys tell the keys apart.
-- Assumes nothing.
use mathlib.Core.Path.{◌≡◌, refl, sym, ap, ◌∙◌}
use mathlib.Core.Bool.{Bool, true, false, ◌||◌, true≢false}
use mathlib.Core.List.{List, [], ◌∷◌}
use lib.Dec.{eqb}
use lib.ListN.{get_or}
use borrow.Author.Tests.{eq-eqb, eqb-true}
use Rattle.letters.proofs.TestLaws.{and_true, and_left, and_right}
use Rattle.std.proofs.lemmas.List.Recursion.{or_from_places}
use Rattle.std.specs.List.{list_any}
use Rattle.terms.specs.Keyed.{has}
use Rattle.terms.proofs.KeyedLaws.{by_test}
use Rattle.terms.proofs.FingerprintLaws.{Fingerprints}
use Rattle.complex.specs.Coefficients.{Coefficients}
use Rattle.term_sets.specs.Keys.{Keys, KeyLaws}
use Rattle.term_sets.specs.Seen.{mark_of, same_masks, holds, Marked}
use Rattle.term_sets.specs.Sets.{terms}
use Rattle.term_sets.specs.declared.masks.Masks.{Masks}

pub same_masks_self : (x : Masks) → same_masks x x ≡ true
same_masks_self x = and_true (eq-eqb x.left x.left refl) (eq-eqb x.right x.right refl)

pub same_masks-equal : (x y : Masks) → same_masks x y ≡ true → x ≡ y
same_masks-equal x y e =
    let left : x.left ≡ y.left = eqb-true x.left y.left (and_left (eqb x.left y.left) (eqb x.right y.right) e) in
    let right : x.right ≡ y.right = eqb-true x.right y.right (and_right (eqb x.left y.left) (eqb x.right y.right) e) in
    λ j. record { left = left j; right = right j }

-- ---- masks that were seen

-- what a search of a list answers
pub any_holds : (x : Masks) (l : List Masks) → list_any (λ y. same_masks y x) l ≡ holds l x
unfolding has
any_holds x [] = refl
any_holds x (y ∷ l) = ap (λ (b : Bool). same_masks y x || b) (any_holds x l)

-- the mark of x is not set: x is none of the masks
pub unmarked_new : {masks : List Masks} {marks : List Bool} (x : Masks) → Marked masks marks → get_or marks (mark_of x) false ≡ false → holds masks x ≡ false
unfolding has
unmarked_new {masks} {marks} x m e =
    let none : Masks = record { left = 0; right = 0 } in
    or_from_places (λ l. holds l x) (λ y. same_masks y x) refl (λ y l. refl) masks none
    (λ j h.
    by_test (same_masks (get_or masks j none) x)
    (λ s. absurd (true≢false (sym (m.each j h) ∙ ap (λ (y : Masks). get_or marks (mark_of y) false) (same_masks-equal (get_or masks j none) x s) ∙ e)))
    (λ f. f))

-- ---- masks of keys

module _ {K N : Type 0} (k : Keys K) (c : Coefficients N) (laws : KeyLaws k) where
  -- as fingerprints: the same keys share them
  abbrev pub masks_as : Fingerprints (terms k c) Masks
  masks_as =
      record {
        fingerprint = k.masks_of;
        same = same_masks;
        shared = λ x y e. ap (λ (z : K). same_masks (k.masks_of y) (k.masks_of z)) (laws.equal x y e) ∙ same_masks_self (k.masks_of y);
      }

  -- good keys with the same masks are the same
  pub masks_again : (x y : K) → k.good x ≡ true → k.good y ≡ true → same_masks (k.masks_of y) (k.masks_of x) ≡ true → k.same x y ≡ true
  masks_again x y g h e = laws.told_apart x y g h (same_masks-equal (k.masks_of y) (k.masks_of x) e)
