-- Valid places, for any kind of terms: what they have, that they are the terms with blanks past them, and that good terms make them.
-- A set has its count n and its places t.
-- Assumes nothing.
use Prim.Native.Nat.{ℕ, ◌-◌, ◌≤◌}
use native.Mathlib.Omega.{arith}
use mathlib.Core.Path.{◌≡◌, refl, ap, ◌∙◌}
use mathlib.Core.Bool.{Bool, true, ◌&&◌}
use mathlib.Core.List.{List, [], ◌∷◌}
use lib.Dec.{leb, eqb}
use lib.ListN.{length, take, drop, replicate, length-drop, length-append, length-replicate}
use lib.Seq.{drop_at}
use borrow.Author.Tests.{eq-eqb, eqb-true, le-leb, leb-true}
use Rattle.letters.proofs.TestLaws.{and_true, and_left, and_right}
use Rattle.terms.specs.Keyed.{padded, each}
use Rattle.terms.specs.Setting.{most_terms}
use Rattle.terms.specs.Places.{valid_places}
use Rattle.terms.proofs.ClosingLaws.{padded-take}
use Rattle.terms.proofs.SettingLaws.{Held, held_past}
use Rattle.terms.proofs.EachLaws.{each-run}
use Rattle.terms.proofs.KeyedLaws.{each_head, each_tail}

-- places that pass a test for blanks, which only the blank passes
module _ {A : Type 0} (test : A → Bool) (blank : A) (only : (x : A) → test x ≡ true → x ≡ blank) where
  blanks_only : (l : List A) → each (λ x xs. test x) l ≡ true → l ≡ replicate (length l) blank
  blanks_only [] e = refl
  blanks_only (x ∷ l) e =
      let h = only x (each_head (λ x xs. test x) x l e) in
      let r = blanks_only l (each_tail (λ x xs. test x) x l e) in
      λ j. h j ∷ r j

  held_blanks : (n : ℕ) (t : List A) → length t ≡ most_terms → n ≤ most_terms → each (λ x xs. test x) (drop n t) ≡ true → Held blank n t
  held_blanks n t whole few past =
      let m : length (drop n t) ≡ most_terms - n = length-drop n t ∙ ap (λ (k : ℕ). k - n) whole in
      held_past blank n t whole few (blanks_only (drop n t) past ∙ ap (λ (k : ℕ). replicate k blank) m)

-- what valid places have
pub record Valid {A : Type 0} (test : A → List A → Bool) (is_blank : A → Bool) (n : ℕ) (t : List A) : Type 0 where
  pub whole : length t ≡ most_terms
  pub few : n ≤ most_terms
  pub good : each test (take n t) ≡ true
  pub past : each (λ x xs. is_blank x) (drop n t) ≡ true

module _ {A : Type 0} (test : A → List A → Bool) (is_blank : A → Bool) (n : ℕ) (t : List A) where
  pub valid-parts : valid_places test is_blank n t ≡ true → Valid test is_blank n t
  unfolding valid_places
  valid-parts e =
      let whole = eqb (length t) most_terms in
      let few = leb n most_terms in
      let good = each test (take n t) in
      let past = each (λ x xs. is_blank x) (drop n t) in
      let e1 : (few && (good && past)) ≡ true = and_right whole (few && (good && past)) e in
      let e2 : (good && past) ≡ true = and_right few (good && past) e1 in
      record {
        whole = eqb-true (length t) most_terms (and_left whole (few && (good && past)) e);
        few = leb-true n most_terms (and_left few (good && past) e1);
        good = and_left good past e2;
        past = and_right good past e2;
      }

  pub valid_by : Valid test is_blank n t → valid_places test is_blank n t ≡ true
  unfolding valid_places
  valid_by v = and_true (eq-eqb (length t) most_terms v.whole) (and_true (le-leb n most_terms v.few) (and_true v.good v.past))

  -- every value of a struct passes the first test: the others decide
  pub valid_is : length t ≡ most_terms → valid_places test is_blank n t ≡ (leb n most_terms && (each test (take n t) && each (λ x xs. is_blank x) (drop n t)))
  unfolding valid_places
  valid_is whole = rw (eq-eqb (length t) most_terms whole)

  -- they are the terms, and blanks past them, where only the blank passes for one
  pub valid-held : (blank : A) → ((x : A) → is_blank x ≡ true → x ≡ blank) → valid_places test is_blank n t ≡ true → Held blank n t
  valid-held blank only e =
      let v = valid-parts e in
      held_blanks is_blank blank only n t v.whole v.few v.past

-- at most the most terms, each of them good, with blanks past them
pub padded-valid : {A : Type 0} (test : A → List A → Bool) (is_blank : A → Bool) (blank : A) → is_blank blank ≡ true → (l : List A) → length l ≤ most_terms → each test l ≡ true
    → valid_places test is_blank (length l) (padded most_terms blank l) ≡ true
padded-valid test is_blank blank passes l few good =
    let n = length-append l (replicate (most_terms - length l) blank) in
    let m = length-replicate (most_terms - length l) blank in
    valid_by test is_blank (length l) (padded most_terms blank l) (record {
      whole = n ∙ omega arith;
      few = few;
      good = ap (each test) (padded-take most_terms blank l) ∙ good;
      past =
          ap (each (λ x xs. is_blank x)) (drop_at l (replicate (most_terms - length l) blank) (length l) refl)
          ∙ each-run is_blank blank passes (most_terms - length l);
    })
