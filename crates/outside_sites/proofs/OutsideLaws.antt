-- The first product with a site at n or above: of a first product, of two lists of products, and of a list of terms, as a loop finds it.
-- Assumes nothing.
use Prim.Native.Nat.{ℕ, suc, ◌+◌, ◌-◌, ◌≤◌, ◌<◌}
use native.Mathlib.Numerals.{add-one}
use native.Mathlib.Omega.{arith}
use mathlib.Core.Path.{◌≡◌, refl, sym, ap, ◌∙◌}
use mathlib.Core.Bool.{true, false, true≢false}
use mathlib.Core.List.{List, [], ◌∷◌, ◌++◌}
use lib.Dec.{ltb}
use lib.ListN.{length, drop, get_or, drop_of_length-le}
use lib.Seq.{drop-cons}
use borrow.Author.Tests.{lt-ltb, le-ltb, ltb-true, ltb-false}
use Rattle.std.specs.Prelude.{Option, Some, None, is_some}
use Rattle.std.specs.Option.{option_or}
use Rattle.refusal.specs.Refusals.{listed}
use Rattle.items.specs.Record.{reach}
use Rattle.items.specs.declared.Items.{Items}
use Rattle.terms.specs.Keyed.{concat_map}
use Rattle.terms.proofs.KeyedLaws.{by_test, concat_map_nil, concat_map_cons}
use Rattle.rows.specs.Calls.{outside}
use Rattle.term_sets.specs.Complexes.{Term, items_of}

-- ---- lists of products

pub outside_none : (n : ℕ) → outside n [] ≡ []
unfolding outside
outside_none n = refl

-- a first product, whose reach is r
module _ (n : ℕ) (p : Items) (ps : List Items) where
  pub first_outside : {r : ℕ} → r ≡ reach p → n < r → outside n (p ∷ ps) ≡ (r - 1) ∷ []
  unfolding outside
  first_outside e h = let l : n < reach p = omega arith in rw (e, lt-ltb n (reach p) l)

  pub first_inside : {r : ℕ} → r ≡ reach p → r ≤ n → outside n (p ∷ ps) ≡ outside n ps
  unfolding outside
  first_inside e h = let l : reach p ≤ n = omega arith in rw (le-ltb n (reach p) l)

  -- where there is none, the first one is below n, and so are the others
  pub reach-below : outside n (p ∷ ps) ≡ [] → reach p ≤ n
  reach-below e =
      by_test (ltb n (reach p))
      (λ q. let z : ◌≡◌ {A = ℕ} 1 0 = ap length (sym (first_outside refl (ltb-true n (reach p) q)) ∙ e) in absurd (omega arith))
      (λ q. ltb-false n (reach p) q)

  pub rest-inside : outside n (p ∷ ps) ≡ [] → outside n ps ≡ []
  rest-inside e = sym (first_inside refl (reach-below e)) ∙ e

-- of two lists, the first one's before the second one's
pub outside_past : (n : ℕ) (a b : List Items) → outside n a ≡ [] → outside n (a ++ b) ≡ outside n b
outside_past n [] b e = refl
outside_past n (p ∷ a) b e = first_inside n p (a ++ b) refl (reach-below n p a e) ∙ outside_past n a b (rest-inside n p a e)

pub outside_found : (n : ℕ) (a b : List Items) {site : ℕ} → outside n a ≡ site ∷ [] → outside n (a ++ b) ≡ site ∷ []
outside_found n [] b e = let z : ◌≡◌ {A = ℕ} 0 1 = ap length (sym (outside_none n) ∙ e) in absurd (omega arith)
outside_found n (p ∷ a) b e =
    by_test (ltb n (reach p))
    (λ q. let l = ltb-true n (reach p) q in first_outside n p (a ++ b) refl l ∙ sym (first_outside n p a refl l) ∙ e)
    (λ q. let l = ltb-false n (reach p) q in first_inside n p (a ++ b) refl l ∙ outside_found n a b (sym (first_inside n p a refl l) ∙ e))

-- a site of the first list, or, where there is none, one of the second list
pub outside_or : (n : ℕ) (a b : List Items) (o m : Option ℕ) → listed o ≡ outside n a → listed m ≡ outside n b → listed (option_or o m) ≡ outside n (a ++ b)
outside_or n a b None m e f = f ∙ sym (outside_past n a b (sym e))
outside_or n a b (Some s) m e f = sym (outside_found n a b (sym e))

-- ---- the search in a list of terms, where g t are the products of the term t: none of those before the place i has a site at n or above

module _ {A : Type 0} (g : A → List Items) (n : ℕ) (l : List A) (i : ℕ) (same : outside n (concat_map g l) ≡ outside n (concat_map g (drop i l))) where
  -- the answer o of the term at i
  module _ (d : A) (o : Option ℕ) (h : i < length l) (e : listed o ≡ outside n (g (get_or l i d))) where
    all_as : outside n (concat_map g l) ≡ outside n (g (get_or l i d) ++ concat_map g (drop (i + 1) l))
    all_as = same ∙ ap (outside n) (rw (add-one i, drop-cons l i d h) (concat_map_cons g (get_or l i d) (drop (suc i) l)))

    pub looked_found : is_some o ≡ true → listed o ≡ outside n (concat_map g l)
    looked_found s = found_by o e s ∙ sym all_as
      where
        found_by : (o : Option ℕ) → listed o ≡ outside n (g (get_or l i d)) → is_some o ≡ true
            → listed o ≡ outside n (g (get_or l i d) ++ concat_map g (drop (i + 1) l))
        found_by None e s = absurd (true≢false (sym s))
        found_by (Some site) e s = sym (outside_found n (g (get_or l i d)) (concat_map g (drop (i + 1) l)) (sym e))

    pub looked_more : is_some o ≡ false → outside n (concat_map g l) ≡ outside n (concat_map g (drop (i + 1) l))
    looked_more s = all_as ∙ none_by o e s
      where
        none_by : (o : Option ℕ) → listed o ≡ outside n (g (get_or l i d)) → is_some o ≡ false
            → outside n (g (get_or l i d) ++ concat_map g (drop (i + 1) l)) ≡ outside n (concat_map g (drop (i + 1) l))
        none_by None e s = outside_past n (g (get_or l i d)) (concat_map g (drop (i + 1) l)) (sym e)
        none_by (Some site) e s = absurd (true≢false s)

  pub looked_done : length l ≤ i → [] ≡ outside n (concat_map g l)
  looked_done h = sym (same ∙ ap (λ (m : List A). outside n (concat_map g m)) (drop_of_length-le l h) ∙ ap (outside n) (concat_map_nil g) ∙ outside_none n)

-- ---- the products of an operator's terms, one each

abbrev pub product : Term → List Items
product t = t.key ∷ []

pub products_are : (l : List Term) → concat_map product l ≡ items_of l
unfolding concat_map
products_are [] = refl
products_are (t ∷ l) = ap (λ (r : List Items). t.key ∷ r) (products_are l)
