-- A walk over terms that judges one after the other, for any kind of them: each term alone, and by a fingerprint of its key, which the same keys
-- share, against those of the terms before it.
-- Assumes nothing.
use Prim.Native.Nat.{ℕ, ◌+◌, ◌≤◌, ◌<◌}
use native.Mathlib.Numerals.{add-one}
use native.Mathlib.Omega.{arith}
use mathlib.Core.Path.{◌≡◌, refl, sym, ap, ◌∙◌}
use mathlib.Core.Bool.{Bool, true, false, not, ◌&&◌, true≢false}
use mathlib.Core.List.{List, [], ◌∷◌, ◌++◌, map}
use lib.ListN.{length, take, drop, get_or, set}
use lib.Seq.{get_or-set_other, take-suc, drop-cons}
use Rattle.std.proofs.lemmas.List.{take-append-drop}
use borrow.Author.Tests.{not-true}
use Rattle.letters.proofs.TestLaws.{and_true, and_left, and_right, neither}
use Rattle.terms.specs.Keyed.{has, each}
use Rattle.terms.specs.Kind.{Terms}
use Rattle.terms.specs.Setting.{keyed}
use Rattle.terms.specs.Places.{good_term}
use Rattle.terms.proofs.KeyedLaws.{each_cons, each_head, each_tail, each_at, by_test, has_last, map_more}
use Rattle.terms.proofs.GoodLaws.{good_key_lem, good_coefficient_lem, good_different}

-- a fingerprint of each key, and a test of two that those of the same keys pass
pub record Fingerprints {K N : Type 0} (S : Terms K N) (B : Type 0) : Type 0 where
  pub fingerprint : K → B
  pub same : B → B → Bool
  pub shared : (x y : K) → S.same x y ≡ true → same (fingerprint y) (fingerprint x) ≡ true

-- one stored at i: the earlier places stay as they were
pub stored_before : (l : List ℕ) (i x j : ℕ) → j < i → get_or (set l i x) j 0 ≡ get_or l j 0
stored_before l i x j h = get_or-set_other l i j x 0 (λ e. omega arith)

-- a test of an element between others
has_within : {A : Type 0} (p : A → Bool) (l : List A) (t : A) (ts : List A) → has p (l ++ t ∷ ts) ≡ false → p t ≡ false
unfolding has
has_within p [] t ts e = (neither (p t) (has p ts) e).0
has_within p (x ∷ l) t ts e = has_within p l t ts (neither (p x) (has p (l ++ t ∷ ts)) e).1

each_within : {A : Type 0} (p : A → List A → Bool) (l : List A) (t : A) (ts : List A) → each p (l ++ t ∷ ts) ≡ true → p t ts ≡ true
each_within p [] t ts e = each_head p t ts e
each_within p (x ∷ l) t ts e = each_within p l t ts (each_tail p x (l ++ t ∷ ts) e)

-- ---- the walk: the first i of the terms l are good, and m has their fingerprints

pub record Fingerprinted {A B : Type 0} (good : A → List A → Bool) (mark : A → B) (l : List A) (m : List B) (i : ℕ) : Type 0 where
  pub within : i ≤ length l
  pub judged : each good (take i l) ≡ true
  pub stored : m ≡ map mark (take i l)

module _ {A B : Type 0} {good : A → List A → Bool} {mark : A → B} {l : List A} {m : List B} where
  pub fingerprinted_none : m ≡ [] → Fingerprinted good mark l m 0
  unfolding each
  fingerprinted_none e = record { within = omega arith; judged = refl; stored = e }

module _ {K N B : Type 0} (S : Terms K N) (good_key : K → Bool) (good_coefficient : N → Bool) (M : Fingerprints S B) where
  abbrev good : S.Term → List S.Term → Bool
  good = good_term S good_key good_coefficient

  -- the tests of a term alone
  abbrev alone : S.Term → Bool
  alone t = good_key (S.key t) && good_coefficient (S.coefficient t)

  abbrev mark : S.Term → B
  mark t = M.fingerprint (S.key t)

  -- ---- one good term more, at the end

  good_by : (t : S.Term) (ts : List S.Term) → alone t ≡ true → has (keyed S (S.key t)) ts ≡ false → good t ts ≡ true
  unfolding good_term
  good_by t ts a e =
      and_true (and_left (good_key (S.key t)) (good_coefficient (S.coefficient t)) a)
      (and_true (and_right (good_key (S.key t)) (good_coefficient (S.coefficient t)) a) (ap not e))

  good_alone : (t : S.Term) (ts : List S.Term) → good t ts ≡ true → alone t ≡ true
  good_alone t ts g = and_true (good_key_lem S good_key good_coefficient t ts g) (good_coefficient_lem S good_key good_coefficient t ts g)

  -- no term before it has its fingerprint
  good_last : (t : S.Term) (l : List S.Term) → alone t ≡ true → has (λ b. M.same b (mark t)) (map mark l) ≡ false → each good l ≡ true → each good (l ++ t ∷ []) ≡ true
  unfolding has each
  good_last t [] a f e = each_cons good t [] (good_by t [] a refl) refl
  good_last t (x ∷ l) a f e =
      let g = each_head good x l e in
      let n = neither (M.same (mark x) (mark t)) (has (λ b. M.same b (mark t)) (map mark l)) f in
      let once = not-true (has (keyed S (S.key x)) l) (good_different S good_key good_coefficient x l g) in
      let other : S.same (S.key t) (S.key x) ≡ false =
      by_test (S.same (S.key t) (S.key x)) (λ s. absurd (true≢false (sym (M.shared (S.key t) (S.key x) s) ∙ n.0))) (λ s. s) in
      each_cons good x (l ++ t ∷ []) (good_by x (l ++ t ∷ []) (good_alone x l g) (has_last (keyed S (S.key x)) t l once other)) (good_last t l a n.1 (each_tail good x l e))

  -- among good terms no fingerprint repeats, where good keys with one fingerprint are the same
  good_once : ((k m : K) → good_key k ≡ true → good_key m ≡ true → M.same (M.fingerprint m) (M.fingerprint k) ≡ true → S.same k m ≡ true)
      → (t : S.Term) (l ts : List S.Term) → each good (l ++ t ∷ ts) ≡ true → has (λ b. M.same b (mark t)) (map mark l) ≡ false
  unfolding has
  good_once one t [] ts e = refl
  good_once one t (x ∷ l) ts e =
      let all = l ++ t ∷ ts in
      let g = each_head good x all e in
      let h = each_within good l t ts (each_tail good x all e) in
      let once = has_within (keyed S (S.key x)) l t ts (not-true (has (keyed S (S.key x)) all) (good_different S good_key good_coefficient x all g)) in
      let other : M.same (mark x) (mark t) ≡ false =
      by_test (M.same (mark x) (mark t))
      (λ s. absurd (true≢false (sym (one (S.key t) (S.key x) (good_key_lem S good_key good_coefficient t ts h) (good_key_lem S good_key good_coefficient x all g) s) ∙ once)))
      (λ s. s) in
      rw (other, good_once one t l ts (each_tail good x all e))

  -- ---- one step of the walk

  -- the term at i, which code reads as `get_or l i d`
  module _ {l : List S.Term} {m : List B} {i : ℕ} (d : S.Term) (c : Fingerprinted good mark l m i) (h : i < length l) where
    abbrev this : S.Term
    this = get_or l i d

    -- it fails alone
    pub fingerprinted_failed : alone this ≡ false → each good l ≡ false
    fingerprinted_failed a = by_test (each good l) (λ e. absurd (true≢false (sym (good_alone this (drop (i + 1) l) (each_at good l i d h e)) ∙ a))) (λ e. e)

    module _ {x : B} (is : x ≡ mark this) where
      seen_is : has (λ b. M.same b x) m ≡ has (λ b. M.same b (mark this)) (map mark (take i l))
      seen_is = λ j. has (λ b. M.same b (is j)) (c.stored j)

      -- its fingerprint repeats, where good keys with one fingerprint are the same
      pub fingerprinted_again : ((k n : K) → good_key k ≡ true → good_key n ≡ true → M.same (M.fingerprint n) (M.fingerprint k) ≡ true → S.same k n ≡ true)
          → has (λ b. M.same b x) m ≡ true → each good l ≡ false
      fingerprinted_again one seen =
          let parts : take i l ++ this ∷ drop (i + 1) l ≡ l = rw (add-one i, ← drop-cons l i d h, take-append-drop i l) in
          by_test (each good l)
          (λ e. absurd (true≢false (sym seen ∙ seen_is ∙ good_once one this (take i l) (drop (i + 1) l) (ap (each good) parts ∙ e))))
          (λ e. e)

      -- it passes, and its fingerprint is new
      pub fingerprinted_more : {n : List B} → alone this ≡ true → has (λ b. M.same b x) m ≡ false → n ≡ m ++ x ∷ [] → Fingerprinted good mark l n (i + 1)
      fingerprinted_more a fresh last =
          record {
            within = omega arith;
            judged = rw (add-one i, take-suc l i d h) (good_last this (take i l) a (sym seen_is ∙ fresh) c.judged);
            stored = last ∙ (λ j. c.stored j ++ is j ∷ []) ∙ sym (map_more mark l i d h);
          }
