-- Laws of chains of steps, each a term to add or a refusal: one step, what each step keeps, the product of two sets where no product of keys is
-- refused, and terms whose keys stay different, which added to nothing give the same terms without their zeros. For any kind of terms.
-- Assumes nothing.
use Prim.Native.Nat.{ℕ, ◌+◌, ◌≤◌, ◌<◌}
use native.Mathlib.Omega.{arith}
use mathlib.Core.Path.{◌≡◌, refl, sym, ap, ◌∙◌, subst}
use mathlib.Core.Bool.{Bool, true, false, ◌||◌, cond, true≢false}
use mathlib.Core.List.{List, [], ◌∷◌, ◌++◌, map, append-nil, append_assoc}
use lib.ListN.{length, length-append}
use borrow.Author.Tests.{lt-ltb, not-true}
use Rattle.refusal.specs.Refusals.{Said, gives, refuses}
use Rattle.letters.proofs.TestLaws.{neither}
use Rattle.terms.specs.Keyed.{held, has, written, struck, each, concat_map}
use Rattle.terms.specs.Kind.{Terms, Products}
use Rattle.terms.specs.Setting.{most_terms, keyed, coefficient_at, write, has_room, added, add_all}
use Rattle.terms.specs.Chains.{and_then, times_steps}
use Rattle.terms.proofs.KeyedLaws.{Nowhere, nowhere, has_false, has_last, each_head, each_tail, head_or_none, map_append, concat_map_nil, concat_map_cons, All, all_nil, all_cons, all_head, all_tail, all_of, by_test}
use Rattle.terms.proofs.EachLaws.{all_results}
use Rattle.terms.proofs.SettingLaws.{different, room_for, add_one, Alike, write-zero, write-other}
use Rattle.terms.proofs.AnswerLaws.{not_both}

-- what is given is one thing
pub given-same : {A : Type 0} (x y : A) → gives x ≡ gives y → x ≡ y
given-same x y e = cc

module _ {K N : Type 0} (S : Terms K N) where
  -- ---- one step

  -- none left
  pub add_all_nil : (l : List S.Term) → add_all S [] l ≡ gives l
  unfolding add_all
  add_all_nil l = refl

  -- a refusal
  pub add_all_refused : (n : ℕ) (s : List ℕ) (xs : List (Said S.Term)) (l : List S.Term) → add_all S (refuses n s ∷ xs) l ≡ refuses n s
  unfolding add_all
  add_all_refused n s xs l = refl

  -- a term that there is room for
  pub add_all_room : (t : S.Term) (xs : List (Said S.Term)) (l : List S.Term) → room_for S t l ≡ true → add_all S (gives t ∷ xs) l ≡ add_all S xs (add_one S t l)
  unfolding add_all
  add_all_room t xs l r = rw r

  -- a term that there is no room for
  pub add_all_full : (t : S.Term) (xs : List (Said S.Term)) (l : List S.Term) → room_for S t l ≡ false → add_all S (gives t ∷ xs) l ≡ refuses 6 []
  unfolding add_all
  add_all_full t xs l r = rw r

  -- ---- what each step keeps is kept: P of the terms held, Q of those that the steps give

  -- the steps give terms with Q
  abbrev pub Giving : (S.Term → Type 0) → List (Said S.Term) → Type 0
  Giving Q xs = All (λ x. (t : S.Term) → x ≡ gives t → Q t) xs

  -- so it is where every step is such a term
  pub giving_terms : (Q : S.Term → Type 0) (ts : List S.Term) → All Q ts → Giving Q (map gives ts)
  giving_terms Q ts h = all_results Q _ gives (λ t q u e. subst Q (given-same t u e) q) ts h

  pub add_all_keeps : (P : List S.Term → Type 0) (Q : S.Term → Type 0) → ((t : S.Term) (m : List S.Term) → Q t → P m → room_for S t m ≡ true → P (add_one S t m))
      → (xs : List (Said S.Term)) (l l' : List S.Term) → Giving Q xs → P l → add_all S xs l ≡ gives l' → P l'
  add_all_keeps P Q step [] l l' q h e = subst P (given-same l l' (sym (add_all_nil l) ∙ e)) h
  add_all_keeps P Q step (refuses n s ∷ xs) l l' q h e = absurd (not_both l' n s (sym e ∙ add_all_refused n s xs l))
  add_all_keeps P Q step (gives t ∷ xs) l l' q h e =
      by_test (room_for S t l)
      (λ r. add_all_keeps P Q step xs (add_one S t l) l' (all_tail _ (gives t) xs q) (step t l (all_head _ (gives t) xs q t refl) h r) (sym (add_all_room t xs l r) ∙ e))
      (λ r. absurd (not_both l' 6 [] (sym e ∙ add_all_full t xs l r)))

  -- ---- terms whose keys stay different

  -- a term added to nothing: its coefficient added to zero, and none where that is zero
  abbrev pub alone : S.Term → N
  alone t = S.sum S.zero (S.coefficient t)

  unfoldable pub kept : List S.Term → List S.Term
  kept [] = []
  kept (t ∷ ts) = cond (S.is_zero (alone t)) (kept ts) (S.term (S.key t) (alone t) ∷ kept ts)

  -- some terms, then others
  pub kept_append : (l r : List S.Term) → kept (l ++ r) ≡ kept l ++ kept r
  unfolding kept
  kept_append [] r = refl
  kept_append (t ∷ l) r =
      by_test (S.is_zero (alone t))
      (λ z. rw z (kept_append l r))
      (λ z. rw z (ap (λ (m : List S.Term). S.term (S.key t) (alone t) ∷ m) (kept_append l r)))

  -- no more terms than there were
  pub kept_length : (l : List S.Term) → length (kept l) ≤ length l
  unfolding kept
  kept_length [] = omega arith
  kept_length (t ∷ l) = let h = kept_length l in by_test (S.is_zero (alone t)) (λ z. rw z (omega arith)) (λ z. rw z (omega arith))

  -- one term
  pub kept_zero : (t : S.Term) → S.is_zero (alone t) ≡ true → kept (t ∷ []) ≡ []
  unfolding kept
  kept_zero t z = rw z

  pub kept_other : (t : S.Term) → S.is_zero (alone t) ≡ false → kept (t ∷ []) ≡ S.term (S.key t) (alone t) ∷ []
  unfolding kept
  kept_other t z = rw z

  module _ (t : S.Term) (l : List S.Term) (free : has (keyed S (S.key t)) l ≡ false) where
    no_place : Nowhere l (has (keyed S (S.key t)) l) (held (keyed S (S.key t)) l) (λ x. written (keyed S (S.key t)) x l) (struck (keyed S (S.key t)) l)
    no_place = nowhere (keyed S (S.key t)) l (has_false (keyed S (S.key t)) l free)

    free_sum : added S (S.key t) (S.coefficient t) l ≡ alone t
    unfolding added coefficient_at
    free_sum = ap (λ (a : N). S.sum a (S.coefficient t)) (rw no_place.held (head_or_none S.coefficient S.zero))

    free_room : length l < most_terms → room_for S t l ≡ true
    unfolding has_room
    free_room few = rw (lt-ltb (length l) most_terms few) (or_true (S.is_zero (added S (S.key t) (S.coefficient t) l)) (has (keyed S (S.key t)) l))
      where
        or_true : (a b : Bool) → (a || (b || true)) ≡ true
        or_true true b = refl
        or_true false true = refl
        or_true false false = refl

    free_zero : S.is_zero (alone t) ≡ true → add_one S t l ≡ l
    free_zero z =
        ap (λ (a : N). write S (S.key t) a l) free_sum
        ∙ write-zero S (S.key t) (alone t) l z
        ∙ no_place.struck

    free_other : S.is_zero (alone t) ≡ false → add_one S t l ≡ l ++ S.term (S.key t) (alone t) ∷ []
    free_other z =
        ap (λ (a : N). write S (S.key t) a l) free_sum
        ∙ write-other S (S.key t) (alone t) l z
        ∙ no_place.written (S.term (S.key t) (alone t))

  -- no key of the terms is in l
  abbrev Apart : List S.Term → List S.Term → Type 0
  Apart ts l = All (λ t. has (keyed S (S.key t)) l ≡ false) ts

  -- one key more beside l, which they don't have
  still_apart : Alike S → (t : S.Term) (a : N) (ts l : List S.Term) → has (keyed S (S.key t)) ts ≡ false → Apart ts l → Apart ts (l ++ S.term (S.key t) a ∷ [])
  unfolding has
  still_apart r t a [] l e h = all_nil _
  still_apart r t a (u ∷ ts) l e h =
      let n = neither (keyed S (S.key t) u) (has (keyed S (S.key t)) ts) e in
      let other = by_test (S.same (S.key (S.term (S.key t) a)) (S.key u))
      (λ y. absurd (true≢false (sym (r.swap (S.key t) (S.key u) (subst (λ (k : K). S.same k (S.key u) ≡ true) (r.key_of (S.key t) a) y)) ∙ n.0)))
      (λ y. y) in
      all_cons _ u ts (has_last (keyed S (S.key u)) (S.term (S.key t) a) l (all_head _ u ts h) other) (still_apart r t a ts l n.1 (all_tail _ u ts h))

  apart_added : Alike S → (ts l : List S.Term) → each (different S) ts ≡ true → Apart ts l → length l + length ts ≤ most_terms
      → add_all S (map gives ts) l ≡ gives (l ++ kept ts)
  unfolding kept
  apart_added r [] l e h few = add_all_nil l ∙ ap gives (sym (append-nil l))
  apart_added r (t ∷ ts) l e h few =
      let free = all_head _ t ts h in
      let new = S.term (S.key t) (alone t) in
      let once = not-true (has (keyed S (S.key t)) ts) (each_head (different S) t ts e) in
      let more : length (l ++ new ∷ []) + length ts ≤ most_terms = rw (length-append l (new ∷ [])) (omega arith) in
      add_all_room t (map gives ts) l (free_room t l free (omega arith))
      ∙ by_test (S.is_zero (alone t))
      (λ z. ap (add_all S (map gives ts)) (free_zero t l free z)
      ∙ apart_added r ts l (each_tail (different S) t ts e) (all_tail _ t ts h) (omega arith)
      ∙ rw z)
      (λ z. ap (add_all S (map gives ts)) (free_other t l free z)
      ∙ apart_added r ts (l ++ new ∷ []) (each_tail (different S) t ts e) (still_apart r t (alone t) ts l once (all_tail _ t ts h)) more
      ∙ ap gives (append_assoc l (new ∷ []) (kept ts))
      ∙ rw z)

  -- terms with different keys, added to nothing
  pub different-added : Alike S → (ts : List S.Term) → each (different S) ts ≡ true → length ts ≤ most_terms → add_all S (map gives ts) [] ≡ gives (kept ts)
  unfolding has
  different-added r ts e few = apart_added r ts [] e (all_of _ (λ t. refl) ts) (omega arith)

  -- ---- the product of two sets

  module _ (P : Products N) where
    -- the terms, where `times p q` is the power of i and the key of the product of two keys
    unfoldable pub times_terms : (K → K → ℕ × K) → List S.Term → List S.Term → List S.Term
    times_terms times l r =
        concat_map (λ x. map (λ y.
        let z = times (S.key x) (S.key y) in
        S.term z.1 (P.product (P.product (S.coefficient y) (P.unit z.0)) (S.coefficient x))) r) l

    -- where no product of good keys is refused, every step is a term
    pub times-given : (says : K → K → Said (ℕ × K)) (times : K → K → ℕ × K) (Good : K → Type 0) → ((p q : K) → Good p → Good q → says p q ≡ gives (times p q))
        → (l r : List S.Term) → All (λ x. Good (S.key x)) l → All (λ y. Good (S.key y)) r → times_steps S P says l r ≡ map gives (times_terms times l r)
    unfolding times_steps times_terms
    times-given says times Good e [] r hl hr = concat_map_nil _ ∙ ap (map gives) (sym (concat_map_nil _))
    times-given says times Good e (x ∷ l) r hl hr =
        concat_map_cons _ x l
        ∙ (λ j. row r hr j ++ times-given says times Good e l r (all_tail _ x l hl) hr j)
        ∙ sym (map_append gives (map (λ y. made y (times (S.key x) (S.key y))) r) (times_terms times l r))
        ∙ ap (map gives) (sym (concat_map_cons _ x l))
      where
        made : S.Term → ℕ × K → S.Term
        made y z = S.term z.1 (P.product (P.product (S.coefficient y) (P.unit z.0)) (S.coefficient x))

        row : (r : List S.Term) → All (λ y. Good (S.key y)) r
            → map (λ y. and_then (says (S.key x) (S.key y)) (λ z. gives (made y z))) r ≡ map gives (map (λ y. made y (times (S.key x) (S.key y))) r)
        row [] h = refl
        row (y ∷ r) h = λ j. and_then (e (S.key x) (S.key y) (all_head _ x l hl) (all_head _ y r h) j) (λ z. gives (made y z)) ∷ row r (all_tail _ y r h) j
