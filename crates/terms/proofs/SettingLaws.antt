-- What a program's set needs, in the words of code: a set has its count n and its places t, and i is the place that the search answered.
-- Then what a write keeps. For any kind of terms.
-- Assumes nothing.
use Prim.Native.Nat.{ℕ, ◌+◌, ◌-◌, ◌≤◌, ◌<◌}
use native.Mathlib.Numerals.{add-one}
use native.Mathlib.Nat.{le_antisymm, le_trans}
use native.Mathlib.Omega.{arith}
use mathlib.Core.Path.{◌≡◌, refl, sym, ap, ◌∙◌, subst}
use mathlib.Core.Bool.{Bool, true, false, not, ◌||◌, cond, true≢false}
use mathlib.Core.List.{List, [], ◌∷◌, ◌++◌}
use lib.Dec.{ltb}
use lib.ListN.{length, take, drop, set, replicate, length-append, length-replicate, length-set, take-append-drop}
use lib.Seq.{length-take-le}
use borrow.Author.Tests.{lt-ltb, le-ltb, ltb-true, not-true}
use Rattle.terms.specs.Keyed.{first_at, held, has, written, struck, padded, omitted, each}
use Rattle.terms.specs.Kind.{Terms}
use Rattle.terms.specs.Setting.{most_terms, keyed, write, has_room, added}
use Rattle.terms.proofs.KeyedLaws.{There, Nowhere, there, nowhere, first_at_le, length-struck, length-written, length_replaced, has-struck, has-written, each-struck, each-written, by_test, has_fewer}
use Rattle.terms.proofs.ClosingLaws.{padded_set, padded_snoc, padded-take}

-- the places of a set with count n: n terms, and blanks past them
pub record Held {A : Type 0} (blank : A) (n : ℕ) (t : List A) : Type 0 where
  pub few : n ≤ most_terms
  pub long : length (take n t) ≡ n
  pub pads : t ≡ padded most_terms blank (take n t)

module _ {A : Type 0} (blank : A) (n : ℕ) (t : List A) where
  -- from what a helper requires
  pub held_by_lem : length t ≡ most_terms → n ≡ length (take n t) → t ≡ padded most_terms blank (take n t) → Held blank n t
  held_by_lem whole long pads =
      let l = take n t in
      let all : most_terms ≡ length l + (most_terms - length l) =
      sym whole ∙ ap length pads ∙ length-append l (replicate (most_terms - length l) blank) ∙ ap (λ (k : ℕ). length l + k) (length-replicate (most_terms - length l) blank) in
      record { few = omega arith; long = sym long; pads = pads }

  -- from a test of each place past the count
  pub held_past : length t ≡ most_terms → n ≤ most_terms → drop n t ≡ replicate (most_terms - n) blank → Held blank n t
  held_past whole few past =
      let long : length (take n t) ≡ n = length-take-le n t (omega arith) in
      record {
        few = few;
        long = long;
        pads = sym (take-append-drop n t) ∙ ap (λ (r : List A). take n t ++ r) (past ∙ ap (λ (k : ℕ). replicate (most_terms - k) blank) (sym long));
      }

  -- the terms of a list's padded places are the list
  pub terms_of : (l : List A) → n ≡ length l → t ≡ padded most_terms blank l → take n t ≡ l
  terms_of l e g = ap (λ (m : ℕ). take m t) e ∙ ap (λ (u : List A). take (length l) u) g ∙ padded-take most_terms blank l

or_true : (b : Bool) → (b || true) ≡ true
or_true true = refl
or_true false = refl

module _ {K N : Type 0} (S : Terms K N) (blank : S.Term) (k : K) (n : ℕ) (t : List S.Term) (s : Held blank n t) where
  -- ---- the key is at the place i

  module _ (i : ℕ) (f : first_at (keyed S k) (take n t) ≡ i) (h : i < n) where
    within : first_at (keyed S k) (take n t) < length (take n t)
    within = omega (arith, s.long)

    at_place : (d : S.Term) → There d (take n t) (first_at (keyed S k) (take n t)) (has (keyed S k) (take n t)) (held (keyed S k) (take n t)) (λ x. written (keyed S k) x (take n t)) (struck (keyed S k) (take n t))
    at_place d = there (keyed S k) d (take n t) within

    -- the key is there
    pub found_has : has (keyed S k) (take n t) ≡ true
    found_has = (at_place blank).has

    module _ (a : N) where
      -- there is room for any coefficient
      pub found_room : has_room S k a (take n t) ≡ true
      unfolding has_room
      found_room = rw found_has (or_true (S.is_zero a))

      -- with zero its term is struck out
      pub struck_is : S.is_zero a ≡ true → write S k a (take n t) ≡ omitted i (take n t)
      unfolding write
      struck_is z = rw (z, (at_place blank).struck, f, ← add-one i)

      -- with another coefficient its term is replaced
      pub replaced_is : S.is_zero a ≡ false → write S k a (take n t) ≡ set (take n t) i (S.term k a)
      unfolding write
      replaced_is z = rw (z, (at_place blank).written (S.term k a), f)

      -- the count stays
      pub replaced_count : S.is_zero a ≡ false → n ≡ length (write S k a (take n t))
      replaced_count z = sym s.long ∙ sym (length-set (take n t) i (S.term k a)) ∙ ap length (sym (replaced_is z))

      -- and one place changes
      pub replaced_places : S.is_zero a ≡ false → set t i (S.term k a) ≡ padded most_terms blank (write S k a (take n t))
      replaced_places z =
          ap (λ (x : List S.Term). set x i (S.term k a)) s.pads
          ∙ padded_set most_terms blank (take n t) i (S.term k a) (omega (arith, s.long))
          ∙ ap (λ (l : List S.Term). padded most_terms blank l) (sym (replaced_is z))

  -- ---- the key is nowhere

  module _ (absent : n ≤ first_at (keyed S k) (take n t)) where
    none_there : first_at (keyed S k) (take n t) ≡ length (take n t)
    none_there = le_antisymm (first_at_le (keyed S k) (take n t)) (omega (arith, s.long))

    no_place : Nowhere (take n t) (has (keyed S k) (take n t)) (held (keyed S k) (take n t)) (λ x. written (keyed S k) x (take n t)) (struck (keyed S k) (take n t))
    no_place = nowhere (keyed S k) (take n t) none_there

    -- the key is not there
    pub absent_has : has (keyed S k) (take n t) ≡ false
    absent_has = no_place.has

    module _ (a : N) where
      -- with zero nothing changes
      pub free_is : S.is_zero a ≡ true → write S k a (take n t) ≡ take n t
      unfolding write
      free_is z = rw (z, no_place.struck)

      -- zero needs no room
      pub free_room : S.is_zero a ≡ true → has_room S k a (take n t) ≡ true
      unfolding has_room
      free_room z = rw z

      -- nor another count
      pub free_count : S.is_zero a ≡ true → n ≡ length (write S k a (take n t))
      free_count z = sym s.long ∙ ap length (sym (free_is z))

      -- nor other places
      pub free_places : S.is_zero a ≡ true → t ≡ padded most_terms blank (write S k a (take n t))
      free_places z = s.pads ∙ ap (λ (l : List S.Term). padded most_terms blank l) (sym (free_is z))

      -- with another coefficient it is put at the end
      pub appended_is : S.is_zero a ≡ false → write S k a (take n t) ≡ take n t ++ S.term k a ∷ []
      unfolding write
      appended_is z = rw (z, no_place.written (S.term k a))

      -- where there is room
      pub appended_room : n < most_terms → has_room S k a (take n t) ≡ true
      unfolding has_room
      appended_room m = rw (absent_has, lt-ltb (length (take n t)) most_terms (omega (arith, s.long))) (or_true (S.is_zero a))

      -- with one term more
      pub appended_count : S.is_zero a ≡ false → n + 1 ≡ length (write S k a (take n t))
      appended_count z =
          let e : n + 1 ≡ length (take n t ++ S.term k a ∷ []) = rw (length-append (take n t) (S.term k a ∷ [])) (omega (arith, s.long)) in
          e ∙ ap length (sym (appended_is z))

      -- at the first place past the terms
      pub appended_places : S.is_zero a ≡ false → n < most_terms → set t n (S.term k a) ≡ padded most_terms blank (write S k a (take n t))
      appended_places z m =
          ap (λ (x : List S.Term). set x n (S.term k a)) s.pads
          ∙ ap (λ (j : ℕ). set (padded most_terms blank (take n t)) j (S.term k a)) (sym s.long)
          ∙ padded_snoc most_terms blank (take n t) (S.term k a) (omega (arith, s.long))
          ∙ ap (λ (l : List S.Term). padded most_terms blank l) (sym (appended_is z))

      -- or there is no room for it
      pub full_room : S.is_zero a ≡ false → most_terms ≤ n → has_room S k a (take n t) ≡ false
      unfolding has_room
      full_room z m = rw (z, absent_has, le-ltb (length (take n t)) most_terms (omega (arith, s.long)))

-- a term's key is not among those of the later terms: the test that `each` runs where a set holds no key twice
abbrev pub different : {K N : Type 0} (S : Terms K N) → S.Term → List S.Term → Bool
different S t ts = not (has (keyed S (S.key t)) ts)

-- one addition: whether there is room for it, and the terms after it
abbrev pub room_for : {K N : Type 0} (S : Terms K N) → S.Term → List S.Term → Bool
room_for S t l = has_room S (S.key t) (added S (S.key t) (S.coefficient t) l) l

abbrev pub add_one : {K N : Type 0} (S : Terms K N) → S.Term → List S.Term → List S.Term
add_one S t l = write S (S.key t) (added S (S.key t) (S.coefficient t) l) l

-- what keys have to meet: the test goes both ways and from one to the next, and a term has its key
pub record Alike {K N : Type 0} (S : Terms K N) : Type 0 where
  pub swap : (x y : K) → S.same x y ≡ true → S.same y x ≡ true
  pub chain : (x y z : K) → S.same x y ≡ true → S.same y z ≡ true → S.same x z ≡ true
  pub key_of : (k : K) (a : N) → S.key (S.term k a) ≡ k

-- so it is where the test is equality
pub alike_by : {K N : Type 0} (S : Terms K N) → ((x : K) → S.same x x ≡ true) → ((x y : K) → S.same x y ≡ true → x ≡ y) → ((k : K) (a : N) → S.key (S.term k a) ≡ k) → Alike S
alike_by {K} S itself equal key_of =
    record {
      swap = λ x y e. subst (λ (z : K). S.same z x ≡ true) (equal x y e) (itself x);
      chain = λ x y z e g. subst (λ (w : K). S.same x w ≡ true) (equal y z g) e;
      key_of = key_of;
    }

module _ {K N : Type 0} (S : Terms K N) where
  -- ---- what a write keeps

  -- zero strikes out
  pub write-zero : (k : K) (a : N) (l : List S.Term) → S.is_zero a ≡ true → write S k a l ≡ struck (keyed S k) l
  unfolding write
  write-zero k a l z = rw z

  -- and any other coefficient is written
  pub write-other : (k : K) (a : N) (l : List S.Term) → S.is_zero a ≡ false → write S k a l ≡ written (keyed S k) (S.term k a) l
  unfolding write
  write-other k a l z = rw z

  -- to show a fact of what is written, show it where the coefficient is zero and where it is not
  pub write_cases : (P : List S.Term → Type 0) (k : K) (a : N) (l : List S.Term) → (S.is_zero a ≡ true → P (struck (keyed S k) l))
      → (S.is_zero a ≡ false → P (written (keyed S k) (S.term k a) l)) → P (write S k a l)
  unfolding write
  write_cases P k a l p q = go (S.is_zero a) refl
    where
      go : (b : Bool) → S.is_zero a ≡ b → P (cond b (struck (keyed S k) l) (written (keyed S k) (S.term k a) l))
      go true e = p e
      go false e = q e

  written_fits : (k : K) (a : N) (l : List S.Term) → length l ≤ most_terms → (h : Bool) → has (keyed S k) l ≡ h → (h || ltb (length l) most_terms) ≡ true
      → length (written (keyed S k) (S.term k a) l) ≤ most_terms
  written_fits k a l m true e r = let w = length_replaced (keyed S k) (S.term k a) l e in omega arith
  written_fits k a l m false e r =
      let w = length-written (keyed S k) (S.term k a) l in
      let b = ltb-true (length l) most_terms r in
      omega arith

  -- there are at most the most terms
  pub write-length : (k : K) (a : N) (l : List S.Term) → has_room S k a l ≡ true → length l ≤ most_terms → length (write S k a l) ≤ most_terms
  unfolding has_room
  write-length k a l r m =
      write_cases (λ (x : List S.Term). length x ≤ most_terms) k a l
      (λ z. le_trans (length-struck (keyed S k) l) m)
      (λ z. written_fits k a l m (has (keyed S k) l) refl (rw z at r))

  -- a test of single terms that the new term passes, where it is not zero
  pub each-write-other : (p : S.Term → Bool) (k : K) (a : N) (l : List S.Term) → each (λ x xs. p x) l ≡ true → (S.is_zero a ≡ false → p (S.term k a) ≡ true)
      → each (λ x xs. p x) (write S k a l) ≡ true
  each-write-other p k a l e new =
      write_cases (λ (x : List S.Term). each (λ x xs. p x) x ≡ true) k a l
      (λ z. each-struck (keyed S k) (λ x xs. p x) (λ x xs h. h) l e)
      (λ z. each-written (keyed S k) (λ x xs. p x) (S.term k a) (new z) (λ x xs t h. new z) (λ x xs t h. h) l e)

  -- the same where the new term passes in any case
  pub each_write : (p : S.Term → Bool) (k : K) (a : N) (l : List S.Term) → each (λ x xs. p x) l ≡ true → p (S.term k a) ≡ true → each (λ x xs. p x) (write S k a l) ≡ true
  each_write p k a l e new = each-write-other p k a l e (λ z. new)

  -- no key comes twice
  pub keys-write : Alike S → (k : K) (a : N) (l : List S.Term) → each (different S) l ≡ true → each (different S) (write S k a l) ≡ true
  unfolding has
  keys-write r k a l e =
      write_cases (λ (x : List S.Term). each (different S) x ≡ true) k a l
      (λ z. each-struck (keyed S k) (different S) (λ x xs h. ap not (has-struck (keyed S k) (keyed S (S.key x)) xs (not-true (has (keyed S (S.key x)) xs) h))) l e)
      (λ z. each-written (keyed S k) (different S) new refl
      (λ x xs t h. ap not (has_fewer (keyed S (S.key x)) (keyed S (S.key new)) xs (joins x t) (not-true (has (keyed S (S.key x)) xs) h)))
      (λ x xs t h. ap not (has-written (keyed S k) (keyed S (S.key x)) new (apart x t) xs (not-true (has (keyed S (S.key x)) xs) h)))
      l e)
    where
      new : S.Term
      new = S.term k a

      joins : (x : S.Term) → S.same (S.key x) k ≡ true → (y : S.Term) → S.same (S.key y) (S.key new) ≡ true → S.same (S.key y) (S.key x) ≡ true
      joins x t y q = r.chain (S.key y) k (S.key x) (subst (λ (j : K). S.same (S.key y) j ≡ true) (r.key_of k a) q) (r.swap (S.key x) k t)

      apart : (x : S.Term) → S.same (S.key x) k ≡ false → S.same (S.key new) (S.key x) ≡ false
      apart x t =
          by_test (S.same (S.key new) (S.key x))
          (λ q. absurd (true≢false (sym (r.swap k (S.key x) (subst (λ (j : K). S.same j (S.key x) ≡ true) (r.key_of k a) q)) ∙ t)))
          (λ q. q)
