-- Laws of lists of things with a key: a search from the front, what a place found says, tests of each element, lists that one is written in or
-- struck from, results one after the other. For any element type.
-- Assumes nothing.
use Prim.Native.Nat.{ℕ, zero, suc, ◌+◌, ◌≤◌, ◌<◌}
use native.Mathlib.Nat.{le_of_suc-le-suc, not-suc-le-zero, suc_inj, suc-ne-zero, le_refl, le_antisymm}
use native.Mathlib.Numerals.{add-one}
use native.Mathlib.Omega.{arith}
use mathlib.Core.Path.{◌≡◌, refl, sym, ap, ◌∙◌}
use mathlib.Core.Bool.{Bool, true, false, ◌||◌, ◌&&◌, cond, true≢false}
use mathlib.Core.List.{List, [], ◌∷◌, ◌++◌, map, append_assoc, append-nil}
use lib.Dec.{ltb}
use borrow.Author.Tests.{lt-ltb, ltb-true, ltb-false}
use lib.ListN.{length, get_or, take, drop, set, length-set, drop_of_length-le}
use lib.Seq.{drop-cons, take-suc}
use Rattle.letters.proofs.TestLaws.{and_left, and_right, bool_ext, neither}
use Rattle.terms.specs.Keyed.{first_at, held, has, written, struck, each, head_or, concat_map}

-- What the definitions give where the key is at the place i of l. `d` is what is read past the end.
pub record There {A : Type 0} (d : A) (l : List A) (i : ℕ) (h : Bool) (o : List A) (w : A → List A) (s : List A) : Type 0 where
  pub has : h ≡ true
  pub held : o ≡ get_or l i d ∷ []
  pub written : (a : A) → w a ≡ set l i a
  pub struck : s ≡ take i l ++ drop (suc i) l

-- what they give where the key is nowhere in l
pub record Nowhere {A : Type 0} (l : List A) (h : Bool) (o : List A) (w : A → List A) (s : List A) : Type 0 where
  pub has : h ≡ false
  pub held : o ≡ []
  pub written : (a : A) → w a ≡ l ++ a ∷ []
  pub struck : s ≡ l

module _ {A : Type 0} where
  there_step : (d : A) (b : Bool) (x : A) (xs : List A) (i : ℕ) (h : Bool) (o : List A) (w : A → List A) (s : List A)
      → cond b zero (suc i) < suc (length xs) → (i < length xs → There d xs i h o w s)
      → There d (x ∷ xs) (cond b zero (suc i)) (b || h) (cond b (x ∷ []) o) (λ a. cond b (a ∷ xs) (x ∷ w a)) (cond b xs (x ∷ s))
  there_step d true x xs i h o w s lt rest = record { has = refl; held = refl; written = λ a. refl; struck = refl }
  there_step d false x xs i h o w s lt rest =
      let r = rest (le_of_suc-le-suc lt) in
      record { has = r.has; held = r.held; written = λ a. ap (λ (t : List A). x ∷ t) (r.written a); struck = ap (λ (t : List A). x ∷ t) r.struck }

  nowhere_step : (b : Bool) (x : A) (xs : List A) (i : ℕ) (h : Bool) (o : List A) (w : A → List A) (s : List A)
      → cond b zero (suc i) ≡ suc (length xs) → (i ≡ length xs → Nowhere xs h o w s)
      → Nowhere (x ∷ xs) (b || h) (cond b (x ∷ []) o) (λ a. cond b (a ∷ xs) (x ∷ w a)) (cond b xs (x ∷ s))
  nowhere_step true x xs i h o w s e rest = absurd (suc-ne-zero (length xs) (sym e))
  nowhere_step false x xs i h o w s e rest =
      let r = rest (suc_inj e) in
      record { has = r.has; held = r.held; written = λ a. ap (λ (t : List A). x ∷ t) (r.written a); struck = ap (λ (t : List A). x ∷ t) r.struck }

le_step : (b : Bool) (i n : ℕ) → i ≤ n → cond b zero (suc i) ≤ suc n
le_step true i n h = omega arith
le_step false i n h = omega arith

has_step : (b h : Bool) (i n : ℕ) → h ≡ ltb i n → (b || h) ≡ ltb (cond b zero (suc i)) (suc n)
has_step true h i n e = sym (lt-ltb zero (suc n) (omega arith))
has_step false h i n e =
    e
    ∙ bool_ext (ltb i n) (ltb (suc i) (suc n)) (λ t. let k = ltb-true i n t in lt-ltb (suc i) (suc n) (omega arith)) (λ t. let k = ltb-true (suc i) (suc n) t in lt-ltb i n (omega arith))

module _ {A : Type 0} (test : A → Bool) where
  -- ---- a search from the front: one place further

  -- the element at i has the key
  pub passes : (l : List A) (i : ℕ) (d : A) → i < length l → test (get_or l i d) ≡ true → first_at test (drop i l) ≡ 0
  unfolding first_at
  passes l i d h e = rw (drop-cons l i d h, e)

  -- the element at i has another key
  pub skips : (l : List A) (i : ℕ) (d : A) → i < length l → test (get_or l i d) ≡ false → first_at test (drop i l) ≡ suc (first_at test (drop (i + 1) l))
  unfolding first_at
  skips l i d h e = rw (add-one i, drop-cons l i d h, e)

  -- past the end
  pub none_left : (l : List A) (i : ℕ) → length l ≤ i → first_at test (drop i l) ≡ 0
  unfolding first_at
  none_left l i h = rw (drop_of_length-le l h)

  -- ---- the key is there, or nowhere

  -- the place is at most the length
  pub first_at_le : (l : List A) → first_at test l ≤ length l
  unfolding first_at
  first_at_le [] = le_refl zero
  first_at_le (x ∷ xs) = le_step (test x) (first_at test xs) (length xs) (first_at_le xs)

  -- the key is at its place
  pub there : (d : A) (l : List A) → first_at test l < length l → There d l (first_at test l) (has test l) (held test l) (λ a. written test a l) (struck test l)
  unfolding first_at has held written struck
  there d [] h = absurd (not-suc-le-zero h)
  there d (x ∷ xs) h =
      there_step d (test x) x xs (first_at test xs) (has test xs) (held test xs) (λ a. written test a xs) (struck test xs) h (there d xs)

  -- the key is nowhere
  pub nowhere : (l : List A) → first_at test l ≡ length l → Nowhere l (has test l) (held test l) (λ a. written test a l) (struck test l)
  unfolding first_at has held written struck
  nowhere [] e = record { has = refl; held = refl; written = λ a. refl; struck = refl }
  nowhere (x ∷ xs) e =
      nowhere_step (test x) x xs (first_at test xs) (has test xs) (held test xs) (λ a. written test a xs) (struck test xs) e (nowhere xs)

  -- a key is there where its place is below the length
  pub has_is : (l : List A) → has test l ≡ ltb (first_at test l) (length l)
  unfolding first_at has
  has_is [] = refl
  has_is (x ∷ xs) = has_step (test x) (has test xs) (first_at test xs) (length xs) (has_is xs)

  -- both ways of that test
  pub has_true : (l : List A) → has test l ≡ true → first_at test l < length l
  has_true l e = ltb-true (first_at test l) (length l) (sym (has_is l) ∙ e)

  pub has_false : (l : List A) → has test l ≡ false → first_at test l ≡ length l
  has_false l e = le_antisymm (first_at_le l) (ltb-false (first_at test l) (length l) (sym (has_is l) ∙ e))

module _ {A : Type 0} (p : A → List A → Bool) where
  -- made of a first one and the later ones
  pub each_cons : (x : A) (l : List A) → p x l ≡ true → each p l ≡ true → each p (x ∷ l) ≡ true
  unfolding each
  each_cons x l h e = rw (h, e)

  -- taken apart: the first one passes, and the later ones do
  pub each_head : (x : A) (l : List A) → each p (x ∷ l) ≡ true → p x l ≡ true
  unfolding each
  each_head x l e = and_left (p x l) (each p l) e

  pub each_tail : (x : A) (l : List A) → each p (x ∷ l) ≡ true → each p l ≡ true
  unfolding each
  each_tail x l e = and_right (p x l) (each p l) e

  each_place : (l : List A) (i : ℕ) (d : A) → i < length l → each p l ≡ true → p (get_or l i d) (drop (suc i) l) ≡ true
  each_place [] i d h e = absurd (not-suc-le-zero h)
  each_place (x ∷ xs) zero d h e = each_head x xs e
  each_place (x ∷ xs) (suc i) d h e = each_place xs i d (le_of_suc-le-suc h) (each_tail x xs e)

  -- the element at a place passes, with those after it
  pub each_at : (l : List A) (i : ℕ) (d : A) → i < length l → each p l ≡ true → p (get_or l i d) (drop (i + 1) l) ≡ true
  each_at l i d h e = rw (add-one i) (each_place l i d h e)

  -- ---- a test of each from the front: one place further

  -- the element at i, then the later ones
  pub each_step : (l : List A) (i : ℕ) (d : A) → i < length l → each p (drop i l) ≡ (p (get_or l i d) (drop (i + 1) l) && each p (drop (i + 1) l))
  unfolding each
  each_step l i d h = rw (add-one i, drop-cons l i d h)

  -- the element at i passes
  pub each_passes : (l : List A) (i : ℕ) (d : A) → i < length l → p (get_or l i d) (drop (i + 1) l) ≡ true → each p (drop i l) ≡ each p (drop (i + 1) l)
  each_passes l i d h e = each_step l i d h ∙ rw e

  -- the element at i fails
  pub each_fails : (l : List A) (i : ℕ) (d : A) → i < length l → p (get_or l i d) (drop (i + 1) l) ≡ false → each p (drop i l) ≡ false
  each_fails l i d h e = each_step l i d h ∙ rw e

  -- past the end
  pub each_end : (l : List A) (i : ℕ) → length l ≤ i → each p (drop i l) ≡ true
  unfolding each
  each_end l i h = rw (drop_of_length-le l h)

-- every element has the property
unfoldable pub All : {A : Type 0} → (A → Type 0) → List A → Type 0
All P [] = Unit {0}
All P (x ∷ xs) = P x × All P xs

module _ {A : Type 0} (P : A → Type 0) where
  -- made and taken apart
  pub all_nil : All P []
  unfolding All
  all_nil = tt

  pub all_cons : (x : A) (l : List A) → P x → All P l → All P (x ∷ l)
  unfolding All
  all_cons x l h r = (h, r)

  pub all_head : (x : A) (l : List A) → All P (x ∷ l) → P x
  unfolding All
  all_head x l h = h.0

  pub all_tail : (x : A) (l : List A) → All P (x ∷ l) → All P l
  unfolding All
  all_tail x l h = h.1

  -- a property of every element of anything
  pub all_of : ((x : A) → P x) → (l : List A) → All P l
  all_of h [] = all_nil
  all_of h (x ∷ l) = all_cons x l (h x) (all_of h l)

-- a property that follows from another one
pub all_map : {A : Type 0} (P Q : A → Type 0) → ((x : A) → P x → Q x) → (l : List A) → All P l → All Q l
all_map P Q f [] h = all_nil Q
all_map P Q f (x ∷ l) h = all_cons Q x l (f x (all_head P x l h)) (all_map P Q f l (all_tail P x l h))

-- a test that each element passes
pub all_each : {A : Type 0} (p : A → Bool) (l : List A) → each (λ x xs. p x) l ≡ true → All (λ x. p x ≡ true) l
all_each p [] e = all_nil (λ x. p x ≡ true)
all_each p (x ∷ l) e = all_cons (λ x. p x ≡ true) x l (each_head (λ x xs. p x) x l e) (all_each p l (each_tail (λ x xs. p x) x l e))

-- ---- lists that one is written in or struck from

-- by cases on a test
pub by_test : {P : Type 0} (b : Bool) → (b ≡ true → P) → (b ≡ false → P) → P
by_test true p q = p refl
by_test false p q = q refl

-- a key that passes less
pub has_fewer : {A : Type 0} (p q : A → Bool) (l : List A) → ((x : A) → q x ≡ true → p x ≡ true) → has p l ≡ false → has q l ≡ false
unfolding has
has_fewer p q [] h e = refl
has_fewer p q (x ∷ l) h e =
    let n = neither (p x) (has p l) e in
    let f : q x ≡ false = by_test (q x) (λ t. absurd (true≢false (sym (h x t) ∙ n.0))) (λ t. t) in
    rw (f, has_fewer p q l h n.1)

-- one more at the end, without the key
pub has_last : {A : Type 0} (p : A → Bool) (a : A) (l : List A) → has p l ≡ false → p a ≡ false → has p (l ++ a ∷ []) ≡ false
unfolding has
has_last p a [] e h = rw h
has_last p a (x ∷ l) e h = let n = neither (p x) (has p l) e in rw (n.0, has_last p a l n.1 h)

-- where no element has the key, the one at a place does not
pub none_at : {A : Type 0} (p : A → Bool) (l : List A) (i : ℕ) (d : A) → i < length l → has p l ≡ false → p (get_or l i d) ≡ false
unfolding has
none_at p [] i d h e = absurd (omega arith)
none_at p (x ∷ l) zero d h e = (neither (p x) (has p l) e).0
none_at p (x ∷ l) (suc i) d h e = none_at p l i d (omega arith) (neither (p x) (has p l) e).1

module _ {A : Type 0} (test : A → Bool) where
  struck_le : (b : Bool) (x : A) (s l : List A) → length s ≤ length l → length (cond b l (x ∷ s)) ≤ suc (length l)
  struck_le true x s l h = omega arith
  struck_le false x s l h = omega arith

  -- striking out makes no list longer
  pub length-struck : (l : List A) → length (struck test l) ≤ length l
  unfolding struck
  length-struck [] = le_refl zero
  length-struck (x ∷ l) = struck_le (test x) x (struck test l) l (length-struck l)

  written_le : (b : Bool) (a x : A) (w l : List A) → length w ≤ length l + 1 → length (cond b (a ∷ l) (x ∷ w)) ≤ suc (length l) + 1
  written_le true a x w l h = omega arith
  written_le false a x w l h = omega arith

  -- writing makes a list at most one longer
  pub length-written : (a : A) (l : List A) → length (written test a l) ≤ length l + 1
  unfolding written
  length-written a [] = le_refl 1
  length-written a (x ∷ l) = written_le (test x) a x (written test a l) l (length-written a l)

  -- in the place of another one
  pub length_replaced : (a : A) (l : List A) → has test l ≡ true → length (written test a l) ≡ length l
  length_replaced a l e =
      let h = has_true test l e in
      ap length ((there test a l h).written a) ∙ length-set l (first_at test l) a

  has-struck_step : (p : A → Bool) (b : Bool) (x : A) (s l : List A) → has p (x ∷ l) ≡ false → (has p l ≡ false → has p s ≡ false) → has p (cond b l (x ∷ s)) ≡ false
  unfolding has
  has-struck_step p true x s l e rest = (neither (p x) (has p l) e).1
  has-struck_step p false x s l e rest = let n = neither (p x) (has p l) e in rw (n.0, rest n.1)

  -- another key stays away where one is struck out
  pub has-struck : (p : A → Bool) (l : List A) → has p l ≡ false → has p (struck test l) ≡ false
  unfolding struck
  has-struck p [] e = e
  has-struck p (x ∷ l) e = has-struck_step p (test x) x (struck test l) l e (has-struck p l)

  has-written_step : (p : A → Bool) (a : A) → p a ≡ false → (b : Bool) (x : A) (w l : List A) → has p (x ∷ l) ≡ false → (has p l ≡ false → has p w ≡ false) → has p (cond b (a ∷ l) (x ∷ w)) ≡ false
  unfolding has
  has-written_step p a h true x w l e rest = let n = neither (p x) (has p l) e in rw (h, n.1)
  has-written_step p a h false x w l e rest = let n = neither (p x) (has p l) e in rw (n.0, rest n.1)

  has_single : (p : A → Bool) (a : A) → p a ≡ false → has p (a ∷ []) ≡ false
  unfolding has
  has_single p a h = rw h

  -- and where one without it is written
  pub has-written : (p : A → Bool) (a : A) → p a ≡ false → (l : List A) → has p l ≡ false → has p (written test a l) ≡ false
  unfolding written
  has-written p a h [] e = has_single p a h
  has-written p a h (x ∷ l) e = has-written_step p a h (test x) x (written test a l) l e (has-written p a h l)

  struck-each_step : (p : A → List A → Bool) (b : Bool) (x : A) (s l : List A) → (p x l ≡ true → p x s ≡ true) → each p (x ∷ l) ≡ true → (each p l ≡ true → each p s ≡ true) → each p (cond b l (x ∷ s)) ≡ true
  struck-each_step p true x s l keep e rest = each_tail p x l e
  struck-each_step p false x s l keep e rest = each_cons p x s (keep (each_head p x l e)) (rest (each_tail p x l e))

  -- each still passes where one is struck out, if the test passes with fewer after it
  pub each-struck : (p : A → List A → Bool) → ((x : A) (l : List A) → p x l ≡ true → p x (struck test l) ≡ true) → (l : List A) → each p l ≡ true → each p (struck test l) ≡ true
  unfolding struck
  each-struck p keep [] e = e
  each-struck p keep (x ∷ l) e = struck-each_step p (test x) x (struck test l) l (keep x l) e (each-struck p keep l)

  written-each_step : (p : A → List A → Bool) (a : A) (b : Bool) (x : A) (w l : List A) → test x ≡ b → (test x ≡ true → p x l ≡ true → p a l ≡ true) → (test x ≡ false → p x l ≡ true → p x w ≡ true)
      → each p (x ∷ l) ≡ true → (each p l ≡ true → each p w ≡ true) → each p (cond b (a ∷ l) (x ∷ w)) ≡ true
  written-each_step p a true x w l q first keep e rest = each_cons p a l (first q (each_head p x l e)) (each_tail p x l e)
  written-each_step p a false x w l q first keep e rest = each_cons p x w (keep q (each_head p x l e)) (rest (each_tail p x l e))

  -- and where a is written, if a passes in the place of one with the key, and the others before a
  pub each-written : (p : A → List A → Bool) (a : A) → p a [] ≡ true → ((x : A) (l : List A) → test x ≡ true → p x l ≡ true → p a l ≡ true)
      → ((x : A) (l : List A) → test x ≡ false → p x l ≡ true → p x (written test a l) ≡ true) → (l : List A) → each p l ≡ true → each p (written test a l) ≡ true
  unfolding written
  each-written p a alone first keep [] e = each_cons p a [] alone e
  each-written p a alone first keep (x ∷ l) e = written-each_step p a (test x) x (written test a l) l refl (first x l) (keep x l) e (each-written p a alone first keep l)

module _ {A B : Type 0} where
  -- ---- the first element's value

  -- of one, and of none
  pub head_or_one : (f : A → B) (b : B) (x : A) → head_or f b (x ∷ []) ≡ f x
  unfolding head_or
  head_or_one f b x = refl

  pub head_or_none : (f : A → B) (b : B) → head_or f b [] ≡ b
  unfolding head_or
  head_or_none f b = refl

  -- ---- results one after the other

  -- of none, of a first one, and of two parts
  pub concat_map_nil : (f : A → List B) → concat_map f [] ≡ []
  unfolding concat_map
  concat_map_nil f = refl

  pub concat_map_cons : (f : A → List B) (x : A) (l : List A) → concat_map f (x ∷ l) ≡ f x ++ concat_map f l
  unfolding concat_map
  concat_map_cons f x l = refl

  pub concat_map_append : (f : A → List B) (l r : List A) → concat_map f (l ++ r) ≡ concat_map f l ++ concat_map f r
  unfolding concat_map
  concat_map_append f [] r = refl
  concat_map_append f (x ∷ l) r = ap (λ (t : List B). f x ++ t) (concat_map_append f l r) ∙ sym (append_assoc (f x) (concat_map f l) (concat_map f r))

  -- one element more, as a loop counts
  pub concat_map_more : (f : A → List B) (l : List A) (i : ℕ) (d : A) → i < length l → concat_map f (take (i + 1) l) ≡ concat_map f (take i l) ++ f (get_or l i d)
  unfolding concat_map
  concat_map_more f l i d h =
      rw (add-one i, take-suc l i d h) (concat_map_append f (take i l) (get_or l i d ∷ []) ∙ ap (λ (t : List B). concat_map f (take i l) ++ t) (append-nil (f (get_or l i d))))

  -- the same for one result each
  pub map_append : (f : A → B) (l r : List A) → map f (l ++ r) ≡ map f l ++ map f r
  map_append f [] r = refl
  map_append f (x ∷ l) r = ap (λ (t : List B). f x ∷ t) (map_append f l r)

  pub map_more : (f : A → B) (l : List A) (i : ℕ) (d : A) → i < length l → map f (take (i + 1) l) ≡ map f (take i l) ++ f (get_or l i d) ∷ []
  map_more f l i d h = rw (add-one i, take-suc l i d h) (map_append f (take i l) (get_or l i d ∷ []))
