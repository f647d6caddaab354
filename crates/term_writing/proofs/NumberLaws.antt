-- Sets with the numbers of their keys beside them (`Numbered`): how one begins, where a key is found by its number, and the numbers after a write.
-- Assumes nothing.
use Prim.Native.Nat.{ℕ, zero, suc, ◌+◌, ◌-◌, ◌≤◌, ◌<◌}
use native.Mathlib.Numerals.{add-one}
use native.Mathlib.Nat.{le_antisymm}
use native.Mathlib.Omega.{arith}
use mathlib.Core.Path.{◌≡◌, refl, sym, ap, ◌∙◌, subst}
use mathlib.Core.Bool.{Bool, true, false}
use mathlib.Core.List.{List, [], ◌∷◌, ◌++◌, map, append_assoc}
use lib.Dec.{eqb}
use lib.ListN.{length, take, drop, set, get_or, replicate, length-set, length-append}
use lib.Seq.{length-take-le, take_all, drop-cons, set_at, take-suc, take-suc-set}
use borrow.Author.Tests.{eq-eqb}
use Rattle.std.specs.List.{copy_within}
use Rattle.std.specs.Prelude.{Some, None}
use Rattle.std.proofs.lemmas.List.{drop-replicate, length-map, take-map, drop-map}
use Rattle.complex.specs.Coefficients.{Coefficients}
use Rattle.terms.specs.Keyed.{first_at, omitted}
use Rattle.terms.specs.Setting.{most_terms, keyed, write, has_room}
use Rattle.terms.proofs.ClosingLaws.{length-omitted}
use Rattle.terms.proofs.KeyedLaws.{first_at_le, by_test, map_append}
use Rattle.terms.proofs.SettingLaws.{Held, struck_is, replaced_is, free_is, appended_is, write-length}
use Rattle.terms.proofs.FilledLaws.{filled-count, filled-places, filled-made, held-from, own_from}
use Rattle.term_sets.specs.Keys.{Keys, KeyLaws}
use Rattle.term_sets.specs.Sets.{terms, term_of, blank, filled, held_by, StandsAt}
use Rattle.term_sets.specs.declared.Set.{Set}
use Rattle.term_sets.specs.declared.Term.{Term}
use Rattle.term_sets.proofs.SetLaws.{sets}
use Rattle.term_writing.specs.Numbered.{Numbered}
use Rattle.term_writing.proofs.GapLaws.{copied-take}
use Rattle.term_writing.proofs.WritingLaws.{own_held}

-- ---- a list laid over another one: one element more

module _ {A : Type 0} (h b : List A) (i : ℕ) (a : A) (within : i < length h) (room : i < length b) (is : a ≡ get_or h i a) where
  pub laid_more : {t : List A} → t ≡ take i h ++ drop i b → set t i a ≡ take (i + 1) h ++ drop (i + 1) b
  laid_more e =
      ap (λ (t : List A). set t i a) (e ∙ ap (λ (r : List A). take i h ++ r) (drop-cons b i a room))
      ∙ set_at (take i h) (get_or b i a) (drop (suc i) b) a i (length-take-le i h (omega arith))
      ∙ ap (λ (x : A). take i h ++ x ∷ drop (suc i) b) is
      ∙ rw (add-one i, take-suc h i a within, append_assoc (take i h) (get_or h i a ∷ []) (drop (suc i) b))

-- ---- a set that holds given terms, with the numbers of their keys beside it

module _ {K N : Type 0} (k : Keys K) (c : Coefficients N) where
  pub numbered_by : (s : Set K N) (numbers : List ℕ) (l : List (Term K N)) → s ≡ filled k c l → length l ≤ most_terms → length numbers ≡ most_terms
      → take (length l) numbers ≡ map (λ t. k.number_of t.key) l → Numbered k c s numbers
  numbered_by s numbers l e few long same =
      let n : s.count ≡ length l = ap (λ (r : Set K N). r.count) e ∙ filled-count (sets k c) l in
      record {
        few = omega arith;
        own = own_from (sets k c) s l e;
        long = long;
        numbered = ap (λ (i : ℕ). take i numbers) n ∙ same ∙ sym (ap (map (λ t. k.number_of t.key)) (held-from (sets k c) s l e));
      }

  -- terms laid over the places of the empty set
  pub laid_all : (e : Set K N) → e ≡ filled k c [] → (l t : List (Term K N)) (i : ℕ) → i ≡ length l → t ≡ take i l ++ drop i e.terms
      → ◌≡◌ {A = Set K N} (record { count = length l; terms = t }) (filled k c l)
  laid_all e is l t i n h =
      let blanks : drop i e.terms ≡ replicate (most_terms - i) (blank k c) =
      ap (drop i) (ap (λ (r : Set K N). r.terms) is ∙ filled-places (sets k c) []) ∙ drop-replicate i most_terms (blank k c) in
      filled-made (sets k c) (length l) t l refl
      (h ∙ (λ j. take_all i l (omega arith) j ++ blanks j) ∙ ap (λ (m : ℕ). l ++ replicate (most_terms - m) (blank k c)) n)

-- ---- the place of a key by its number

module _ {A : Type 0} (test : A → Bool) (number : A → ℕ) (v : ℕ) (numbered : (x : A) → test x ≡ true → number x ≡ v) where
  -- no element before the first with the number passes
  number_first : (l : List A) → first_at (λ y. eqb y v) (map number l) ≤ first_at test l
  unfolding first_at
  number_first [] = omega arith
  number_first (x ∷ l) =
      by_test (test x)
      (λ e. rw (e, eq-eqb (number x) v (numbered x e)) (omega arith))
      (λ e. rw e (by_test (eqb (number x) v) (λ f. rw f (omega arith)) (λ f. let h = number_first l in rw f (omega arith))))

-- the first that passes is no later than one that does
passing_first : {A : Type 0} (test : A → Bool) (l : List A) (i : ℕ) (d : A) → i < length l → test (get_or l i d) ≡ true → first_at test l ≤ i
unfolding first_at
passing_first test [] i d h e = absurd (omega arith)
passing_first test (x ∷ l) zero d h e = rw e (omega arith)
passing_first test (x ∷ l) (suc i) d h e =
    let rest = passing_first test l i d (omega arith) e in
    by_test (test x) (λ f. rw f (omega arith)) (λ f. rw f (omega arith))

module _ {K N : Type 0} (k : Keys K) (c : Coefficients N) (laws : KeyLaws k) (x : K) (v : ℕ) (e : v ≡ k.number_of x) (l : List (Term K N)) where
  before : first_at (λ y. eqb y v) (map (λ t. k.number_of t.key) l) ≤ first_at (keyed (terms k c) x) l
  before = number_first (keyed (terms k c) x) (λ t. k.number_of t.key) v (λ t h. ap k.number_of (laws.equal t.key x h) ∙ sym e) l

  -- no number is the key's, so the key is free
  pub number_absent : first_at (λ y. eqb y v) (map (λ t. k.number_of t.key) l) ≡ length (map (λ t. k.number_of t.key) l) → StandsAt k c x l None
  number_absent h =
      let m = first_at_le (keyed (terms k c) x) l in
      let n = length-map l (λ t. k.number_of t.key) in
      le_antisymm m (omega (arith, before))

  -- the first with the number has the key
  pub number_found : (i : ℕ) → i ≡ first_at (λ y. eqb y v) (map (λ t. k.number_of t.key) l) → (d : Term K N) → i < length l → k.same (get_or l i d).key x ≡ true → StandsAt k c x l (Some i)
  number_found i f d h same =
      let first = passing_first (keyed (terms k c) x) l i d h same in
      (le_antisymm (omega (arith, before)) first, h)

-- ---- the numbers after a write

-- the element at the first place that passes does pass
first_passes : {A : Type 0} (test : A → Bool) (l : List A) (d : A) → first_at test l < length l → test (get_or l (first_at test l) d) ≡ true
unfolding first_at
first_passes test [] d h = absurd (omega arith)
first_passes test (x ∷ l) d h =
    by_test (test x)
    (λ e. rw e e)
    (λ e. let m : suc (first_at test l) < length (x ∷ l) = rw e at h in rw e (first_passes test l d (omega arith)))

module _ {A B : Type 0} (f : A → B) where
  -- one element is replaced by one with the same value
  same_map : (l : List A) (i : ℕ) (a d : A) → f a ≡ f (get_or l i d) → map f (set l i a) ≡ map f l
  same_map [] i a d e = refl
  same_map (x ∷ l) zero a d e = ap (λ (y : B). y ∷ map f l) e
  same_map (x ∷ l) (suc i) a d e = ap (λ (r : List B). f x ∷ r) (same_map l i a d e)

  -- one element is left out
  omitted-map : (at : ℕ) (l : List A) → omitted at (map f l) ≡ map f (omitted at l)
  omitted-map at l = (λ j. take-map f at l j ++ drop-map f (at + 1) l j) ∙ sym (map_append f (take at l) (drop (at + 1) l))

module _ {K N : Type 0} (k : Keys K) (c : Coefficients N) (laws : KeyLaws k) (s : Set K N) (numbers : List ℕ) (n : Numbered k c s numbers) (x : K) (a : N)
    (room : has_room (terms k c) x a (held_by s) ≡ true) (s' : Set K N) (e : s' ≡ filled k c (write (terms k c) x a (held_by s))) where
  h : Held (blank k c) s.count s.terms
  h = own_held k c s n.few n.own

  -- what is written is m
  numbered_on : (m : List (Term K N)) → write (terms k c) x a (held_by s) ≡ m → (numbers' : List ℕ) → length numbers' ≡ most_terms
      → take (length m) numbers' ≡ map (λ t. k.number_of t.key) m → Numbered k c s' numbers'
  numbered_on m w numbers' long same =
      let few : length m ≤ most_terms = subst (λ (z : List (Term K N)). length z ≤ most_terms) w (write-length (terms k c) x a (held_by s) room (omega (arith, h.long, n.few))) in
      numbered_by k c s' numbers' m (e ∙ ap (filled k c) w) few long same

  module _ (i : ℕ) (p : StandsAt k c x (held_by s) (Some i)) where
    within : i < s.count
    within = omega (arith, h.long, p.1)

    -- a term struck out takes its number with it
    pub numbered-struck : c.is_zero a ≡ true → (numbers' : List ℕ) → numbers' ≡ copy_within numbers (i + 1) s.count i → length numbers' ≡ length numbers → Numbered k c s' numbers'
    numbered-struck z numbers' moved long =
        let o = length-omitted i (held_by s) p.1 in
        let shorter : length (omitted i (held_by s)) ≡ s.count - 1 = omega (arith, h.long) in
        numbered_on (omitted i (held_by s)) (struck_is (terms k c) (blank k c) x s.count s.terms h i (sym p.0) within a z) numbers' (long ∙ n.long)
        ((λ j. take (shorter j) (moved j))
        ∙ copied-take i s.count numbers within (omega (arith, n.few, n.long))
        ∙ ap (omitted i) n.numbered
        ∙ omitted-map (λ t. k.number_of t.key) i (held_by s))

    -- another coefficient under the key keeps its number
    pub numbered-replaced : c.is_zero a ≡ false → Numbered k c s' numbers
    numbered-replaced z =
        let l = held_by s in
        let new = term_of k c x a in
        let there : k.same (get_or l i new).key x ≡ true =
        ap (λ (j : ℕ). k.same (get_or l j new).key x) p.0 ∙ first_passes (keyed (terms k c) x) l new (subst (λ (j : ℕ). j < length l) p.0 p.1) in
        let same = ap k.number_of (sym (laws.equal (get_or l i new).key x there)) in
        numbered_on (set l i new) (replaced_is (terms k c) (blank k c) x s.count s.terms h i (sym p.0) within a z) numbers n.long
        (ap (λ (m : ℕ). take m numbers) (length-set l i new ∙ h.long) ∙ n.numbered ∙ sym (same_map (λ t. k.number_of t.key) l i new new same))

  module _ (p : StandsAt k c x (held_by s) None) where
    absent : s.count ≤ first_at (keyed (terms k c) x) (held_by s)
    absent = omega (arith, h.long, p)

    -- zero under a free key changes nothing
    pub numbered-free : c.is_zero a ≡ true → Numbered k c s' numbers
    numbered-free z =
        numbered_on (held_by s) (free_is (terms k c) (blank k c) x s.count s.terms h absent a z) numbers n.long (ap (λ (m : ℕ). take m numbers) h.long ∙ n.numbered)

    -- and another coefficient comes last, with its number
    pub numbered-last : c.is_zero a ≡ false → s.count < most_terms → (v : ℕ) → v ≡ k.number_of x → Numbered k c s' (set numbers s.count v)
    numbered-last z m v f =
        let l = held_by s in
        let new = term_of k c x a in
        let more : length (l ++ new ∷ []) ≡ s.count + 1 = length-append l (new ∷ []) ∙ ap (λ (i : ℕ). i + 1) h.long in
        numbered_on (l ++ new ∷ []) (appended_is (terms k c) (blank k c) x s.count s.terms h absent a z) (set numbers s.count v) (length-set numbers s.count v ∙ n.long)
        (ap (λ (i : ℕ). take i (set numbers s.count v)) (more ∙ add-one s.count)
        ∙ take-suc-set numbers s.count v (omega (arith, n.long))
        ∙ (λ j. n.numbered j ++ f j ∷ [])
        ∙ sym (map_append (λ t. k.number_of t.key) l (new ∷ [])))
