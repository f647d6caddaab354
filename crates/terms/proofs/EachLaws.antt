-- Tests of each element of a list: one that follows from another, runs of one element, and results; and elements read. For any element type.
-- Assumes nothing.
use Prim.Native.Nat.{ℕ, zero, suc, ◌<◌}
use native.Mathlib.Nat.{le_of_suc-le-suc, not-suc-le-zero}
use mathlib.Core.Path.{◌≡◌, refl}
use mathlib.Core.Bool.{Bool, true}
use mathlib.Core.List.{List, [], ◌∷◌, ◌++◌, map}
use lib.ListN.{length, get_or, replicate}
use Rattle.terms.specs.Keyed.{each, concat_map}
use Rattle.terms.proofs.KeyedLaws.{each_cons, each_head, each_tail, All, all_nil, all_cons, all_head, all_tail}

module _ {A : Type 0} where
  -- what is read past the end does not matter below it
  pub get_d_any : (l : List A) (i : ℕ) (d e : A) → i < length l → get_or l i d ≡ get_or l i e
  get_d_any [] i d e h = absurd (not-suc-le-zero h)
  get_d_any (x ∷ l) zero d e h = refl
  get_d_any (x ∷ l) (suc i) d e h = get_d_any l i d e (le_of_suc-le-suc h)

  -- a test that follows from another one
  -- a test that follows from another one
  pub each_follows : (p q : A → List A → Bool) → ((x : A) (l : List A) → p x l ≡ true → q x l ≡ true) → (l : List A) → each p l ≡ true → each q l ≡ true
  unfolding each
  each_follows p q f [] e = refl
  each_follows p q f (x ∷ l) e = each_cons q x l (f x l (each_head p x l e)) (each_follows p q f l (each_tail p x l e))

  -- a test that follows from two
  pub each_both : (p q r : A → List A → Bool) → ((x : A) (l : List A) → p x l ≡ true → q x l ≡ true → r x l ≡ true) → (l : List A) → each p l ≡ true → each q l ≡ true → each r l ≡ true
  unfolding each
  each_both p q r f [] e g = refl
  each_both p q r f (x ∷ l) e g =
      each_cons r x l (f x l (each_head p x l e) (each_head q x l g)) (each_both p q r f l (each_tail p x l e) (each_tail q x l g))

  -- a run of an element that passes
  pub each-run : (p : A → Bool) (z : A) → p z ≡ true → (n : ℕ) → each (λ x xs. p x) (replicate n z) ≡ true
  unfolding each
  each-run p z e zero = refl
  each-run p z e (suc n) = each_cons (λ x xs. p x) z (replicate n z) e (each-run p z e n)

-- ---- results

module _ {A B : Type 0} (P : A → Type 0) (Q : B → Type 0) where
  -- a property of each result
  pub all_results : (f : A → B) → ((x : A) → P x → Q (f x)) → (l : List A) → All P l → All Q (map f l)
  all_results f h [] a = all_nil Q
  all_results f h (x ∷ l) a = all_cons Q (f x) (map f l) (h x (all_head P x l a)) (all_results f h l (all_tail P x l a))

  -- a property of the elements of two parts
  all_joined : (l r : List B) → All Q l → All Q r → All Q (l ++ r)
  all_joined [] r a b = b
  all_joined (x ∷ l) r a b = all_cons Q x (l ++ r) (all_head Q x l a) (all_joined l r (all_tail Q x l a) b)

  -- a property of results one after the other
  pub all_lists : (f : A → List B) → ((x : A) → P x → All Q (f x)) → (l : List A) → All P l → All Q (concat_map f l)
  unfolding concat_map
  all_lists f h [] a = all_nil Q
  all_lists f h (x ∷ l) a = all_joined (f x) (concat_map f l) (h x (all_head P x l a)) (all_lists f h l (all_tail P x l a))

-- a test that each result passes, with those after it
pub each_results : {A B : Type 0} (p : A → List A → Bool) (q : B → List B → Bool) (f : A → B) → ((x : A) (l : List A) → p x l ≡ true → q (f x) (map f l) ≡ true) → (l : List A) → each p l ≡ true
    → each q (map f l) ≡ true
unfolding each
each_results p q f h [] e = refl
each_results p q f h (x ∷ l) e = each_cons q (f x) (map f l) (h x l (each_head p x l e)) (each_results p q f h l (each_tail p x l e))
