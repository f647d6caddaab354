-- An array that gathers a value of each of a set's terms, one after the other, with zeros past them: the loop that fills it, and what the
-- finished array has. A set has its count n and its places t.
-- Assumes nothing.
use Prim.Native.Nat.{ℕ, ◌+◌, ◌-◌, ◌≤◌, ◌<◌}
use native.Mathlib.Omega.{arith}
use mathlib.Core.Path.{◌≡◌, sym, ap, ◌∙◌}
use mathlib.Core.List.{List, [], map}
use lib.ListN.{length, take, get_or, set, replicate, length-map, length-append, length-replicate}
use lib.Seq.{length-take-le, take_at}
use Rattle.terms.specs.Keyed.{padded}
use Rattle.terms.specs.Setting.{most_terms}
use Rattle.terms.proofs.KeyedLaws.{map_more}
use Rattle.terms.proofs.ClosingLaws.{padded_snoc}

-- the array a has the values of the first i of the n terms in t, and z past them
pub record Gathered {A B : Type 0} (f : A → B) (z : B) (n : ℕ) (t : List A) (a : List B) (i : ℕ) : Type 0 where
  pub few : n ≤ length t
  pub most : n ≤ most_terms
  pub within : i ≤ n
  pub is : a ≡ padded most_terms z (map f (take i t))

-- as many values as terms
values : {A B : Type 0} (f : A → B) (t : List A) (i : ℕ) → i ≤ length t → length (map f (take i t)) ≡ i
values f t i h = length-map (take i t) f ∙ length-take-le i t h

-- ---- the loop

module _ {A B : Type 0} {f : A → B} {z : B} {n : ℕ} {t : List A} where
  pub gathered_none : {a : List B} → n ≤ length t → n ≤ most_terms → a ≡ padded most_terms z [] → Gathered f z n t a 0
  gathered_none few most e = record { few = few; most = most; within = omega arith; is = e }

  -- one value more, which code computed as x
  pub gathered_more : {a : List B} {i : ℕ} {x : B} (d : A) → Gathered f z n t a i → i < n → x ≡ f (get_or t i d) → Gathered f z n t (set a i x) (i + 1)
  gathered_more {a} {i} {x} d s h e =
      let l = map f (take i t) in
      let y = f (get_or t i d) in
      let few = s.few in
      let most = s.most in
      let long : length l ≡ i = values f t i (omega arith) in
      record {
        few = few;
        most = most;
        within = omega arith;
        is = (λ j. set (s.is j) i (e j))
            ∙ ap (λ (k : ℕ). set (padded most_terms z l) k y) (sym long)
            ∙ padded_snoc most_terms z l y (omega arith)
            ∙ ap (padded most_terms z) (sym (map_more f t i d (omega arith)));
      }

  -- all of them are there
  pub gathered_done : {a : List B} {i : ℕ} → Gathered f z n t a i → n ≤ i → a ≡ padded most_terms z (map f (take n t))
  gathered_done {a} {i} s h =
      let e : i ≡ n = omega (arith, s.within) in
      s.is ∙ ap (λ (k : ℕ). padded most_terms z (map f (take k t))) e

  pub gathered_count : {a : List B} {i : ℕ} → Gathered f z n t a i → n ≡ length (map f (take n t))
  gathered_count s = sym (values f t n s.few)

  pub gathered_long : {a : List B} {i : ℕ} → Gathered f z n t a i → length a ≡ most_terms
  gathered_long {a} {i} s =
      let l = map f (take i t) in
      let few = s.few in
      let most = s.most in
      let within = s.within in
      let long : length l ≡ i = values f t i (omega arith) in
      let m = length-replicate (most_terms - length l) z in
      ap length s.is ∙ length-append l (replicate (most_terms - length l) z) ∙ omega arith

-- ---- a finished array: its values come first

module _ {A B : Type 0} (f : A → B) (z : B) (n : ℕ) (t : List A) (a : List B) (few : n ≤ length t) (e : a ≡ padded most_terms z (map f (take n t))) where
  pub values_first : take n a ≡ map f (take n t)
  values_first =
      let l = map f (take n t) in
      ap (take n) e ∙ take_at l (replicate (most_terms - length l) z) n (values f t n few)
