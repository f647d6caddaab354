-- Where a key stands among the terms of a set, for any keys and coefficients: what a search from the front answers, and what its answer says of the
-- term there.
-- Assumes nothing.
use Prim.Native.Nat.{ℕ, ◌<◌}
use native.Mathlib.Omega.{arith}
use mathlib.Core.Path.{◌≡◌, refl, sym, ap, ◌∙◌}
use mathlib.Core.Bool.{Bool, true, false}
use mathlib.Core.List.{List, [], ◌∷◌, map}
use lib.ListN.{length, get_or}
use Rattle.std.proofs.lemmas.Iterator.{index_from_first}
use Rattle.std.specs.List.{AllWithin, HoldsAt}
use Rattle.std.specs.Prelude.{Option, Some, None, MatchOption, unwrap_or}
use Rattle.complex.specs.Coefficients.{Coefficients}
use Rattle.refusal.specs.Refusals.{listed}
use Rattle.terms.specs.Keyed.{first_at, held, head_or}
use Rattle.terms.specs.Setting.{keyed, coefficient_at}
use Rattle.terms.proofs.KeyedLaws.{there, nowhere}
use Rattle.term_sets.specs.Keys.{Keys}
use Rattle.term_sets.specs.Sets.{terms, StandsAt}
use Rattle.term_sets.specs.declared.Term.{Term}

-- the place of the first element that passes, or none
pub first_is : {A : Type 0} (test : A → Bool) (l : List A) (r : Option ℕ)
    → MatchOption r (AllWithin (λ y. test y ≡ false) l 0 (length l)) (λ i. (i < length l) × HoldsAt (λ y. test y ≡ true) l i × AllWithin (λ y. test y ≡ false) l 0 i)
    → first_at test l ≡ unwrap_or r (length l)
unfolding first_at
first_is test l r h =
    index_from_first (first_at test) (λ y. test y ≡ true) (λ y. test y ≡ false) refl (λ x xs e. rw e) (λ x xs e. rw e (omega arith)) l r h

module _ {K N : Type 0} (k : Keys K) (c : Coefficients N) (x : K) where
  -- what a search of terms answers
  pub stands_by : (l : List (Term K N)) (r : Option ℕ)
      → MatchOption r (AllWithin (λ t. k.same t.key x ≡ false) l 0 (length l)) (λ i. (i < length l) × HoldsAt (λ t. k.same t.key x ≡ true) l i × AllWithin (λ t. k.same t.key x ≡ false) l 0 i)
      → StandsAt k c x l r
  stands_by l None h = first_is (keyed (terms k c) x) l None h
  stands_by l (Some i) h = (sym (first_is (keyed (terms k c) x) l (Some i) h), h.0)

  module _ (l : List (Term K N)) where
    -- the term at the place has the key
    pub stands_held : (i : ℕ) (d : Term K N) → StandsAt k c x l (Some i) → held (keyed (terms k c) x) l ≡ get_or l i d ∷ []
    stands_held i d h =
        let within = h.1 in
        let first : first_at (keyed (terms k c) x) l ≡ i = sym h.0 in
        let e = there (keyed (terms k c) x) d l (omega arith) in
        e.held ∙ ap (λ (j : ℕ). get_or l j d ∷ []) first

    -- and where there is none, the key is free
    pub stands_nowhere : StandsAt k c x l None → held (keyed (terms k c) x) l ≡ []
    stands_nowhere h = (nowhere (keyed (terms k c) x) l h).held

  -- the coefficient of a key, read as zero where it is free
  pub coefficient_by : (l : List (Term K N)) (r : Option N) → listed r ≡ map (λ t. t.coefficient) (held (keyed (terms k c) x) l) → unwrap_or r c.zero ≡ coefficient_at (terms k c) x l
  unfolding coefficient_at head_or
  coefficient_by l r e = go (held (keyed (terms k c) x) l) r e
    where
      go : (m : List (Term K N)) (r : Option N) → listed r ≡ map (λ t. t.coefficient) m → unwrap_or r c.zero ≡ head_or (λ t. t.coefficient) c.zero m
      go [] None e = refl
      go [] (Some a) e = cc
      go (y ∷ m) None e = cc
      go (y ∷ m) (Some a) e = cc
