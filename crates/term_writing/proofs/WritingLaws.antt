-- A key that stands at a place among a set's terms, or at none (`StandsAt`): what is there, whether there is room, and the set after a write.
-- Assumes nothing.
use Prim.Native.Nat.{ℕ, ◌+◌, ◌-◌, ◌≤◌, ◌<◌}
use native.Mathlib.Omega.{arith}
use mathlib.Core.Path.{◌≡◌, refl, sym, ap, ◌∙◌, subst}
use mathlib.Core.Bool.{Bool, true, false, ◌||◌}
use mathlib.Core.List.{List, [], ◌∷◌, map}
use lib.Dec.{ltb}
use lib.ListN.{length, set, get_or, replicate, length-append, length-replicate, length-take}
use borrow.Author.Tests.{ltb-true}
use Rattle.std.specs.List.{copy_within}
use Rattle.std.specs.Prelude.{Option, Some, None, unwrap_or}
use Rattle.std.specs.Option.{is_some}
use Rattle.complex.specs.Coefficients.{Coefficients}
use Rattle.refusal.specs.Refusals.{listed}
use Rattle.terms.specs.Keyed.{first_at, has, held, omitted}
use Rattle.terms.specs.Setting.{most_terms, keyed, write, has_room, added}
use Rattle.terms.proofs.KeyedLaws.{there, nowhere}
use Rattle.terms.proofs.ClosingLaws.{closed_up}
use Rattle.terms.proofs.FilledLaws.{held_own, filled-made, filled-places, struck-filled}
use Rattle.terms.proofs.SettingLaws.{Held, struck_is, replaced_count, replaced_places, free_is, appended_count, appended_places}
use Rattle.term_sets.specs.Keys.{Keys}
use Rattle.term_sets.specs.Sets.{terms, term_of, blank, filled, held_by, StandsAt}
use Rattle.term_sets.specs.declared.Set.{Set}
use Rattle.term_sets.specs.declared.Term.{Term}
use Rattle.term_sets.proofs.SetLaws.{sets}
use Rattle.term_writing.proofs.GapLaws.{copied_is}
use Rattle.term_sets.proofs.FoundLaws.{stands_held, stands_nowhere, coefficient_by}

-- a coefficient that is not zero needs room
or_true : (z : Bool) {f : Bool} → f ≡ true → (z || f) ≡ true
or_true true e = refl
or_true false e = e

or_false : (z : Bool) {f : Bool} → f ≡ false → (z || f) ≡ z
or_false true e = refl
or_false false e = e

module _ {K N : Type 0} (k : Keys K) (c : Coefficients N) where
  module _ (x : K) (l : List (Term K N)) where
    -- ---- what is at the place

    pub found-there : (i : ℕ) → StandsAt k c x l (Some i) → (d : Term K N) → (get_or l i d).coefficient ∷ [] ≡ map (λ t. t.coefficient) (held (keyed (terms k c) x) l)
    found-there i p d = ap (map (λ t. t.coefficient)) (sym (stands_held k c x l i d p))

    pub found-nowhere : StandsAt k c x l None → [] ≡ map (λ t. t.coefficient) (held (keyed (terms k c) x) l)
    found-nowhere p = ap (map (λ t. t.coefficient)) (sym (stands_nowhere k c x l p))

    -- and a coefficient added to it
    pub found_sum : (r : Option N) (a : N) → listed r ≡ map (λ t. t.coefficient) (held (keyed (terms k c) x) l) → c.sum (unwrap_or r c.zero) a ≡ added (terms k c) x a l
    unfolding added
    found_sum r a e = ap (λ (b : N). c.sum b a) (coefficient_by k c x l r e)

    -- ---- whether there is room

    has_is : (at : Option ℕ) → StandsAt k c x l at → has (keyed (terms k c) x) l ≡ is_some at
    has_is None p = (nowhere (keyed (terms k c) x) l p).has
    has_is (Some i) p = (there (keyed (terms k c) x) (blank k c) l (subst (λ (j : ℕ). j < length l) p.0 p.1)).has

    has_room_is : (at : Option ℕ) → StandsAt k c x l at → (a : N) → has_room (terms k c) x a l ≡ (c.is_zero a || (is_some at || ltb (length l) most_terms))
    unfolding has_room
    has_room_is at p a = rw (has_is at p)

    -- by whether a term more would have a place
    module _ (at : Option ℕ) (p : StandsAt k c x l at) (a : N) (placed : Bool) (e : placed ≡ (is_some at || ltb (length l) most_terms)) where
      pub room_placed : placed ≡ true → true ≡ has_room (terms k c) x a l
      room_placed h = sym (has_room_is at p a ∙ or_true (c.is_zero a) (sym e ∙ h))

      pub room_zero : placed ≡ false → c.is_zero a ≡ has_room (terms k c) x a l
      room_zero h = sym (has_room_is at p a ∙ or_false (c.is_zero a) (sym e ∙ h))

  -- ---- the set after a write

  -- a set that holds its own terms has blanks past them
  pub own_held : (s : Set K N) → s.count ≤ most_terms → s ≡ filled k c (held_by s) → Held (blank k c) s.count s.terms
  own_held s few own =
      let l = held_by s in
      let long = length-take s.count s.terms in
      let whole : length s.terms ≡ most_terms =
      ap length (ap (λ (r : Set K N). r.terms) own ∙ filled-places (sets k c) l)
      ∙ length-append l (replicate (most_terms - length l) (blank k c))
      ∙ ap (λ (n : ℕ). length l + n) (length-replicate (most_terms - length l) (blank k c))
      ∙ omega arith in
      held_own (sets k c) s whole own

  -- the set without its term at a place, as `strike` makes it
  pub struck_by : (s : Set K N) (few : s.count ≤ most_terms) (own : s ≡ filled k c (held_by s)) (at : ℕ) → at < s.count → (t : List (Term K N)) → t ≡ copy_within s.terms (at + 1) s.count at
      → (z : Term K N) → z ≡ blank k c → ◌≡◌ {A = Set K N} (record { count = s.count - 1; terms = set t (s.count - 1) z }) (filled k c (omitted at (held_by s)))
  struck_by s few own at m t moved z e =
      let h = own_held s few own in
      let within : s.count ≤ length s.terms = (let l = length-take s.count s.terms in omega (arith, h.long)) in
      let is = moved ∙ copied_is at s.count s.terms m within in
      let p : ◌≡◌ {A = Set K N} (record { count = s.count - 1; terms = set t (s.count - 1) z }) (record { count = s.count - 1; terms = set (closed_up at s.count s.terms) (s.count - 1) (blank k c) }) =
      λ j. record { count = s.count - 1; terms = set (is j) (s.count - 1) (e j) } in
      p ∙ struck-filled (sets k c) at s.count s.terms h m

  module _ (s : Set K N) (few : s.count ≤ most_terms) (own : s ≡ filled k c (held_by s)) (x : K) (a : N) where
    h : Held (blank k c) s.count s.terms
    h = own_held s few own

    -- the key is at a place: zero strikes its term out, and another coefficient replaces it
    module _ (i : ℕ) (p : StandsAt k c x (held_by s) (Some i)) where
      pub struck_write : c.is_zero a ≡ true → filled k c (omitted i (held_by s)) ≡ filled k c (write (terms k c) x a (held_by s))
      struck_write z =
          ap (filled k c) (sym (struck_is (terms k c) (blank k c) x s.count s.terms h i (sym p.0) (omega (arith, h.long, p.1)) a z))

      pub replaced_write : c.is_zero a ≡ false → ◌≡◌ {A = Set K N} (record { count = s.count; terms = set s.terms i (term_of k c x a) }) (filled k c (write (terms k c) x a (held_by s)))
      replaced_write z =
          let m : i < s.count = omega (arith, h.long, p.1) in
          filled-made (sets k c) _ _ _
          (replaced_count (terms k c) (blank k c) x s.count s.terms h i (sym p.0) m a z)
          (replaced_places (terms k c) (blank k c) x s.count s.terms h i (sym p.0) m a z)

    -- the key is free: zero changes nothing, and another coefficient comes last
    module _ (p : StandsAt k c x (held_by s) None) where
      absent : s.count ≤ first_at (keyed (terms k c) x) (held_by s)
      absent = omega (arith, h.long, p)

      pub free_write : c.is_zero a ≡ true → s ≡ filled k c (write (terms k c) x a (held_by s))
      free_write z = own ∙ ap (filled k c) (sym (free_is (terms k c) (blank k c) x s.count s.terms h absent a z))

      pub free_place : c.is_zero a ≡ false → has_room (terms k c) x a (held_by s) ≡ true → s.count < most_terms
      free_place z r =
          let t : ltb (length (held_by s)) most_terms ≡ true = sym (rw z at (has_room_is x (held_by s) None p a)) ∙ r in
          let b = ltb-true _ _ t in
          omega (arith, h.long)

      pub appended_write : c.is_zero a ≡ false → s.count < most_terms
          → ◌≡◌ {A = Set K N} (record { count = s.count + 1; terms = set s.terms s.count (term_of k c x a) }) (filled k c (write (terms k c) x a (held_by s)))
      appended_write z m =
          filled-made (sets k c) _ _ _
          (appended_count (terms k c) (blank k c) x s.count s.terms h absent a z)
          (appended_places (terms k c) (blank k c) x s.count s.terms h absent a z m)
