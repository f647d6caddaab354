-- Sets as records of a count and places, for any kind of them: what the set that holds given terms has, and that a set that holds its own
-- terms has blanks past its count; such a set without one of its terms.
-- Assumes nothing.
use Prim.Native.Nat.{ℕ, ◌-◌, ◌<◌}
use native.Mathlib.Omega.{arith}
use mathlib.Core.Path.{◌≡◌, sym, ap, ◌∙◌}
use mathlib.Core.List.{List, ◌++◌}
use lib.ListN.{length, take, drop, set}
use lib.Seq.{take_all}
use Rattle.terms.specs.Keyed.{padded, omitted}
use Rattle.terms.specs.Setting.{most_terms}
use Rattle.terms.proofs.ClosingLaws.{closed_up, length-omitted, closed_up_lem}
use Rattle.terms.proofs.SettingLaws.{Held, held_by_lem, terms_of}

-- a kind of set with terms of A: what stands past the count, a set's count and places, the set of a count and places, and the set that holds
-- given terms
pub record Sets (A R : Type 0) : Type 0 where
  pub blank : A
  pub count : R → ℕ
  pub places : R → List A
  pub make : ℕ → List A → R
  pub filled : List A → R
  -- a set is its count and its places
  pub made : (s : R) → s ≡ make (count s) (places s)
  pub made-count : (n : ℕ) (t : List A) → count (make n t) ≡ n
  pub made-places : (n : ℕ) (t : List A) → places (make n t) ≡ t
  -- the terms come first, and blanks past them
  pub fills : (l : List A) → filled l ≡ make (length l) (padded most_terms blank l)

module _ {A R : Type 0} (T : Sets A R) where
  -- the terms that a set holds
  abbrev pub held_in : R → List A
  held_in s = take (T.count s) (T.places s)

  -- the set of a count and places, where they are those of given terms
  pub filled-made : (n : ℕ) (t l : List A) → n ≡ length l → t ≡ padded most_terms T.blank l → T.make n t ≡ T.filled l
  filled-made n t l e g =
      let p : T.make n t ≡ T.make (length l) (padded most_terms T.blank l) = λ j. T.make (e j) (g j) in
      p ∙ sym (T.fills l)

  -- a set by its count and its places
  pub filled_by : (s : R) (l : List A) → T.count s ≡ length l → T.places s ≡ padded most_terms T.blank l → s ≡ T.filled l
  filled_by s l e g = T.made s ∙ filled-made (T.count s) (T.places s) l e g

  pub filled-count : (l : List A) → T.count (T.filled l) ≡ length l
  filled-count l = ap T.count (T.fills l) ∙ T.made-count (length l) (padded most_terms T.blank l)

  pub filled-places : (l : List A) → T.places (T.filled l) ≡ padded most_terms T.blank l
  filled-places l = ap T.places (T.fills l) ∙ T.made-places (length l) (padded most_terms T.blank l)

  -- to hold one's own terms is to have blanks past the count
  pub held_own : (s : R) → length (T.places s) ≡ most_terms → s ≡ T.filled (held_in s) → Held T.blank (T.count s) (T.places s)
  held_own s whole e =
      held_by_lem T.blank (T.count s) (T.places s) whole (ap T.count e ∙ filled-count (held_in s)) (ap T.places e ∙ filled-places (held_in s))

  pub own_held : (s : R) → Held T.blank (T.count s) (T.places s) → s ≡ T.filled (held_in s)
  own_held s h = filled_by s (held_in s) (sym h.long) h.pads

  -- the terms of a filled set, and that it holds its own
  pub held-filled : (l : List A) → held_in (T.filled l) ≡ l
  held-filled l = terms_of T.blank (T.count (T.filled l)) (T.places (T.filled l)) l (filled-count l) (filled-places l)

  pub held-from : (s : R) (l : List A) → s ≡ T.filled l → held_in s ≡ l
  held-from s l e = ap held_in e ∙ held-filled l

  pub own_from : (s : R) (l : List A) → s ≡ T.filled l → s ≡ T.filled (held_in s)
  own_from s l e = e ∙ ap T.filled (sym (held-from s l e))

-- a set without its term at a place, as code writes it: later places close up, and the blank stands last
pub struck-filled : {A R : Type 0} (T : Sets A R) (at n : ℕ) (t : List A) → Held T.blank n t → at < n
    → T.make (n - 1) (set (closed_up at n t) (n - 1) T.blank) ≡ T.filled (omitted at (take n t))
struck-filled {A} T at n t h m =
    let l = take n t in
    let o = length-omitted at l (omega (arith, h.long)) in
    filled-made T (n - 1) _ (omitted at l) (omega (arith, h.long))
    (ap (λ (u : List A). set (omitted at l ++ drop (n - 1) u) (n - 1) T.blank) h.pads
    ∙ ap (λ (r : List A). set (r ++ drop (n - 1) (padded most_terms T.blank l)) (n - 1) T.blank) (sym (take_all (n - 1) (omitted at l) (omega (arith, h.long))))
    ∙ closed_up_lem most_terms at T.blank l (n - 1) (omega (arith, h.long)) (omega (arith, h.long, h.few)) (omega (arith, h.long)))
