-- What setting and adding one term of a set answer; a step of a chain, and its end.
-- Assumes nothing.
use Prim.Native.Nat.{ℕ}
use mathlib.Core.Path.{◌≡◌, refl, sym, ap, ◌∙◌}
use mathlib.Core.Bool.{Bool, true, false, not, cond}
use mathlib.Core.List.{List, [], map}
use Rattle.refusal.specs.Refusals.{Said, gives, refuses, done}
use Rattle.complex.specs.Coefficients.{Coefficients}
use Rattle.terms.specs.Keyed.{held, each}
use Rattle.terms.specs.Chains.{and_then}
use Rattle.terms.specs.Entries.{all_in_range}
use Rattle.terms.specs.Setting.{keyed, write, has_room, added}
use Rattle.term_sets.specs.Keys.{Keys}
use Rattle.term_sets.specs.Sets.{terms, filled, held_by, valid_set}
use Rattle.term_sets.specs.declared.Set.{Set}
use Rattle.term_sets.specs.declared.Term.{Term}
use Rattle.term_writing.specs.Checked.{checked}
use Rattle.term_writing.specs.WritingAnswers.{unless_refused, set_answer, add_answer, add_step, finish}

-- ---- what is judged first: the set by v, the key by what it gives, the coefficient by r

-- the same refusal of another kind of answer
refused_so : {A B R : Type 0} (s : R) (n m : ℕ) (l k : List ℕ) → ◌≡◌ {A = Said A} (refuses n l) (refuses m k) → ◌≡◌ {A = Said B × R} (refuses n l, s) (refuses m k, s)
refused_so s n m l k e =
    let p : n ≡ m = cc in
    let q : l ≡ k = cc in
    λ j. (refuses (p j) (q j), s)

refused_first : {B R : Type 0} (s : R) (z : Said B × R) (n : ℕ) (l : List ℕ) (v : Bool) (o : Said Unit) (r : Bool)
    → refuses n l ≡ cond v (and_then o (λ u. cond r done (refuses 5 []))) (refuses 0 [])
    → (refuses n l, s) ≡ cond (not v) (refuses 0 [], s) (unless_refused o s (cond (not r) (refuses 5 [], s) z))
refused_first s z n l false o r e = refused_so s n 0 l [] e
refused_first s z n l true (refuses m k) r e = refused_so s n m l k e
refused_first s z n l true (gives u) false e = refused_so s n 5 l [] e
refused_first s z n l true (gives u) true e = absurd (cc)

accepted_first : (v : Bool) (o : Said Unit) (r : Bool) → done ≡ cond v (and_then o (λ u. cond r done (refuses 5 []))) (refuses 0 []) → (v ≡ true) × (done ≡ o) × (r ≡ true)
accepted_first false o r e = absurd (cc)
accepted_first true (refuses m k) r e = absurd (cc)
accepted_first true (gives u) false e = absurd (cc)
accepted_first true (gives u) true e = (refl, refl, refl)

module _ {K N : Type 0} (k : Keys K) (c : Coefficients N) (zeros : Bool) (s : Set K N) (x : K) (a : N) where
  -- an entry is refused
  pub set_refused : (o : Said (List N)) (n : ℕ) (l : List ℕ) → o ≡ refuses n l → refuses n l ≡ checked k c zeros s x a → (o, s) ≡ set_answer k c zeros s x a
  unfolding set_answer
  set_refused o n l r e = rw r (refused_first s _ n l (valid_set k c zeros s) (k.said_of x) (c.in_range a) e)

  pub add_refused : (o : Said Unit) (n : ℕ) (l : List ℕ) → o ≡ refuses n l → refuses n l ≡ checked k c zeros s x a → (o, s) ≡ add_answer k c zeros s x a
  unfolding add_answer
  add_refused o n l r e = rw r (refused_first s _ n l (valid_set k c zeros s) (k.said_of x) (c.in_range a) e)

  -- else the set is valid
  pub accepted-valid : done ≡ checked k c zeros s x a → valid_set k c zeros s ≡ true
  accepted-valid e = (accepted_first (valid_set k c zeros s) (k.said_of x) (c.in_range a) e).0

  module _ (e : done ≡ checked k c zeros s x a) where
    abbrev judged : (valid_set k c zeros s ≡ true) × (done ≡ k.said_of x) × (c.in_range a ≡ true)
    judged = accepted_first (valid_set k c zeros s) (k.said_of x) (c.in_range a) e

    -- there is no room for the coefficient
    pub set_full : has_room (terms k c) x a (held_by s) ≡ false → (refuses 6 [], s) ≡ set_answer k c zeros s x a
    unfolding set_answer
    set_full m = rw (judged.0, ← judged.1, judged.2, m)

    -- it is set
    pub set_done : (before : List N) (after : Set K N) → has_room (terms k c) x a (held_by s) ≡ true
        → before ≡ map (λ t. t.coefficient) (held (keyed (terms k c) x) (held_by s)) → after ≡ filled k c (write (terms k c) x a (held_by s))
        → (gives before, after) ≡ set_answer k c zeros s x a
    unfolding set_answer
    set_done before after m b f = rw (judged.0, ← judged.1, judged.2, m) (λ j. (gives (b j), f j))

    -- the sum b
    module _ (b : N) (i : b ≡ added (terms k c) x a (held_by s)) where
      pub sum_full : has_room (terms k c) x b (held_by s) ≡ false → (refuses 6 [], s) ≡ add_answer k c zeros s x a
      unfolding add_answer
      sum_full m = rw (judged.0, ← judged.1, judged.2, ← i, m)

      pub sum_out : has_room (terms k c) x b (held_by s) ≡ true → c.in_range b ≡ false → (refuses 5 [], s) ≡ add_answer k c zeros s x a
      unfolding add_answer
      sum_out m q = rw (judged.0, ← judged.1, judged.2, ← i, m, q)

      pub sum_done : (after : Set K N) → has_room (terms k c) x b (held_by s) ≡ true → c.in_range b ≡ true → after ≡ filled k c (write (terms k c) x b (held_by s))
          → (done, after) ≡ add_answer k c zeros s x a
      unfolding add_answer
      sum_done after m q f = rw (judged.0, ← judged.1, judged.2, ← i, m, q) (λ j. (done, f j))

-- ---- a step of a chain

module _ {K N : Type 0} (k : Keys K) (c : Coefficients N) (x : K) (a : N) (l : List (Term K N)) (b : N) (i : b ≡ added (terms k c) x a l) where
  pub step_full : has_room (terms k c) x b l ≡ false → (refuses 6 [], l) ≡ add_step k c x a l
  unfolding add_step
  step_full m = rw (← i, m)

  pub step_done : has_room (terms k c) x b l ≡ true → (after : List (Term K N)) → after ≡ write (terms k c) x b l → (done, after) ≡ add_step k c x a l
  unfolding add_step
  step_done m after w = rw (← i, m) (λ j. (done, w j))

-- ---- the end of a chain

module _ {K N : Type 0} (k : Keys K) (c : Coefficients N) (l : List (Term K N)) (r : Bool) (e : r ≡ each (λ t ts. c.in_range t.coefficient) l) where
  pub finish_in : r ≡ true → (s : Set K N) → s ≡ filled k c l → gives s ≡ finish k c l
  unfolding finish all_in_range
  finish_in q s f = rw (sym e ∙ q) (ap gives f)

  pub finish_out : r ≡ false → refuses 5 [] ≡ finish k c l
  unfolding finish all_in_range
  finish_out q = rw (sym e ∙ q)
