-- Answers with a record beside them: what the record of an accepted one has, and which one stands beside a refusal. Then the answers of the
-- entries on a set, for any kind of terms.
-- Assumes nothing.
use Prim.Native.Nat.{ℕ}
use native.Mathlib.Omega.{arith}
use mathlib.Core.Path.{◌≡◌, refl, sym, ap, subst}
use mathlib.Core.Bool.{Bool, true, false, not, cond}
use mathlib.Core.List.{List, []}
use Rattle.refusal.specs.Refusals.{Said, gives, refuses}
use Rattle.terms.specs.Kind.{Terms}
use Rattle.terms.specs.Setting.{write, has_room, added}
use Rattle.terms.specs.Entries.{all_in_range, set_in, add_in, ended}

-- the record of every accepted answer has the property P, and s stands beside every refusal
pub record Answered {A B : Type 0} (P : B → Type 0) (s : B) (z : Said A × B) : Type 0 where
  pub holds : (o : A) (x : B) → z ≡ (gives o, x) → P x
  pub kept : (n : ℕ) (l : List ℕ) → z.0 ≡ refuses n l → z.1 ≡ s

-- what gives a value does not refuse
pub not_both : {A : Type 0} (o : A) (n : ℕ) (l : List ℕ) → gives o ≡ refuses n l → ⊥
not_both o n l e = let z : ◌≡◌ {A = ℕ} 0 1 = cc in omega arith

module _ {A B : Type 0} {P : B → Type 0} {s : B} where
  -- a refusal, and a value with the record beside it
  pub answered_refused : (n : ℕ) (l : List ℕ) → Answered {A = A} P s (refuses n l, s)
  answered_refused n l = record { holds = λ o x e. absurd (not_both o n l (sym (ap (λ (z : Said A × B). z.0) e))); kept = λ n l e. refl }

  pub answered_given : {o : A} {x : B} → P x → Answered P s (gives o, x)
  answered_given {o} h = record { holds = λ o x e. subst P (ap (λ (z : Said A × B). z.1) e) h; kept = λ n l e. absurd (not_both o n l e) }

  -- a test before another answer, which is asked only where it is passed
  pub answered_past : (b : Bool) (n : ℕ) (l : List ℕ) (z : Said A × B) → (b ≡ true → Answered P s z) → Answered P s (cond (not b) (refuses n l, s) z)
  answered_past true n l z h = h refl
  answered_past false n l z h = answered_refused n l

  -- and one that must not be passed
  pub answered_unless : (b : Bool) (n : ℕ) (l : List ℕ) (z : Said A × B) → (b ≡ false → Answered P s z) → Answered P s (cond b (refuses n l, s) z)
  answered_unless true n l z h = answered_refused n l
  answered_unless false n l z h = h refl

-- ---- the entries on a set that holds the terms l

module _ {K N R : Type 0} (S : Terms K N) (in_range : N → Bool) (filled : List S.Term → R) {P : R → Type 0} {s : R} where
  module _ (l : List S.Term) (k : K) (a : N) (writes : (b : N) → in_range b ≡ true → has_room S k b l ≡ true → P (filled (write S k b l))) where
    pub set_answered : {A : Type 0} (shown : S.Term → A) → Answered P s (set_in S in_range filled shown s l k a)
    set_answered shown = answered_past (in_range a) _ _ _ (λ r. answered_past (has_room S k a l) _ _ _ (λ m. answered_given (writes a r m)))

    pub add_answered : Answered P s (add_in S in_range filled s l k a)
    add_answered =
        let b = added S k a l in
        answered_past (in_range a) _ _ _ (λ q. answered_past (has_room S k b l) _ _ _ (λ m. answered_past (in_range b) _ _ _ (λ r. answered_given (writes b r m))))

  -- terms that are judged
  pub finally_answered : (l : List S.Term) → (all_in_range S in_range l ≡ true → P (filled l)) → Answered P s (ended S in_range filled s (gives l))
  unfolding ended
  finally_answered l h = answered_past (all_in_range S in_range l) _ _ _ (λ r. answered_given (h r))

  -- what a chain ends in
  pub ended_answered : (o : Said (List S.Term)) → ((l : List S.Term) → o ≡ gives l → all_in_range S in_range l ≡ true → P (filled l)) → Answered P s (ended S in_range filled s o)
  unfolding ended
  ended_answered (gives l) h = finally_answered l (h l refl)
  ended_answered (refuses n l) h = answered_refused n l

-- ---- what a chain ends in, where `back` stands beside a refusal

module _ {K N R : Type 0} (S : Terms K N) (in_range : N → Bool) (filled : List S.Term → R) (back : R) {o : Said (List S.Term)} where
  -- its own refusal
  pub ended_refused : {n : ℕ} {l : List ℕ} → o ≡ refuses n l → (refuses n l, back) ≡ ended S in_range filled back o
  unfolding ended
  ended_refused e = rw e

  -- what is held at the end, judged by 5
  pub ended_out : {l : List S.Term} → o ≡ gives l → all_in_range S in_range l ≡ false → (refuses 5 [], back) ≡ ended S in_range filled back o
  unfolding ended
  ended_out e out = rw (e, out)

  pub ended_in : {l : List S.Term} {s : R} → o ≡ gives l → s ≡ filled l → all_in_range S in_range l ≡ true → (gives tt, s) ≡ ended S in_range filled back o
  unfolding ended
  ended_in e is in-range = rw (e, is, in-range)
