-- The lines of one set in the reference model: what a refused and an accepted call leave, and when its lines are in range.
-- Assumes nothing.
use Prim.Native.Nat.{ℕ, ◌*◌, ◌^◌, ◌≤◌}
use native.Mathlib.Nat.{zero-mul, mul-one}
use native.Mathlib.Omega.{arith}
use mathlib.Core.Path.{◌≡◌, refl, sym, ap, ◌∙◌}
use mathlib.Core.Bool.{Bool, true, false, not, ◌&&◌, ◌||◌, cond, beq, true≢false}
use mathlib.Core.List.{List, [], ◌∷◌}
use mathlib.Core.Option.{Option, none, some}
use lib.Dec.{ltb, leb, eqb}
use lib.ListN.{length}
use lib.Ieee.{Float, nan, inf, fin, eq, of_bits, up, down}
use borrow.Author.Tests.{eqb-true, le-leb}
use Rattle.letters.proofs.TestLaws.{and_true, and_left, and_right, and_false}
use Rattle.complex.specs.Complex.{plus_zero, is_zero, in_range, part_in_range, at_most, limit_power}
use Rattle.complex.specs.declared.Complex.{Complex}
use Rattle.terms.specs.Keyed.{each}
use Rattle.terms.specs.Kind.{Terms}
use Rattle.terms.specs.Setting.{most_terms, write, has_room}
use Rattle.condition3.specs.ReferenceModel.{Line, strike_out, replace_or_append, write_line, unless_full, lines_in_range, unless_refused}
use Rattle.condition3.proofs.LineLaws.{lines_of, Faithful, full_is}

-- ---- refused and accepted calls

module _ {K : Type 0} (lawful : Bool) (lines : List (Line K)) where
  -- refused for its arguments
  pub arguments_refused : lawful ≡ false → (o : Option (List (Line K))) → unless_refused lawful o lines ≡ lines
  unfolding unless_refused
  arguments_refused e none = refl
  arguments_refused e (some l) = ap (λ b. cond (b && lines_in_range l) l lines) e

  -- refused for what would be held
  pub range_refused : (l : List (Line K)) → lines_in_range l ≡ false → unless_refused lawful (some l) lines ≡ lines
  unfolding unless_refused
  range_refused l e = ap (λ b. cond b l lines) (and_false lawful (lines_in_range l) e)

  pub call_accepted : (l : List (Line K)) → lawful ≡ true → lines_in_range l ≡ true → unless_refused lawful (some l) lines ≡ l
  unfolding unless_refused
  call_accepted l e r = ap (λ b. cond b l lines) (and_true e r)

pub full_refused : {K : Type 0} (l : List (Line K)) → ltb most_terms (length l) ≡ true → unless_full l ≡ none
unfolding unless_full
full_refused l e = ap (λ b. cond b none (some l)) e

pub room_left : {K : Type 0} (l : List (Line K)) → ltb most_terms (length l) ≡ false → unless_full l ≡ some l
unfolding unless_full
room_left l e = ap (λ b. cond b none (some l)) e

-- ---- lines in range

pub range_is : {K N : Type 0} (S : Terms K N) (parts : N → Complex) (l : List S.Term) → lines_in_range (lines_of S parts l) ≡ each (λ t ts. in_range (parts (S.coefficient t))) l
unfolding lines_in_range each
range_is S parts [] = refl
range_is S parts (x ∷ xs) = ap (λ b. in_range (parts (S.coefficient x)) && b) (range_is S parts xs)

none_within : (n : ℕ) → leb 0 n ≡ true
none_within n = le-leb 0 n (omega arith)

-- a part that is zero is in range
zero-part : (x : Float) → eq x plus_zero ≡ true → part_in_range x ≡ true
unfolding eq of_bits part_in_range at_most
zero-part nan e = absurd (true≢false (sym e))
zero-part (inf s) e = absurd (true≢false (sym e))
zero-part (fin s m d) e =
    let same = eqb (m * up d * 1) (0 * down d) in
    let z : m * up d ≡ 0 = sym (mul-one (m * up d)) ∙ eqb-true (m * up d * 1) (0 * down d) (and_left same (beq s false || eqb (m * up d * 1) 0) e) ∙ zero-mul (down d) in
    rw z (none_within (2 ^ limit_power * down d))

zero-in_range : (z : Complex) → is_zero z ≡ true → in_range z ≡ true
unfolding is_zero in_range
zero-in_range z e =
    let x = eq z.re plus_zero in
    let y = eq z.im plus_zero in
    and_true (zero-part z.re (and_left x y e)) (zero-part z.im (and_right x y e))

appended_out : {K : Type 0} (same : K → K → Bool) (k : K) (z : Complex) (l : List (Line K)) → in_range z ≡ false → lines_in_range (replace_or_append same k z l) ≡ false
unfolding replace_or_append lines_in_range
appended_out same k z [] e = ap (λ b. b && true) e
appended_out same k z (x ∷ xs) e = go (same x.0 k) (appended_out same k z xs e)
  where
    go : (b : Bool) → lines_in_range (replace_or_append same k z xs) ≡ false → lines_in_range (cond b ((x.0, z) ∷ xs) (x ∷ replace_or_append same k z xs)) ≡ false
    go true h = ap (λ b. b && lines_in_range xs) e
    go false h = and_false (in_range x.1) (lines_in_range (replace_or_append same k z xs)) h

-- a coefficient out of range, once written, is out of range there
pub written_out : {K : Type 0} (same : K → K → Bool) (k : K) (z : Complex) (l : List (Line K)) → in_range z ≡ false → lines_in_range (write_line same k z l) ≡ false
unfolding write_line
written_out same k z l e = go (is_zero z) refl
  where
    go : (b : Bool) → is_zero z ≡ b → lines_in_range (cond b (strike_out same k l) (replace_or_append same k z l)) ≡ false
    go true t = absurd (true≢false (sym (zero-in_range z t) ∙ e))
    go false t = appended_out same k z l e

-- ---- a call that writes b under k among the lines of the terms l: `lines` is what it makes of them

module _ {K N : Type 0} (S : Terms K N) (parts : N → Complex) (F : Faithful S parts) (lawful : Bool) (k : K) (b : N) (l : List S.Term) (lines : List (Line K)) (is : lines_of S parts (write S k b l) ≡ lines) where
  abbrev before : List (Line K)
  before = lines_of S parts l

  abbrev afterwards : List (Line K)
  afterwards = unless_refused lawful (unless_full lines) before

  long_is : length l ≤ most_terms → not (has_room S k b l) ≡ ltb most_terms (length lines)
  long_is few = full_is S parts F k b l few ∙ ap (λ x. ltb most_terms (length x)) is

  pub kept_full : length l ≤ most_terms → has_room S k b l ≡ false → before ≡ afterwards
  unfolding unless_refused
  kept_full few e = sym (ap (λ o. unless_refused lawful o before) (full_refused lines (sym (long_is few) ∙ ap not e)))

  pub kept_out : lines_in_range lines ≡ false → before ≡ afterwards
  unfolding unless_refused
  kept_out e = go (ltb most_terms (length lines)) refl
    where
      go : (t : Bool) → ltb most_terms (length lines) ≡ t → before ≡ afterwards
      go true f = sym (ap (λ o. unless_refused lawful o before) (full_refused lines f))
      go false f = sym (ap (λ o. unless_refused lawful o before) (room_left lines f) ∙ range_refused lawful before lines e)

  pub written_in : length l ≤ most_terms → lawful ≡ true → has_room S k b l ≡ true → lines_in_range lines ≡ true → lines_of S parts (write S k b l) ≡ afterwards
  written_in few g e r =
      is ∙ sym (ap (λ o. unless_refused lawful o before) (room_left lines (sym (long_is few) ∙ ap not e)) ∙ call_accepted lawful before lines g r)
