-- `whole_part` takes the sign bit off, has the rest worked out, and puts the sign back. Assumes nothing.
use Prim.Native.Nat.{zero, suc, ◌/◌, ◌%◌, ◌^◌, ◌≤◌}
use native.Mathlib.Nat.{le_trans, lt_of_le_of_lt}
use native.Mathlib.Omega.{arith}
use mathlib.Core.Path.{◌≡◌, sym, ap, ◌∙◌}
use mathlib.Core.Bool.{false}
use mathlib.Core.Option.{some, map}
use lib.Dec.{T, lit<}
use lib.IntN.{ℤ, pos, negsuc, neg_ℤ, nat_abs, ◌-ℤ◌, +ℤ_idl}
use lib.Signed.{mag}
use lib.Ieee.{binary64, fits, to_bits, of_fields}
use mir.Syntax.{w64}
use mir.Val.{to_z, of_z, SFits}
use mir.ValLaws.{to_z-of_z}
use borrow.Author.Rules.{rules}
use Rattle.complex.specs.Wholes.{most_parts_power, whole_of}
use Rattle.complex.proofs.WholeLaws.{mag_abs, whole_abs}
use Rattle.complex.proofs.WholeBits.{bits_positive, bits_negative, bits_none, nan_none}
use Rattle.complex.proofs.whole.whole_part.Goals as goal
use Rattle.complex.proofs.whole.whole_part.Goals.{In_ok-size}

pub returns-then-is_nan : goal.returns-then-is_nan
returns-then-is_nan c = sym (nan_none c.args.x (sym c.is_nan.ensures.value ∙ c.if-is_nan.true))

-- no number for the size, whatever the sign
pub returns-in_err-size : goal.returns-in_err-size
returns-in_err-size c =
    let x = c.args.x in
    let f : T (fits binary64 x) = search rules in
    rw c.from_residual.ensures (sym (bits_none x f (sym c.in_err-size.ensures)))

-- the number found for the size
found : (c : In_ok-size) → let b = to_bits binary64 c.args.x in
    whole_of (of_fields binary64 false (b / 2 ^ 52 % 2 ^ 11) (b % 2 ^ 52)) ≡ some c.in_ok-size.size
found c = sym c.in_ok-size.ensures

-- it has room in an i64, and so has its negative
fits_both : (z : ℤ) → nat_abs z ≤ 2 ^ most_parts_power → SFits w64 z × SFits w64 (pos 0 -ℤ z)
fits_both z h = (record { sfits = lt_of_le_of_lt (le_trans (mag_abs z) h) (lit< tt) }, record { sfits = rw (+ℤ_idl (neg_ℤ z)) (lt_of_le_of_lt (le_trans (other z) h) (lit< tt)) })
  where
    other : (z : ℤ) → mag (neg_ℤ z) ≤ nat_abs z
    other (pos zero) = omega arith
    other (pos (suc n)) = omega arith
    other (negsuc n) = omega arith

room : (c : In_ok-size) → let z = c.in_ok-size.size in SFits w64 z × SFits w64 (pos 0 -ℤ z)
room c = fits_both c.in_ok-size.size (whole_abs _ c.in_ok-size.size (found c))

pub returns-then-bits-lt-SIGN : goal.returns-then-bits-lt-SIGN
returns-then-bits-lt-SIGN c =
    let x = c.args.x in
    let z = c.in_ok-size.size in
    let f : T (fits binary64 x) = search rules in
    ap some (to_z-of_z w64 z (room c.before).0)
    ∙ sym (bits_positive x f c.if-bits-lt-SIGN.true ∙ found c.before)

pub overflow_sub-result : goal.overflow_sub-result
overflow_sub-result c =
    rw (to_z-of_z w64 c.in_ok-size.size (room c.before).0) (room c.before).1

pub returns-else-bits-lt-SIGN : goal.returns-else-bits-lt-SIGN
returns-else-bits-lt-SIGN c =
    let x = c.args.x in
    let z = c.in_ok-size.size in
    let f : T (fits binary64 x) = search rules in
    ap some (ap (λ (y : ℤ). to_z w64 (of_z w64 (pos 0 -ℤ y))) (to_z-of_z w64 z (room c.before).0) ∙ to_z-of_z w64 (pos 0 -ℤ z) (room c.before).1 ∙ +ℤ_idl (neg_ℤ z))
    ∙ sym (bits_negative x f c.if-bits-lt-SIGN.false ∙ ap (map neg_ℤ) (found c.before))
