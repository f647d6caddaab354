-- `size_part` goes by the exponent field, as the laws of WholeBits do; between 1 and twice the limit it divides by the unit.
-- Assumes nothing.
use Prim.Native.Nat.{◌+◌, ◌-◌, ◌*◌, ◌%◌, ◌^◌, ◌≤◌}
use native.Mathlib.Nat.{lt_of_le_of_lt}
use native.Mathlib.Omega.{arith}
use mathlib.Core.Path.{◌≡◌, sym, ap, ◌∙◌}
use mathlib.Core.Bool.{false}
use mathlib.Core.Option.{some}
use lib.Dec.{lit<, lit≤}
use lib.Ieee.{binary64, of_fields}
use mir.Syntax.{w64}
use mir.ValLaws.{to_z_pos}
use borrow.Author.Tests.{le-leb, lt-leb}
use Rattle.complex.specs.Wholes.{grain_power, most_parts_power, whole_fraction, whole_of}
use Rattle.complex.proofs.WholeBits.{fields_zero, fields_tiny, fields_low, fields_high, fields_middle, fraction_whole, fraction_over, fraction_rest, shifted_unit}
use Rattle.complex.proofs.whole.size_part.Goals as goal
use Rattle.complex.proofs.whole.size_part.Goals.{Else-power, then-power-lt1023-via-then-power-lt1023, then-power-lt1023-via-else-power-lt1023+then-power, else-digits-unit-eq0-via-then-digits-unit-eq0+else-n, else-digits-unit-eq0-via-else-digits-unit-eq0}

-- the two powers that the laws are put to
fine : grain_power ≤ 1022
fine = lit≤ tt

few : most_parts_power ≤ 52
few = lit≤ tt

pub returns-then-digits-eq0 : goal.returns-then-digits-eq0
unfolding whole_of
returns-then-digits-eq0 c = sym (rw (c.if-field-eq0.true, c.if-digits-eq0.true) (fields_zero grain_power most_parts_power fine few))

pub returns-else-digits-eq0 : goal.returns-else-digits-eq0
unfolding whole_of
returns-else-digits-eq0 c = sym (rw c.if-field-eq0.true (fields_tiny grain_power most_parts_power fine few c.args.digits (omega arith) c.requires.1))

pub returns-then-power-lt1023 : goal.returns-then-power-lt1023
unfolding whole_of
returns-then-power-lt1023 c =
    let f = c.args.field in
    let d = c.args.digits in
    sym
    (elim c.then-power-lt1023.branch [
      | then-power-lt1023-via-then-power-lt1023 w ↦ fields_low grain_power most_parts_power fine few f d (omega arith) (omega arith) c.requires.1
      | then-power-lt1023-via-else-power-lt1023+then-power w ↦ fields_high grain_power most_parts_power fine few f d (omega arith)
    ])

-- between, it is the fraction that the code works out, of the digits and the unit
middle : (c : Else-power) → whole_of (of_fields binary64 false c.args.field c.args.digits) ≡ whole_fraction most_parts_power false (2 ^ 52 + c.args.digits) (1 * 2 ^ (1075 - (c.args.field + grain_power)) % 2 ^ 64)
unfolding whole_of
middle c =
    rw (shifted_unit (1075 - (c.args.field + grain_power)) (omega arith)) (fields_middle grain_power most_parts_power fine few c.args.field c.args.digits (omega arith) (omega arith) (omega arith))

pub returns-then-n : goal.returns-then-n
returns-then-n c =
    ap some (to_z_pos w64 _ (lt_of_le_of_lt c.if-n.true (lit< tt)))
    ∙ sym (middle c.before.before ∙ fraction_whole most_parts_power false _ _ c.if-digits-unit-eq0.true (le-leb _ _ c.if-n.true))

pub returns : goal.returns
returns c =
    sym
    (middle c.before
    ∙ elim c.else-digits-unit-eq0.branch [ else-digits-unit-eq0-via-then-digits-unit-eq0+else-n w ↦ fraction_over most_parts_power false _ _ (lt-leb _ _ w.if-n.false) | else-digits-unit-eq0-via-else-digits-unit-eq0 w ↦ fraction_rest most_parts_power false _ _ w.if-digits-unit-eq0.false ])
