-- `unit_of_i` goes by the remainder of the power by 4, as `unit_of_I` does; -1.0 has the bits of `minus_one`.
use Prim.Native.Nat.{◌%◌}
use native.Mathlib.Omega.{arith}
use mathlib.Core.Path.{◌≡◌}
use lib.Ieee.{of_bits, neg}
use Rattle.complex.specs.Complex.{unit_of, unit_of_I}
use Rattle.complex.proofs.unit_of_i.Goals as goal

pub returns-in-0 : goal.returns-in-0
unfolding unit_of_I unit_of
returns-in-0 c = let h : c.args.power % 4 ≡ 0 = omega arith in rw h

pub returns-in-1 : goal.returns-in-1
unfolding unit_of_I unit_of
returns-in-1 c = let h : c.args.power % 4 ≡ 1 = omega arith in rw h

pub returns-in-2 : goal.returns-in-2
unfolding unit_of_I unit_of of_bits neg
returns-in-2 c = let h : c.args.power % 4 ≡ 2 = omega arith in rw h

pub returns-in_default : goal.returns-in_default
unfolding unit_of_I unit_of of_bits neg
returns-in_default c = let h : c.args.power % 4 ≡ 3 = omega arith in rw h
