-- The float -1/2 is written as the negative of 1/2.
use lib.Ieee.{neg, of_bits}
use Rattle.rows.specs.HalfUnits.{minus_half_unit}
use Rattle.rows.proofs.number.minus_half_unit.Goals as goal

pub returns : goal.returns
unfolding minus_half_unit neg of_bits
returns c = rw c.unit_of_i-u.ensures
