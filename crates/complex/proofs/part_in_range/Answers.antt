-- `part_in_range` rests on `above_power` and `between_powers`, at 2^300.
use mathlib.Core.Path.{sym, ◌∙◌}
use lib.Ieee.{of_bits, neg}
use Rattle.complex.specs.Complex.{part_in_range, limit_power}
use Rattle.complex.proofs.FloatLaws.{above_power, between_powers}
use Rattle.complex.proofs.part_in_range.Goals as goal

pub returns-then-x : goal.returns-then-x
unfolding of_bits neg part_in_range
returns-then-x c = between_powers limit_power c.args.x c.if-x.true

pub returns-else-x : goal.returns-else-x
unfolding of_bits neg part_in_range
returns-else-x c = c.if-x.false ∙ sym (above_power limit_power c.args.x c.if-x.false)
