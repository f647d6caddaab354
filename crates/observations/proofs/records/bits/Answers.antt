-- A number that is no NaN equals itself. Assumes nothing.
use Rattle.std.proofs.Common.{sym, ◌∙◌}
use Rattle.observations.proofs.NumberLaws.{equals_itself}
use Rattle.observations.proofs.records.bits.Goals as goal

pub returns-else-is_nan : goal.returns-else-is_nan
returns-else-is_nan c = rw (equals_itself c.args.x (sym c.is_nan.ensures.value ∙ c.if-is_nan.false))
