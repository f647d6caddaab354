-- The answer of a set of any keys and coefficients, for pairs.
use Rattle.std.proofs.Common.{◌∙◌}
use Rattle.noise_sets.proofs.Instances.{set_pair_is}
use Rattle.noise.proofs.PauliLindbladNoiseOperator.set.Goals as goal

pub returns : goal.returns
returns c = c.set.ensures ∙ set_pair_is c.args.self.now.set (c.args.left.items, c.args.right.items) c.args.value
