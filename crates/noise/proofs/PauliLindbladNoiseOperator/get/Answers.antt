-- The answer of a set of any keys and coefficients, for pairs.
use Rattle.std.proofs.Common.{◌∙◌}
use Rattle.noise_sets.proofs.Instances.{get_pair_is}
use Rattle.noise.proofs.PauliLindbladNoiseOperator.get.Goals as goal

pub returns : goal.returns
returns c = c.get.ensures ∙ get_pair_is c.args.self.now.set (c.args.left.items, c.args.right.items)
