-- The answer of a set of any keys and coefficients, for pairs.
use Rattle.std.proofs.Common.{◌∙◌}
use Rattle.noise_sets.proofs.Instances.{add_pair_is}
use Rattle.noise.proofs.PauliLindbladNoiseOperator.add_operator_product.Goals as goal

pub returns : goal.returns
returns c = c.add.ensures ∙ add_pair_is c.args.self.now.set (c.args.left.items, c.args.right.items) c.args.value
