-- The answer on the terms, read of the Hamiltonian that has them.
use Rattle.std.proofs.Common.{◌∙◌, ap}
use Rattle.hamiltonians.proofs.Instances.{told_done, add_real_is}
use Rattle.hamiltonians.proofs.PauliHamiltonian.add_operator_product.Goals as goal

pub returns : goal.returns
returns c = ap told_done c.add.ensures ∙ add_real_is c.args.self.now c.args.key.items c.args.value
