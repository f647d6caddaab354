-- The answer on the terms, with a second part of +0.
use Rattle.std.proofs.Common.{◌∙◌, ap}
use Rattle.std.proofs.lemmas.Result.{err_from_is_err_and}
use Rattle.hamiltonians.proofs.Instances.{complex_answer, get_real_is}
use Rattle.hamiltonians.proofs.PauliHamiltonian.get.Goals as goal

pub returns-in_err-get : goal.returns-in_err-get
returns-in_err-get c =
    let p = err_from_is_err_and c.from_residual.result c.from_residual.ensures.1 in
    rw (p.1, p.2) (ap complex_answer c.in_err-get.ensures ∙ get_real_is c.args.self.now c.args.key.items)

pub returns : goal.returns
returns c = rw c.from.ensures (ap complex_answer c.in_ok-get.ensures ∙ get_real_is c.args.self.now c.args.key.items)
