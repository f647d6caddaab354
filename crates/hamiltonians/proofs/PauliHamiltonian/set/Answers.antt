-- The answer on the terms, read of the Hamiltonian that has them, with a second part of +0 in what was there before.
use Rattle.std.proofs.Common.{◌≡◌, ◌∙◌, ap, rules}
use Rattle.std.specs.Option.{option_map}
use Rattle.hamiltonians.specs.Reals.{complex_of}
use Rattle.std.proofs.lemmas.Result.{err_from_is_err_and}
use Rattle.hamiltonians.proofs.Instances.{told_before, set_real_is, listed_map}
use Rattle.hamiltonians.proofs.PauliHamiltonian.set.Goals as goal

pub returns-in_err-before : goal.returns-in_err-before
returns-in_err-before c =
    let p = err_from_is_err_and c.from_residual.result c.from_residual.ensures.1 in
    rw (p.1, p.2) (ap told_before c.in_err-before.ensures ∙ set_real_is c.args.self.now c.args.key.items c.args.value)

pub returns : goal.returns
returns c =
    let e : c.map.result ≡ option_map complex_of c.in_ok-before.before = search rules in
    rw (e, listed_map) (ap told_before c.in_ok-before.ensures ∙ set_real_is c.args.self.now c.args.key.items c.args.value)
