-- The Hamiltonian's site, or the noise's where it has none (`outside_or`).
use mathlib.Core.Path.{ap, ◌∙◌}
use Rattle.refusal.specs.Refusals.{listed}
use Rattle.outside_sites.proofs.OutsideLaws.{outside_or}
use Rattle.outside_sites.proofs.outside_site.Goals as goal

pub returns : goal.returns
returns c = ap listed c.or.ensures ∙ outside_or c.args.spins _ _ c.of_operator.result c.of_noise.result c.of_operator.ensures c.of_noise.ensures
