-- The product alone (`first_outside`, `first_inside`).
use mathlib.Core.List.{[]}
use mathlib.Core.Path.{sym, ◌∙◌}
use Rattle.outside_sites.proofs.OutsideLaws.{outside_none, first_outside, first_inside}
use Rattle.outside_sites.proofs.of_product.Goals as goal

pub returns-then-spins-reach : goal.returns-then-spins-reach
returns-then-spins-reach c = sym (first_outside c.args.spins c.args.p.now [] c.reach-reach.ensures c.if-spins-reach.true)

pub returns : goal.returns
returns c = sym (first_inside c.args.spins c.args.p.now [] c.reach-reach.ensures c.if-spins-reach.false ∙ outside_none c.args.spins)
