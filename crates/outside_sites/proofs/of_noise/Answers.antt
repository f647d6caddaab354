-- The first term with a site at `spins` or above ends the walk (`looked_found`); of its sides the left one comes first (`outside_or`).
use mathlib.Core.Path.{sym, ap, ◌∙◌}
use Rattle.refusal.specs.Refusals.{listed}
use Rattle.rows.specs.Calls.{outside}
use Rattle.noise_sets.specs.Pairs.{sides, sides_of}
use Rattle.outside_sites.proofs.OutsideLaws.{outside_or, looked_found, looked_more, looked_done}
use Rattle.outside_sites.proofs.of_noise.Goals as goal

pub returns-then-is_some : goal.returns-then-is_some
unfolding sides_of
returns-then-is_some c =
    let n = c.args.spins in
    let site = ap listed c.or-site.ensures ∙ outside_or n _ _ c.of_product.result c.of_product-in-loop-t.result c.of_product.ensures c.of_product-in-loop-t.ensures in
    looked_found sides n c.held-t-items.result.now c.loop-t.t-index c.loop-t.invariant _ c.or-site.result c.loop-t-test.true site (sym c.is_some.ensures ∙ c.if-is_some.true)
    ∙ ap (λ l. outside n (sides_of l)) c.held-t-items.ensures

pub loop-t-preserved : goal.loop-t-preserved
loop-t-preserved c =
    let n = c.args.spins in
    let site = ap listed c.or-site.ensures ∙ outside_or n _ _ c.of_product.result c.of_product-in-loop-t.result c.of_product.ensures c.of_product-in-loop-t.ensures in
    looked_more sides n c.held-t-items.result.now c.loop-t.t-index c.loop-t.invariant _ c.or-site.result c.loop-t-test.true site (sym c.is_some.ensures ∙ c.if-is_some.false)

pub returns : goal.returns
unfolding sides_of
returns c =
    looked_done sides c.args.spins c.held-t-items.result.now c.loop-t.t-index c.loop-t.invariant c.loop-t-test.false
    ∙ ap (λ l. outside c.args.spins (sides_of l)) c.held-t-items.ensures
