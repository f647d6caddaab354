-- The first term with a site at `spins` or above ends the walk (`looked_found`).
use mathlib.Core.Path.{sym, ap, ◌∙◌}
use Rattle.rows.specs.Calls.{outside}
use Rattle.term_sets.specs.Complexes.{items_of}
use Rattle.outside_sites.proofs.OutsideLaws.{looked_found, looked_more, looked_done, product, products_are}
use Rattle.outside_sites.proofs.of_operator.Goals as goal

pub returns-then-is_some : goal.returns-then-is_some
returns-then-is_some c =
    let l = c.held-t-items.result.now in
    looked_found product c.args.spins l c.loop-t.t-index c.loop-t.invariant _ _ c.loop-t-test.true c.of_product-site.ensures (sym c.is_some.ensures ∙ c.if-is_some.true)
    ∙ ap (outside c.args.spins) (products_are l ∙ ap items_of c.held-t-items.ensures)

pub loop-t-preserved : goal.loop-t-preserved
loop-t-preserved c =
    looked_more product c.args.spins c.held-t-items.result.now c.loop-t.t-index c.loop-t.invariant _ _ c.loop-t-test.true c.of_product-site.ensures (sym c.is_some.ensures ∙ c.if-is_some.false)

pub returns : goal.returns
returns c =
    let l = c.held-t-items.result.now in
    looked_done product c.args.spins l c.loop-t.t-index c.loop-t.invariant c.loop-t-test.false ∙ ap (outside c.args.spins) (products_are l ∙ ap items_of c.held-t-items.ensures)
