-- `scale`: each term is scaled and judged (`scaling_more`, `scaling_out`).
use Rattle.std.proofs.Common.{◌∙◌, sym, arith}
use Rattle.chains.proofs.ScaleLaws.{scaling_none, scaling_room, scaling_more, scaling_out, scaling_done, scaling_fine, scale_out, scale_in}
use Rattle.chains.proofs.chain.scale.Goals as goal

pub loop-x-init : goal.loop-x-init
loop-x-init c = scaling_none _ _ _ _ (sym c.is_valid.ensures ∙ c.if-not-is_valid.false) c.held-x-items.ensures c.new-out.ensures

pub returns-then-not-in_range-2 : goal.returns-then-not-in_range-2
returns-then-not-in_range-2 c =
    scale_out _ _ (sym c.is_valid.ensures ∙ c.if-not-is_valid.false) (sym c.in_range.ensures ∙ c.if-not-in_range.false) c.held-x-items.ensures
    (scaling_out c.loop-x.invariant c.loop-x-test.true _ _ c.product-coefficient.ensures (sym c.in_range-in-loop-x.ensures ∙ c.if-not-in_range-2.true))

pub offset_bounds-out-out : goal.offset_bounds-out-out
offset_bounds-out-out c = let room = scaling_room c.loop-x.invariant c.loop-x-test.true in omega arith

pub bounds-out-out : goal.bounds-out-out
bounds-out-out c = let room = scaling_room c.loop-x.invariant c.loop-x-test.true in omega arith

pub overflow_add-out : goal.overflow_add-out
overflow_add-out c = let room = scaling_room c.loop-x.invariant c.loop-x-test.true in omega arith

pub loop-x-preserved : goal.loop-x-preserved
loop-x-preserved c =
    scaling_more c.loop-x.invariant c.loop-x-test.true _ _ c.product-coefficient.ensures (sym c.in_range-in-loop-x.ensures ∙ c.if-not-in_range-2.false)

pub returns : goal.returns
returns c =
    let done = c.loop-x-test.false in
    scale_in _ _ (sym c.is_valid.ensures ∙ c.if-not-is_valid.false) (sym c.in_range.ensures ∙ c.if-not-in_range.false) c.held-x-items.ensures
    (scaling_done c.loop-x.invariant done) (scaling_fine c.loop-x.invariant done)
