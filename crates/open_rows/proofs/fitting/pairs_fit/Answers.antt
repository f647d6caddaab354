-- Two masks more are joined (`all_next`); where the joined ones are below 2^spins, so is each (`pairs_done`).
use Rattle.terms.proofs.KeyedLaws.{all_nil}
use Rattle.open_rows.proofs.MaskedLaws.{BothBelow, below_old, below_new, all_next, pairs_done}
use Rattle.open_rows.proofs.fitting.pairs_fit.Goals as goal

pub loop-t-init : goal.loop-t-init
loop-t-init c = all_nil (BothBelow 0)

pub loop-t-preserved : goal.loop-t-preserved
loop-t-preserved c =
    let all = c.loop-t.all in
    all_next (BothBelow all) (BothBelow _) _ _ _ c.loop-t-test.true
    (λ t b. record { left = below_old _ _ t.masks.left (below_old all _ t.masks.left b.left); right = below_old _ _ t.masks.right (below_old all _ t.masks.right b.right) })
    c.loop-t.invariant
    (record { left = below_old _ _ _ (below_new all _); right = below_new _ _ })

pub returns : goal.returns
returns c e w v g = pairs_done _ _ (c.is_below.ensures e) c.as_slice-t-items.ensures.value c.loop-t-test.false c.loop-t.invariant w v g
