-- One mask more is joined (`all_next`); where the joined ones are below 2^spins, so is each (`terms_done`).
use Rattle.terms.proofs.KeyedLaws.{all_nil}
use Rattle.open_rows.proofs.MaskedLaws.{LeftBelow, below_old, below_new, all_next, terms_done}
use Rattle.open_rows.proofs.fitting.terms_fit.Goals as goal

pub loop-t-init : goal.loop-t-init
loop-t-init c = all_nil (LeftBelow 0)

pub loop-t-preserved : goal.loop-t-preserved
loop-t-preserved c =
    let all = c.loop-t.all in
    all_next (LeftBelow all) (LeftBelow _) _ _ _ c.loop-t-test.true (λ t b. record { left = below_old all _ t.masks.left b.left }) c.loop-t.invariant (record { left = below_new all _ })

pub returns : goal.returns
returns c e h v g = terms_done _ _ (c.is_below.ensures e) c.as_slice-t-items.ensures.value c.loop-t-test.false c.loop-t.invariant h v g
