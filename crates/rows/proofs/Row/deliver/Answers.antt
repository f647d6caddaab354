-- A buffer too short (`short_columns`, ..), else each turn lays one entry (`next_laid`), and all are laid at the end (`all_laid`).
use Rattle.std.proofs.Common.{subst, ap, [], length}
use Rattle.refusal.specs.Refusals.{gives, refuses}
use Rattle.rows.specs.Calls.{RowCallIn}
use Rattle.rows.specs.Pairs.{pairs}
use Rattle.rows.proofs.DeliveryLaws.{short_columns, short_reals, short_imaginaries, none_laid, next_laid, all_laid}
use Rattle.rows.proofs.Row.deliver.Goals.{then-out_columns-n-via-then-out_columns-n, then-out_columns-n-via-else-out_columns-n+then-out_re-n, then-out_columns-n-via-else-out_columns-n+else-out_re-n+then-out_im-n}
use Rattle.rows.proofs.Row.deliver.Goals as goal

pub returns-then-out_columns-n : goal.returns-then-out_columns-n
returns-then-out_columns-n g c =
    let a = c.args in
    let P = g.V.Parts.parts in
    let xs = c.as_slice-entries.result.now in
    subst
    (λ l. RowCallIn P (gives l) (refuses 10 []) a.out_columns.now a.out_columns.now a.out_re.now a.out_re.now a.out_im.now a.out_im.now)
    (ap pairs c.as_slice-entries.ensures.value)
    (elim c.then-out_columns-n.branch [
      | then-out_columns-n-via-then-out_columns-n w ↦ short_columns P xs _ _ _ w.if-out_columns-n.true
      | then-out_columns-n-via-else-out_columns-n+then-out_re-n w ↦ short_reals P xs _ _ _ w.if-out_re-n.true
      | then-out_columns-n-via-else-out_columns-n+else-out_re-n+then-out_im-n w ↦ short_imaginaries P xs _ _ _ w.if-out_im-n.true
    ])

pub loop-i-init : goal.loop-i-init
loop-i-init g c = none_laid

pub loop-i-preserved : goal.loop-i-preserved
loop-i-preserved g c =
    next_laid c.index-entries-i.result c.loop-i.invariant c.loop-i-test.true c.if-out_columns-n.false c.if-out_re-n.false c.if-out_im-n.false c.index-entries-i.is c.re.ensures
    c.im.ensures

pub returns : goal.returns
returns g c =
    let a = c.args in
    let xs = c.as_slice-entries.result.now in
    let all = all_laid g.V.Parts.parts xs _ _ _ c.loop-i.invariant c.loop-i-test.false c.if-out_columns-n.false c.if-out_re-n.false c.if-out_im-n.false in
    subst
    (λ l. RowCallIn g.V.Parts.parts (gives l) (gives (length xs)) a.out_columns.now c.loop-i.out_columns a.out_re.now c.loop-i.out_re a.out_im.now c.loop-i.out_im)
    (ap pairs c.as_slice-entries.ensures.value)
    all
