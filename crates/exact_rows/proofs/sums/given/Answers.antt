-- Each term's contributions are added (`turns_more`); all of them are the exact ones (`given_exact`).
use Rattle.std.proofs.Common.{◌∙◌, refl}
use Rattle.exact_sums.specs.Wrapped.{wrapped}
use Rattle.contributions.specs.Values.{commutator_values, noise_values}
use Rattle.contributions.proofs.TurnLaws.{turns_none, turns_more}
use Rattle.exact_rows.proofs.SumLaws.{given_exact}
use Rattle.exact_rows.proofs.sums.given.Goals as goal

pub loop-t-init : goal.loop-t-init
loop-t-init c = turns_none _ c.new-all.ensures

pub loop-t-preserved : goal.loop-t-preserved
loop-t-preserved c =
    turns_more _ c.loop-t.invariant _ c.loop-t-test.true c.add.ensures.list
    (c.of_commutator.ensures
    ∙ (λ j. commutator_values wrapped (c.masks.ensures j) (record { re = c.whole.ensures.parts.0 j; im = c.whole.ensures.parts.1 j }) c.args.spins c.args.row))

pub loop-t-2-init : goal.loop-t-2-init
loop-t-2-init c = turns_none _ refl

pub loop-t-2-preserved : goal.loop-t-2-preserved
loop-t-2-preserved c =
    turns_more _ c.loop-t-2.invariant _ c.loop-t-2-test.true c.add-in-loop-t-2.ensures.list
    (c.of_noise.ensures
    ∙ (λ j.
    noise_values wrapped (c.masks-in-loop-t-2.ensures j) (c.masks-in-loop-t-2-2.ensures j)
    (record { re = c.whole-in-loop-t-2.ensures.parts.0 j; im = c.whole-in-loop-t-2.ensures.parts.1 j }) c.args.spins c.args.row))

pub returns : goal.returns
returns c =
    let h = c.held-t-items.ensures in
    let w = c.held-t-items-2.ensures in
    given_exact c.args.spins c.args.row _ _ c.requires.0 c.requires.1
    (rw h at c.loop-t.invariant)
    (rw h at c.loop-t-test.false)
    (rw w at c.loop-t-2.invariant)
    (rw w at c.loop-t-2-test.false)
