-- Each term's two contributions are added; they are those of the terms, of which there are 64 at most.
use Rattle.std.proofs.Common.{◌∙◌, ◌≤◌, ap, arith, length}
use Rattle.rows.specs.Floats.{floats}
use Rattle.terms.specs.Keyed.{concat_map}
use Rattle.terms.specs.Setting.{most_terms}
use Rattle.contributions.specs.TermContributions.{commutator_contributions}
use Rattle.contributions.proofs.TurnLaws.{turns_none, turns_more, turns_row}
use Rattle.contributions.proofs.ValueLaws.{commutator_found, commutator-count, commutators_lem}
use Rattle.operator_rows.proofs.sums.commutator_given.Goals as goal

pub loop-t-init : goal.loop-t-init
loop-t-init c = turns_none _ c.new-all.ensures

pub loop-t-preserved : goal.loop-t-preserved
loop-t-preserved c =
    turns_more _ c.loop-t.invariant _ c.loop-t-test.true c.add.ensures.list
    (rw c.masks.ensures at c.of_commutator.ensures)

pub returns : goal.returns
unfolding commutator_contributions
returns c =
    λ ok.
    let few : length c.held-t-items.result.now ≤ most_terms = rw c.held-t-items.ensures c.requires.few in
    turns_row _ 2 (λ t. commutator-count floats _ _ _ _) c.loop-t.invariant c.loop-t-test.false (omega arith)
    ∙ ap (concat_map (commutator_found floats (λ a. a) c.args.spins c.args.row)) c.held-t-items.ensures
    ∙ commutators_lem floats (λ a. a) c.args.spins c.args.row _ ok
