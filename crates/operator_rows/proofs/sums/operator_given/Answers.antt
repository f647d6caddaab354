-- Each term's contribution is added; they are those of the terms, of which there are 64 at most.
use Rattle.std.proofs.Common.{◌∙◌, ◌≤◌, refl, ap, arith, length, [], ◌∷◌}
use Rattle.letters.specs.Matrices.{pauli, letters_of}
use Rattle.letters.specs.declared.Kind.TheVariants.{Pauli}
use Rattle.row_entries.proofs.EntryLaws.{of_kind}
use Rattle.rows.specs.Floats.{floats}
use Rattle.terms.specs.Keyed.{concat_map}
use Rattle.terms.specs.Setting.{most_terms}
use Rattle.contributions.specs.TermContributions.{operator_contributions}
use Rattle.contributions.proofs.TurnLaws.{turns_none, turns_more, turns_row}
use Rattle.contributions.proofs.ValueLaws.{operator_found, operators_lem}
use Rattle.operator_rows.proofs.sums.operator_given.Goals as goal

pub loop-t-init : goal.loop-t-init
loop-t-init c = turns_none _ c.new-all.ensures

pub loop-t-preserved : goal.loop-t-preserved
unfolding letters_of
loop-t-preserved c =
    turns_more _ c.loop-t.invariant _ c.loop-t-test.true c.add.ensures.list
    (ap (λ e. e ∷ []) (rw c.masks.ensures at c.of_operator.ensures))

pub returns : goal.returns
unfolding letters_of operator_contributions
returns c =
    λ ok.
    let few : length c.held-t-items.result.now ≤ most_terms = rw c.held-t-items.ensures c.requires.few in
    turns_row _ 1 (λ t. refl) c.loop-t.invariant c.loop-t-test.false (omega arith)
    ∙ ap (concat_map (operator_found floats (λ a. a) c.args.spins c.args.row pauli)) c.held-t-items.ensures
    ∙ operators_lem floats (λ a. a) c.args.spins c.args.row (of_kind Pauli) _ ok
