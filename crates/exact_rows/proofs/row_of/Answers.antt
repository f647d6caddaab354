-- Each refusal by the tests on the way; the row of whole terms that fit.
use mathlib.Core.Path.{refl, sym, ap, ◌∙◌}
use Rattle.row_entries.proofs.EntryLaws.{square_few}
use Rattle.outside_sites.proofs.AcceptedLaws.{accepted}
use Rattle.rows.proofs.AnsweredLaws.{says_spins, says_range, says_outside}
use Rattle.exact_rows.proofs.ExactWritingLaws.{before-whole, not_whole, whole_row, first_not_whole, second_not_whole, both_whole_terms}
use Rattle.exact_sums.specs.ExactSums.{exact_answer}
use Rattle.exact_rows.proofs.SumLaws.{sums_answered}
use Rattle.exact_rows.proofs.row_of.Goals as goal
use Rattle.exact_rows.proofs.row_of.Goals.{then-not-all_whole-via-then-not-all_whole, then-not-all_whole-via-else-not-all_whole+then-not-all_whole-2}

pub returns-then-spins-gt-MOST_SPINS : goal.returns-then-spins-gt-MOST_SPINS
returns-then-spins-gt-MOST_SPINS c = before-whole _ _ _ _ (says_spins _ _ _ _ _ c.if-spins-gt-MOST_SPINS.true)

pub returns-then-superoperator_size-row : goal.returns-then-superoperator_size-row
returns-then-superoperator_size-row c =
    let few = c.if-spins-gt-MOST_SPINS.false in
    before-whole _ _ _ _ (says_range _ _ _ _ _ few (square_few _ few c.superoperator_size.ensures) c.if-superoperator_size-row.true)

pub returns-in-Some : goal.returns-in-Some
returns-in-Some c =
    let few = c.if-spins-gt-MOST_SPINS.false in
    before-whole _ _ _ _
    (says_outside _ _ _ _ _ few (square_few _ few c.superoperator_size.ensures) c.if-superoperator_size-row.false c.in-Some.ensures)

pub returns-then-not-all_whole : goal.returns-then-not-all_whole
returns-then-not-all_whole c =
    let few = c.if-spins-gt-MOST_SPINS.false in
    let k = accepted _ c.requires.valid few (square_few _ few c.superoperator_size.ensures) c.if-superoperator_size-row.false c.in_default.ensures in
    elim c.then-not-all_whole.branch [
      | then-not-all_whole-via-then-not-all_whole w ↦ not_whole _ _ _ _ k (first_not_whole _ _ (sym w.if-not-all_whole.ensures))
      | then-not-all_whole-via-else-not-all_whole+then-not-all_whole-2 w ↦ not_whole _ _ _ _ k (second_not_whole _ _ (sym w.if-not-all_whole-2.ensures))
    ]

pub returns : goal.returns
returns c =
    let few = c.if-spins-gt-MOST_SPINS.false in
    let k = accepted _ c.requires.valid few (square_few _ few c.superoperator_size.ensures) c.if-superoperator_size-row.false c.in_default.ensures in
    c.row.ensures
    ∙ ap exact_answer (c.given.ensures k)
    ∙ sums_answered _ _ _ _ c.requires.few.0 c.requires.few.1
    ∙ whole_row _ _ _ _ k (both_whole_terms _ _ (sym c.if-not-all_whole.ensures) (sym c.if-not-all_whole-2.ensures)) refl

pub given-requires : goal.given-requires
given-requires c = c.requires.few
