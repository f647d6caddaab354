-- Each refusal by the tests on the way; then the row of the contributions.
use Rattle.std.proofs.Common.{◌∙◌, sym, ap, false}
use Rattle.refusal.specs.Refusals.{listed}
use Rattle.row_entries.proofs.EntryLaws.{square_few}
use Rattle.rows.specs.Floats.{floats}
use Rattle.rows.specs.Placing.{row_in}
use Rattle.rows.proofs.AnsweredLaws.{says_spins, says_range, says_outside, says_row}
use Rattle.outside_sites.proofs.AcceptedLaws.{accepted}
use Rattle.operator_rows.specs.OperatorRows.{commutator_row_of}
use Rattle.operator_rows.proofs.commutator_row_of.Goals as goal

pub returns-then-spins-gt-MOST_SPINS : goal.returns-then-spins-gt-MOST_SPINS
unfolding commutator_row_of
returns-then-spins-gt-MOST_SPINS c = says_spins _ _ _ _ _ c.if-spins-gt-MOST_SPINS.true

pub returns-then-superoperator_size-row : goal.returns-then-superoperator_size-row
unfolding commutator_row_of
returns-then-superoperator_size-row c =
    let few = c.if-spins-gt-MOST_SPINS.false in
    says_range _ _ _ _ _ few (square_few _ few c.superoperator_size.ensures) c.if-superoperator_size-row.true

pub returns-in-Some : goal.returns-in-Some
unfolding commutator_row_of
returns-in-Some c =
    let few = c.if-spins-gt-MOST_SPINS.false in
    says_outside _ _ _ _ _ few (square_few _ few c.superoperator_size.ensures) c.if-superoperator_size-row.false (ap listed (sym c.in-Some.is) ∙ c.of_operator.ensures)

pub returns-in-None : goal.returns-in-None
unfolding commutator_row_of
returns-in-None c =
    let few = c.if-spins-gt-MOST_SPINS.false in
    let size = square_few _ few c.superoperator_size.ensures in
    let none = ap listed (sym c.in-None.is) ∙ c.of_operator.ensures in
    let given = c.commutator_given.ensures (accepted _ c.requires.valid few size c.if-superoperator_size-row.false none) in
    says_row _ _ _ _ _ few size c.if-superoperator_size-row.false none (c.row.ensures ∙ ap (row_in floats false) given)
