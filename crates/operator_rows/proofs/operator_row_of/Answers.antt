-- Each refusal by the tests on the way; then the row of the contributions.
use Rattle.std.proofs.Common.{◌∙◌, sym, ap, true}
use Rattle.refusal.specs.Refusals.{listed}
use Rattle.row_entries.proofs.RowLaws.{size_few}
use Rattle.rows.specs.Floats.{floats}
use Rattle.rows.specs.Placing.{row_in}
use Rattle.rows.proofs.AnsweredLaws.{says_spins, says_range, says_outside, says_row}
use Rattle.outside_sites.proofs.AcceptedLaws.{accepted}
use Rattle.operator_rows.specs.OperatorRows.{operator_row_of}
use Rattle.operator_rows.proofs.operator_row_of.Goals as goal

pub returns-then-spins-gt-MOST_SPINS : goal.returns-then-spins-gt-MOST_SPINS
unfolding operator_row_of
returns-then-spins-gt-MOST_SPINS c = says_spins _ _ _ _ _ c.if-spins-gt-MOST_SPINS.true

pub returns-then-size_of-row : goal.returns-then-size_of-row
unfolding operator_row_of
returns-then-size_of-row c =
    let few = c.if-spins-gt-MOST_SPINS.false in
    says_range _ _ _ _ _ few (size_few _ few c.size_of.ensures) c.if-size_of-row.true

pub returns-in-Some : goal.returns-in-Some
unfolding operator_row_of
returns-in-Some c =
    let few = c.if-spins-gt-MOST_SPINS.false in
    says_outside _ _ _ _ _ few (size_few _ few c.size_of.ensures) c.if-size_of-row.false (ap listed (sym c.in-Some.is) ∙ c.of_operator.ensures)

pub returns-in-None : goal.returns-in-None
unfolding operator_row_of
returns-in-None c =
    let few = c.if-spins-gt-MOST_SPINS.false in
    let size = size_few _ few c.size_of.ensures in
    let none = ap listed (sym c.in-None.is) ∙ c.of_operator.ensures in
    let given = c.operator_given.ensures (accepted _ c.requires.valid few size c.if-size_of-row.false none) in
    says_row _ _ _ _ _ few size c.if-size_of-row.false none (c.row.ensures ∙ ap (row_in floats true) given)
