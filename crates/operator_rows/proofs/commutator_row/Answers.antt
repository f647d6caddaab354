-- A valid operator's terms are valid: its row is theirs.
use Rattle.std.proofs.Common.{◌∙◌, sym, true}
use Rattle.rows.proofs.AnsweredLaws.{call_refused, call_passed_on, call_given, says_malformed, says_valid}
use Rattle.outside_sites.proofs.AcceptedLaws.{operator_valid}
use Rattle.contributions.proofs.HeldLaws.{operator-few}
use Rattle.operator_rows.specs.OperatorRows.{commutator_row}
use Rattle.operator_rows.proofs.commutator_row.Goals as goal

pub returns-then-not-is_valid : goal.returns-then-not-is_valid
unfolding commutator_row
returns-then-not-is_valid c = call_refused (says_malformed _ _ (sym c.is_valid.ensures ∙ c.if-not-is_valid.true))

pub commutator_row_of-requires : goal.commutator_row_of-requires
commutator_row_of-requires c =
    let valid = sym c.is_valid.ensures ∙ c.if-not-is_valid.false in
    record { few = operator-few true _ valid; valid = operator_valid true _ valid }

pub returns-in_err-commutator_row_of : goal.returns-in_err-commutator_row_of
unfolding commutator_row
returns-in_err-commutator_row_of c =
    call_passed_on _ _ (says_valid _ _ (sym c.is_valid.ensures ∙ c.if-not-is_valid.false) c.in_err-commutator_row_of.ensures) c.from_residual.ensures.1

pub returns : goal.returns
unfolding commutator_row
returns c = call_given (says_valid _ _ (sym c.is_valid.ensures ∙ c.if-not-is_valid.false) c.in_ok-commutator_row_of.ensures) c.deliver.ensures
