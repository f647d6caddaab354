-- The terms of a valid Hamiltonian as complex ones are valid: its row is theirs.
use Rattle.std.proofs.Common.{◌≤◌, ◌∙◌, sym, ap, subst, length}
use Rattle.rows.proofs.AnsweredLaws.{call_refused, call_passed_on, call_given, says_malformed, says_valid}
use Rattle.terms.specs.Setting.{most_terms}
use Rattle.term_sets.specs.Complexes.{items_of}
use Rattle.term_sets.proofs.SetLaws.{held-from}
use Rattle.outside_sites.proofs.AcceptedLaws.{AllValid, hamiltonian-valid}
use Rattle.contributions.proofs.HeldLaws.{hamiltonian-few}
use Rattle.operator_rows.specs.OperatorRows.{commutator_row_of, hamiltonian_commutator_row}
use Rattle.operator_rows.proofs.hamiltonian_commutator_row.Goals as goal

pub returns-then-not-is_valid : goal.returns-then-not-is_valid
unfolding hamiltonian_commutator_row
returns-then-not-is_valid c = call_refused (says_malformed _ _ (sym c.is_valid.ensures ∙ c.if-not-is_valid.true))

pub commutator_row_of-requires : goal.commutator_row_of-requires
commutator_row_of-requires c =
    let valid = sym c.is_valid.ensures ∙ c.if-not-is_valid.false in
    let held = sym (held-from _ _ c.complex_terms.ensures) in
    record {
      few = subst (λ l. length l ≤ most_terms) held (hamiltonian-few _ valid);
      valid = subst (λ l. AllValid (items_of l)) held (hamiltonian-valid _ valid);
    }

pub returns-in_err-commutator_row_of : goal.returns-in_err-commutator_row_of
unfolding hamiltonian_commutator_row
returns-in_err-commutator_row_of c =
    let held = ap (commutator_row_of c.args.spins c.args.row) (held-from _ _ c.complex_terms.ensures) in
    call_passed_on _ _ (says_valid _ _ (sym c.is_valid.ensures ∙ c.if-not-is_valid.false) (c.in_err-commutator_row_of.ensures ∙ held)) c.from_residual.ensures.1

pub returns : goal.returns
unfolding hamiltonian_commutator_row
returns c =
    let held = ap (commutator_row_of c.args.spins c.args.row) (held-from _ _ c.complex_terms.ensures) in
    call_given (says_valid _ _ (sym c.is_valid.ensures ∙ c.if-not-is_valid.false) (c.in_ok-commutator_row_of.ensures ∙ held)) c.deliver.ensures
