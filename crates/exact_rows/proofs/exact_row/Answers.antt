-- Number 0 for each part; then what `row_of` says of the terms, refused or delivered.
use Rattle.std.proofs.Common.{◌≤◌, length, ◌∙◌, sym, ap, subst}
use Rattle.terms.specs.Setting.{most_terms}
use Rattle.term_sets.specs.Complexes.{items_of}
use Rattle.term_sets.proofs.SetLaws.{held-from}
use Rattle.noise_sets.specs.Pairs.{held_by}
use Rattle.rows.proofs.AnsweredLaws.{call_refused, call_passed_on, call_given}
use Rattle.open_system.proofs.JudgedLaws.{says_hamiltonian, says_noise, says_system}
use Rattle.outside_sites.proofs.AcceptedLaws.{AllValid, all_both, hamiltonian-valid, noise-valid}
use Rattle.contributions.proofs.HeldLaws.{hamiltonian-few, noise-few}
use Rattle.exact_sums.proofs.DeliveredLaws.{delivered_exact}
use Rattle.exact_rows.specs.ExactRows.{exact_row_of_terms, exact_row}
use Rattle.exact_rows.proofs.exact_row.Goals as goal
use Rattle.exact_rows.proofs.exact_row.Goals.{then-not-is_valid-via-then-not-is_valid, then-not-is_valid-via-else-not-is_valid+then-not-is_valid-2}

pub returns-then-not-is_valid : goal.returns-then-not-is_valid
unfolding exact_row
returns-then-not-is_valid c =
    elim c.then-not-is_valid.branch [
      | then-not-is_valid-via-then-not-is_valid w ↦ call_refused (says_hamiltonian c.args.s.now _ (sym w.if-not-is_valid.ensures))
      | then-not-is_valid-via-else-not-is_valid+then-not-is_valid-2 w ↦ call_refused (says_noise c.args.s.now _ (sym w.if-not-is_valid.ensures) (sym w.if-not-is_valid-2.ensures))
    ]

pub row_of-requires : goal.row_of-requires
row_of-requires c =
    let held = sym (held-from _ _ c.complex_terms-terms.ensures) in
    let system = sym c.if-not-is_valid.ensures in
    let noise = sym c.if-not-is_valid-2.ensures in
    record {
      few = (subst (λ l. length l ≤ most_terms) held (hamiltonian-few _ system), noise-few _ noise);
      valid = all_both _ _ (subst (λ l. AllValid (items_of l)) held (hamiltonian-valid _ system)) (noise-valid _ noise);
    }

pub returns-in_err-row_of : goal.returns-in_err-row_of
unfolding exact_row
returns-in_err-row_of c =
    let s = c.args.s.now in
    let held = ap (λ l. exact_row_of_terms c.args.spins c.args.row l (held_by s.noise.set)) (held-from _ _ c.complex_terms-terms.ensures) in
    call_passed_on _ _ (says_system s _ (sym c.if-not-is_valid.ensures) (sym c.if-not-is_valid-2.ensures) (c.in_err-row_of.ensures ∙ held)) c.from_residual.ensures.1

pub returns : goal.returns
unfolding exact_row
returns c =
    let s = c.args.s.now in
    let held = ap (λ l. exact_row_of_terms c.args.spins c.args.row l (held_by s.noise.set)) (held-from _ _ c.complex_terms-terms.ensures) in
    call_given (says_system s _ (sym c.if-not-is_valid.ensures) (sym c.if-not-is_valid-2.ensures) (c.in_ok-row_of.ensures ∙ held)) (delivered_exact _ c.deliver.ensures)
