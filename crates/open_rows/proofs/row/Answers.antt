-- Number 0 for each part, then each refusal by the tests on the way; what judging hands out has the system's terms, and where it fits the spins, or
-- no site is found, its contributions make the row.
use mathlib.Core.Path.{◌≡◌, refl, sym, ap, ◌∙◌}
use mathlib.Core.Bool.{true≢false}
use mathlib.Core.List.{[]}
use Rattle.refusal.specs.Refusals.{listed}
use Rattle.row_entries.proofs.EntryLaws.{square_few}
use Rattle.rows.specs.Calls.{outside}
use Rattle.rows.proofs.AnsweredLaws.{call_refused, call_given, says_spins, says_range, says_outside, says_row}
use Rattle.term_sets.specs.Complexes.{items_of}
use Rattle.term_sets.proofs.SetLaws.{held-from}
use Rattle.term_sets.proofs.HandedLaws.{nothing_handed, handed_valid, handed_terms}
use Rattle.noise_sets.specs.Pairs.{held_by, sides_of}
use Rattle.hamiltonians.specs.Reals.{hamiltonian_terms}
use Rattle.open_system.proofs.JudgedLaws.{says_hamiltonian, says_noise, says_system}
use Rattle.outside_sites.specs.SystemItems.{system_items}
use Rattle.outside_sites.proofs.OutsideLaws.{outside_past}
use Rattle.outside_sites.proofs.AcceptedLaws.{accepted, all_both, hamiltonian-valid, noise-valid}
use Rattle.open_rows.specs.OpenRows.{system_row_of, system_row}
use Rattle.open_rows.proofs.HandedLaws.{hamiltonian_given}
use Rattle.open_rows.proofs.row.Goals as goal
use Rattle.open_rows.proofs.row.Goals.{then-not-terms_fit+in_default-outside_site, else-not-terms_fit+else-not-pairs_fit}

pub returns-in_default : goal.returns-in_default
unfolding system_row
returns-in_default c = call_refused (says_hamiltonian c.args.s.now _ (nothing_handed _ _ _ _ (sym c.in_default.is ∙ c.masked.ensures)))

pub returns-in_default-masked : goal.returns-in_default-masked
unfolding system_row
returns-in_default-masked c =
    call_refused
    (says_noise c.args.s.now _ (handed_valid _ _ _ _ (sym c.in-Some.is ∙ c.masked.ensures)) (nothing_handed _ _ _ _ (sym c.in_default-masked.is ∙ c.masked-2.ensures)))

pub returns-then-spins-gt-MOST_SPINS : goal.returns-then-spins-gt-MOST_SPINS
unfolding system_row system_row_of
returns-then-spins-gt-MOST_SPINS c =
    let v = handed_valid _ _ _ _ (sym c.in-Some.is ∙ c.masked.ensures) in
    let w = handed_valid _ _ _ _ (sym c.in-Some-masked.is ∙ c.masked-2.ensures) in
    call_refused (says_system c.args.s.now _ v w (says_spins _ _ _ _ _ c.if-spins-gt-MOST_SPINS.true))

pub returns-then-superoperator_size-row : goal.returns-then-superoperator_size-row
unfolding system_row system_row_of
returns-then-superoperator_size-row c =
    let v = handed_valid _ _ _ _ (sym c.in-Some.is ∙ c.masked.ensures) in
    let w = handed_valid _ _ _ _ (sym c.in-Some-masked.is ∙ c.masked-2.ensures) in
    let few = c.if-spins-gt-MOST_SPINS.false in
    call_refused (says_system c.args.s.now _ v w (says_range _ _ _ _ _ few (square_few _ few c.superoperator_size.ensures) c.if-superoperator_size-row.true))

pub returns-in-Some-outside_site : goal.returns-in-Some-outside_site
unfolding system_row system_row_of
returns-in-Some-outside_site c =
    let v = handed_valid _ _ _ _ (sym c.in-Some.is ∙ c.masked.ensures) in
    let w = handed_valid _ _ _ _ (sym c.in-Some-masked.is ∙ c.masked-2.ensures) in
    let few = c.if-spins-gt-MOST_SPINS.false in
    let site =
    ap listed (sym c.in-Some-outside_site.is)
    ∙ c.outside_site.ensures
    ∙ ap (λ u. outside c.args.spins (system_items u (held_by c.args.s.now.noise.set))) (held-from _ _ c.complex_terms.ensures)
    in
    call_refused (says_system c.args.s.now _ v w (says_outside _ _ _ _ _ few (square_few _ few c.superoperator_size.ensures) c.if-superoperator_size-row.false site))

pub returns-in_err-row_of : goal.returns-in_err-row_of
returns-in_err-row_of c = absurd (true≢false (sym c.in_err-row_of.ensures.room))

pub returns : goal.returns
unfolding system_row system_row_of
returns c =
    let d = sym c.in-Some.is ∙ c.masked.ensures in
    let e = sym c.in-Some-masked.is ∙ c.masked-2.ensures in
    let v = handed_valid _ _ _ _ d in
    let w = handed_valid _ _ _ _ e in
    let t = hamiltonian_terms c.args.s.now.system in
    let l = held_by c.args.s.now.noise.set in
    let p = hamiltonian_given _ d in
    let q = handed_terms _ _ _ _ e in
    let few = c.if-spins-gt-MOST_SPINS.false in
    let size = square_few _ few c.superoperator_size.ensures in
    let none : [] ≡ outside c.args.spins (system_items t l) =
    elim c.if-not-terms_fit.branch [
      | then-not-terms_fit+in_default-outside_site z ↦
          ap listed (sym z.in_default-outside_site.is) ∙ z.outside_site.ensures ∙ ap (λ u. outside c.args.spins (system_items u l)) (held-from _ _ z.complex_terms.ensures)
      | else-not-terms_fit+else-not-pairs_fit z ↦
          sym
          (outside_past c.args.spins (items_of t) (sides_of l) (c.terms_fit.ensures z.if-not-terms_fit.false t (hamiltonian-valid _ v) p)
          ∙ z.pairs_fit.ensures z.if-not-pairs_fit.false l (noise-valid _ w) q)
    ]
    in
    let k = accepted _ (all_both _ _ (hamiltonian-valid _ v) (noise-valid _ w)) few size c.if-superoperator_size-row.false none in
    let row = c.in_ok-row_of.ensures.given t l p q k in
    call_given (row ∙ says_system c.args.s.now _ v w (says_row _ _ _ _ _ few size c.if-superoperator_size-row.false none refl)) c.deliver.ensures
