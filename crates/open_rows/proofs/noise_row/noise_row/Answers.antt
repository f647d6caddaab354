-- Each refusal by the tests on the way; what judging hands out has the set's terms, and where it fits the spins, or no site is found, its contributions make the row.
use mathlib.Core.Path.{◌≡◌, sym, ap, ◌∙◌}
use mathlib.Core.Bool.{true}
use mathlib.Core.List.{[]}
use Rattle.refusal.specs.Refusals.{listed}
use Rattle.row_entries.proofs.EntryLaws.{square_few}
use Rattle.rows.specs.Calls.{outside}
use Rattle.rows.specs.Floats.{floats}
use Rattle.rows.specs.Placing.{row_in}
use Rattle.rows.proofs.AnsweredLaws.{call_refused, call_given, says_malformed, says_valid, says_spins, says_range, says_outside, says_row}
use Rattle.term_sets.proofs.HandedLaws.{nothing_handed, handed_valid, handed_terms}
use Rattle.noise_sets.specs.Pairs.{held_by, sides_of}
use Rattle.outside_sites.proofs.AcceptedLaws.{accepted, noise-valid}
use Rattle.open_rows.specs.NoiseRows.{noise_row}
use Rattle.open_rows.proofs.noise_row.noise_row.Goals as goal
use Rattle.open_rows.proofs.noise_row.noise_row.Goals.{then-not-pairs_fit+in_default-of_noise, else-not-pairs_fit}

pub returns-in_default : goal.returns-in_default
unfolding noise_row
returns-in_default c = call_refused (says_malformed _ _ (nothing_handed _ _ _ _ (sym c.in_default.is ∙ c.masked.ensures)))

pub returns-then-spins-gt-MOST_SPINS : goal.returns-then-spins-gt-MOST_SPINS
unfolding noise_row
returns-then-spins-gt-MOST_SPINS c =
    call_refused (says_valid _ _ (handed_valid _ _ _ _ (sym c.in-Some.is ∙ c.masked.ensures)) (says_spins _ _ _ _ _ c.if-spins-gt-MOST_SPINS.true))

pub returns-then-superoperator_size-row : goal.returns-then-superoperator_size-row
unfolding noise_row
returns-then-superoperator_size-row c =
    let few = c.if-spins-gt-MOST_SPINS.false in
    call_refused
    (says_valid _ _ (handed_valid _ _ _ _ (sym c.in-Some.is ∙ c.masked.ensures))
    (says_range _ _ _ _ _ few (square_few _ few c.superoperator_size.ensures) c.if-superoperator_size-row.true))

pub returns-in-Some-of_noise : goal.returns-in-Some-of_noise
unfolding noise_row
returns-in-Some-of_noise c =
    let few = c.if-spins-gt-MOST_SPINS.false in
    let site = ap listed (sym c.in-Some-of_noise.is) ∙ c.of_noise.ensures in
    call_refused
    (says_valid _ _ (handed_valid _ _ _ _ (sym c.in-Some.is ∙ c.masked.ensures))
    (says_outside _ _ _ _ _ few (square_few _ few c.superoperator_size.ensures) c.if-superoperator_size-row.false site))

pub returns : goal.returns
unfolding noise_row
returns c =
    let e = sym c.in-Some.is ∙ c.masked.ensures in
    let v = handed_valid _ _ _ _ e in
    let l = held_by c.args.s.now.set in
    let p = handed_terms _ _ _ _ e in
    let few = c.if-spins-gt-MOST_SPINS.false in
    let size = square_few _ few c.superoperator_size.ensures in
    let none : [] ≡ outside c.args.spins (sides_of l) =
    elim c.if-not-pairs_fit.branch [
      | then-not-pairs_fit+in_default-of_noise w ↦ ap listed (sym w.in_default-of_noise.is) ∙ w.of_noise.ensures
      | else-not-pairs_fit w ↦ sym (c.pairs_fit.ensures w.if-not-pairs_fit.false l (noise-valid _ v) p)
    ]
    in
    let k = accepted _ (noise-valid _ v) few size c.if-superoperator_size-row.false none in
    let row = c.row.ensures ∙ ap (row_in floats true) (c.pairs_given.ensures.given l p k) in
    call_given (says_valid _ _ v (says_row _ _ _ _ _ few size c.if-superoperator_size-row.false none row)) c.deliver.ensures
