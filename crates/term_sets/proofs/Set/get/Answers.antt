-- The refusals in their order.
use mathlib.Core.Path.{ap}
use Rattle.refusal.specs.Refusals.{gives}
use Rattle.term_sets.specs.Sets.{get_in}
use Rattle.term_sets.proofs.ReadingLaws.{passed_on}
use Rattle.term_sets.proofs.Set.get.Goals as goal

pub returns-then-not-is_valid : goal.returns-then-not-is_valid
unfolding get_in
returns-then-not-is_valid g c = rw (← c.is_valid.ensures, c.if-not-is_valid.true)

pub returns-in_err-check : goal.returns-in_err-check
unfolding get_in
returns-in_err-check g c =
    rw (← c.is_valid.ensures, c.if-not-is_valid.false, ← c.in_err-check.ensures)
    (passed_on (λ a. a) c.from_residual.result c.in_err-check.field-0.0 c.from_residual.ensures.1)

pub returns : goal.returns
unfolding get_in
returns g c = rw (← c.is_valid.ensures, c.if-not-is_valid.false, ← c.in_ok-check.ensures) (ap gives c.coefficient_at.ensures)
