-- Masks are answered of a valid set alone.
use Rattle.term_sets.specs.Sets.{masked_set}
use Rattle.term_sets.proofs.Set.masked.Goals as goal

pub returns-in_err-seen : goal.returns-in_err-seen
unfolding masked_set
returns-in_err-seen g c = rw (c.from_residual.ensures, c.in_err-seen.ensures)

pub returns : goal.returns
unfolding masked_set
returns g c = rw (c.gathered.ensures, c.held.ensures, c.in_ok-seen.ensures.0)
