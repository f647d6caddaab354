-- What the place that the search answered says of the key (`stands_held`, `stands_nowhere`).
use mathlib.Core.Path.{sym, ap}
use mathlib.Core.List.{map}
use Rattle.term_sets.specs.Sets.{held_by}
use Rattle.term_sets.proofs.FoundLaws.{stands_held, stands_nowhere}
use Rattle.term_sets.proofs.Set.coefficient_of.Goals as goal

pub returns-in_err-at : goal.returns-in_err-at
returns-in_err-at g c =
    let free = stands_nowhere g.K.Key.keys g.N.Coefficient.numbers c.args.key.now (held_by c.args.self.now) c.in_err-at.ensures in
    rw (c.from_residual.ensures, free)

pub returns : goal.returns
returns g c =
    let h = stands_held g.K.Key.keys g.N.Coefficient.numbers c.args.key.now (held_by c.args.self.now) c.in_ok-at.at c.index-held-at.result c.in_ok-at.ensures in
    rw c.held.ensures (sym (ap (map (λ t. t.coefficient)) h))
