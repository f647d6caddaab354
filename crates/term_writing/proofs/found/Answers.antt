-- `found`: the coefficient of the first term with the key, as a list of one; none where the key is free.
use Rattle.std.proofs.Common.{◌∙◌, ap, get_or, [], ◌∷◌}
use Rattle.refusal.specs.Refusals.{listed}
use Rattle.term_sets.specs.Sets.{held_by}
use Rattle.term_writing.proofs.WritingLaws.{found-there, found-nowhere}
use Rattle.term_writing.proofs.found.Goals as goal

pub returns-in_err-at : goal.returns-in_err-at
returns-in_err-at g c =
    λ key p. ap listed c.from_residual.ensures
    ∙ found-nowhere g.K.Key.keys g.N.Coefficient.numbers key (held_by c.args.s.now) (rw c.in_err-at.was at p)

pub returns : goal.returns
returns g c =
    λ key p. ap (λ l. (get_or l c.in_ok-at.field-0 c.index-branch.result).coefficient ∷ []) c.held.ensures
    ∙ found-there g.K.Key.keys g.N.Coefficient.numbers key (held_by c.args.s.now) c.in_ok-at.field-0 (rw c.in_ok-at.was at p) c.index-branch.result
