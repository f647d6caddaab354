-- `sum_at`: what was found, or zero, and the sum with it.
use Rattle.std.proofs.Common.{◌∙◌, ap, unwrap_or}
use Rattle.term_sets.specs.Sets.{held_by}
use Rattle.term_writing.proofs.WritingLaws.{found_sum}
use Rattle.term_writing.proofs.sum_at.Goals as goal

pub returns : goal.returns
returns g c =
    λ key p.
    let n = g.N.Coefficient.numbers in
    c.sum.ensures
    ∙ ap (λ a. n.sum a c.args.value) (c.unwrap_or.ensures ∙ ap (unwrap_or c.found.result) c.zero.ensures)
    ∙ found_sum g.K.Key.keys n key (held_by c.args.s.now) c.found.result c.args.value (c.found.ensures key p)
