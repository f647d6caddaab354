-- Both parts pass, or one does not (`found_whole`).
use mathlib.Core.Path.{sym, ◌∙◌}
use Rattle.complex.specs.Wholes.{both_whole}
use Rattle.whole_sets.proofs.PartLaws.{found_whole}
use Rattle.whole_sets.proofs.is_whole.Goals as goal

pub returns-then-is_some : goal.returns-then-is_some
unfolding both_whole
returns-then-is_some c =
    rw (sym (found_whole c.whole_part.result c.args.c.re c.whole_part.ensures) ∙ sym c.is_some.ensures ∙ c.if-is_some.true)
    (c.is_some-then-is_some.ensures ∙ found_whole c.whole_part-then-is_some.result c.args.c.im c.whole_part-then-is_some.ensures)

pub returns-else-is_some : goal.returns-else-is_some
unfolding both_whole
returns-else-is_some c = rw (sym (found_whole c.whole_part.result c.args.c.re c.whole_part.ensures) ∙ sym c.is_some.ensures ∙ c.if-is_some.false) c.if-is_some.false
