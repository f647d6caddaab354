-- The key decides first, then the coefficient.
use mathlib.Core.Path.{sym, ◌∙◌}
use Rattle.term_sets.specs.Sets.{is_blank}
use Rattle.term_sets.proofs.judging.is_blank.Goals as goal

pub returns-then-is_blank : goal.returns-then-is_blank
unfolding is_blank
returns-then-is_blank g c =
    let same = sym c.is_blank.ensures ∙ c.if-is_blank.true in
    rw (c.is_plus_zero.ensures, same)

pub returns-else-is_blank : goal.returns-else-is_blank
unfolding is_blank
returns-else-is_blank g c = rw (← c.is_blank.ensures, c.if-is_blank.false)
