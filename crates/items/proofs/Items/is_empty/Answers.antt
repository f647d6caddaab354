-- `Items::is_empty`: a count other than 0 tells, or the zeros do.
-- Assumes nothing.
use mathlib.Core.Path.{sym, ◌∙◌}
use native.Mathlib.Omega.{arith}
use borrow.Author.Rules.{rules}
use borrow.Author.Tests.{ne_eqb}
use Rattle.letters.proofs.TestLaws.{every_intro}
use Rattle.items.specs.Lists.{support}
use Rattle.items.specs.Record.{record_of}
use Rattle.items.specs.Record.{empty_product}
use Rattle.items.proofs.RecordLaws.{places_decide}
use Rattle.items.proofs.SameLaws.{counts_differ}
use Rattle.items.proofs.Canonical.{empty-told}
use Rattle.items.proofs.Items.is_empty.Goals as goal

pub has_zeros_past-requires : goal.has_zeros_past-requires
has_zeros_past-requires c = (omega arith, every_intro _ _ (λ i l. absurd (omega arith)))

pub returns-then-self-eq0 : goal.returns-then-self-eq0
returns-then-self-eq0 c =
    let told = c.has_zeros_past.ensures ∙ sym (places_decide c.args.self.now (search rules) (search rules) (omega arith)) in
    told ∙ empty-told _ c.if-self-eq0.true

pub returns-else-self-eq0 : goal.returns-else-self-eq0
unfolding empty_product record_of support
returns-else-self-eq0 c = ne_eqb _ 0 c.if-self-eq0.false ∙ counts_differ _ _ c.if-self-eq0.false
