-- `Items::judged`: the places below i have passed, and the loop has their bits (`Judging`); it ends at the first place that fails, or at the count,
-- where the zeros past it decide.
-- Assumes nothing.
use mathlib.Core.Path.{sym, ◌∙◌}
use native.Mathlib.Omega.{arith}
use borrow.Author.Rules.{rules}
use Rattle.items.proofs.RecordLaws.{many_invalid, places_decide}
use Rattle.items.proofs.JudgedLaws.{judging_none, judging_failed, judging_more, judging_masks, refused_verdict, passed_verdict}
use Rattle.items.proofs.Items.judged.Goals as goal

pub returns-then-self-gt-CAPACITY : goal.returns-then-self-gt-CAPACITY
returns-then-self-gt-CAPACITY c = refused_verdict _ (many_invalid _ c.if-self-gt-CAPACITY.true)

pub loop-i-init : goal.loop-i-init
loop-i-init c = judging_none _ c.if-self-gt-CAPACITY.false

pub returns-then-not-fits_next : goal.returns-then-not-fits_next
returns-then-not-fits_next c =
    refused_verdict _ (judging_failed c.loop-i.invariant (omega arith) c.fits_next.ensures c.if-not-fits_next.true)

pub loop-i-preserved : goal.loop-i-preserved
loop-i-preserved c =
    judging_more c.loop-i.invariant (omega arith) c.fits_next.ensures c.if-not-fits_next.false c.bits_at-masks.ensures

pub returns-then-has_zeros_past : goal.returns-then-has_zeros_past
returns-then-has_zeros_past c =
    let told = c.has_zeros_past.ensures ∙ sym (places_decide c.args.self.now (search rules) (search rules) c.loop-i.invariant.few) in
    passed_verdict _ (sym c.if-has_zeros_past.true ∙ told) (judging_masks c.loop-i.invariant (omega arith))

pub returns : goal.returns
returns c =
    let told = c.has_zeros_past.ensures ∙ sym (places_decide c.args.self.now (search rules) (search rules) c.loop-i.invariant.few) in
    refused_verdict _ (sym c.if-has_zeros_past.false ∙ told)
