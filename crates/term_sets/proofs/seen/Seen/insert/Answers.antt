-- Masks whose mark is not set are new (`unmarked_new`); else those seen are looked at (`any_holds`).
use mathlib.Core.Bool.{not, false}
use mathlib.Core.Path.{sym, ap, ◌∙◌}
use lib.ListN.{get_or}
use Rattle.term_sets.specs.Seen.{holds}
use Rattle.term_sets.proofs.MaskLaws.{any_holds, unmarked_new}
use Rattle.term_sets.proofs.seen.Seen.insert.Goals.{then-not-self-at, else-not-self-at}
use Rattle.term_sets.proofs.seen.Seen.insert.Goals as goal

pub returns-clause-answer : goal.returns-clause-answer
returns-clause-answer c =
    let s = c.args.self.now in
    let x = c.args.x in
    elim c.if-not-self-at.branch [
      | then-not-self-at w ↦
          let e = sym (ap (λ k. get_or s.marks k false) c.mark-at.ensures) ∙ w.if-not-self-at.true in
          w.is_new-is ∙ ap not (w.if-not-self-at.true ∙ sym (unmarked_new x s.marked e))
      | else-not-self-at w ↦ w.is_new-is ∙ ap not (w.contains.ensures.value ∙ any_holds x w.deref.result.now ∙ ap (λ l. holds l x) w.deref.ensures.0)
    ]
