-- The walk ends at the first term that fails alone (`bad_key`, `bad_coefficient`), where masks repeat (`seen_before`), or with none left.
use native.Mathlib.Omega.{arith}
use Prim.Native.Nat.{◌+◌}
use mathlib.Core.Path.{sym, ap, ◌∙◌}
use lib.ListN.{length, length-append}
use borrow.Author.Tests.{not-true, not-false}
use Rattle.terms.proofs.FingerprintLaws.{fingerprinted_none}
use Rattle.term_sets.proofs.MaskedLaws.{bad_key, bad_coefficient, seen_before, judged_more}
use Rattle.term_sets.proofs.judging.judged_terms.Goals.{then-not-is_good_coefficient-via-then-not-is_good_coefficient, then-not-is_good_coefficient-via-else-not-is_good_coefficient+then-not-insert}
use Rattle.term_sets.proofs.judging.judged_terms.Goals as goal

pub loop-t-init : goal.loop-t-init
loop-t-init g c = record { counted = ap length c.new-seen.ensures; judged = fingerprinted_none c.new-seen.ensures }

pub returns-in_err-masks : goal.returns-in_err-masks
returns-in_err-masks g c =
    rw c.from_residual.ensures
    (bad_key g.K.Key.keys g.N.Coefficient.numbers g.met.K.Key.laws c.args.zeros c.t-item.result c.t-item.is c.loop-t.invariant.judged (omega arith) c.in_err-masks.ensures)

pub returns-then-not-is_good_coefficient : goal.returns-then-not-is_good_coefficient
returns-then-not-is_good_coefficient g c =
    let k = g.K.Key.keys in
    let n = g.N.Coefficient.numbers in
    let laws = g.met.K.Key.laws in
    let t = c.t-item.result in
    elim c.then-not-is_good_coefficient.branch [
      | then-not-is_good_coefficient-via-then-not-is_good_coefficient w ↦
          bad_coefficient k n laws c.args.zeros t c.t-item.is c.loop-t.invariant.judged (omega arith) (sym c.is_good_coefficient.ensures ∙ w.if-not-is_good_coefficient.true)
      | then-not-is_good_coefficient-via-else-not-is_good_coefficient+then-not-insert w ↦
          seen_before k n laws c.args.zeros t c.t-item.is c.loop-t.invariant.judged (omega arith) c.in_ok-masks.ensures
          (not-false _ (sym w.insert.ensures.answer ∙ w.if-not-insert.true))
    ]

pub loop-t-preserved : goal.loop-t-preserved
loop-t-preserved g c =
    record {
      counted = ap length c.insert.ensures.last ∙ length-append c.loop-t.seen.masks.items _ ∙ ap (λ n. n + 1) c.loop-t.invariant.counted;
      judged =
          judged_more g.K.Key.keys g.N.Coefficient.numbers g.met.K.Key.laws c.args.zeros c.t-item.result c.t-item.is c.loop-t.invariant.judged (omega arith) c.in_ok-masks.ensures
          (sym c.is_good_coefficient.ensures ∙ c.if-not-is_good_coefficient.false)
          (not-true _ (sym c.insert.ensures.answer ∙ c.if-not-insert.false))
          c.insert.ensures.last;
    }
