-- `add_full`: what is refused at first; then a row for each left term, in it the steps of each right one: none, or one that finds no room or is taken.
use Rattle.std.proofs.Common.{◌∙◌, ap, sym}
use Rattle.std.proofs.lemmas.Result.{err_from_is_err_and}
use Rattle.std.specs.Prelude.{Ok, Err}
use Rattle.complex.specs.Complex.{in_range}
use Rattle.complex.specs.Coefficients.{complexes}
use Rattle.terms.specs.Keyed.{concat_map}
use Rattle.terms.specs.Setting.{add_all}
use Rattle.terms.proofs.AnswerLaws.{ended_refused}
use Rattle.term_sets.specs.Complexes as operators
use Rattle.term_sets.specs.Keys.{pair_keys}
use Rattle.term_writing.proofs.ChainLaws.{remaining_all, remaining_passed, remaining_more, remaining_full, remaining_none, remaining_after, row_begins, end_told}
use Rattle.noise_sets.specs.Pairs.{pair_terms, held_by, filled}
use Rattle.noise_sets.specs.Answers.{ended}
use Rattle.full_operators.proofs.PairLaws.{wanted, pair_passed, pair_given, pair_row, pair_rows, accepted}
use Rattle.full_operators.proofs.add_full.Goals as goal

pub loop-x-init : goal.loop-x-init
loop-x-init c =
    let s = c.args.s.now in
    let l = c.args.left.now.terms in
    let r = c.args.right.now.terms in
    remaining_all pair_keys complexes (wanted s l r c.args.value) (pair_row c.args.value (operators.held_by r)) _ (held_by s) _
    (rw c.held-x-items.ensures (ap (λ xs. add_all pair_terms xs (held_by s)) (pair_rows c.args.value (operators.held_by l) (operators.held_by r))))
    c.to-sum.ensures

pub loop-y-init : goal.loop-y-init
loop-y-init c = row_begins pair_keys complexes c.loop-x.invariant _ c.loop-x-test.true _ _ (ap (concat_map _) (sym c.held-y-items.ensures))

pub loop-y-preserved-then-has_empty_side : goal.loop-y-preserved-then-has_empty_side
loop-y-preserved-then-has_empty_side c = remaining_passed pair_keys complexes c.loop-y.invariant _ c.loop-y-test.true (pair_passed _ _ _ c.if-has_empty_side.ensures)

pub loop-y-preserved : goal.loop-y-preserved
loop-y-preserved c =
    remaining_more pair_keys complexes c.loop-y.invariant _ c.loop-y-test.true _ _
    (pair_given _ _ _ c.if-has_empty_side.ensures _ _ _ c.conjugate.ensures c.product-rate.ensures c.product.ensures) c.in_ok-add.ensures

pub returns-in_err-add : goal.returns-in_err-add
returns-in_err-add c =
    let p = err_from_is_err_and c.from_residual.result c.from_residual.ensures.1 in
    rw (p.1, p.2)
    (ended_refused pair_terms in_range filled c.args.s.now
    (remaining_full pair_keys complexes c.loop-y.invariant _ c.loop-y-test.true _ _
    (pair_given _ _ _ c.if-has_empty_side.ensures _ _ _ c.conjugate.ensures c.product-rate.ensures c.product.ensures) c.in_err-add.ensures)
    ∙ accepted _ _ _ _ c.if-not-is_valid.ensures c.if-not-is_valid-2.ensures c.if-not-is_valid-3.ensures c.if-left-eq0.false c.if-right-eq0.false c.if-not-in_range.ensures)

pub loop-x-preserved : goal.loop-x-preserved
loop-x-preserved c = remaining_after pair_keys complexes _ c.loop-y.invariant c.loop-y-test.false

pub returns-in_err-s : goal.returns-in_err-s
returns-in_err-s c =
    let p = err_from_is_err_and c.from_residual-in_err-s.result c.from_residual-in_err-s.ensures.1 in
    rw (p.1, p.2)
    (end_told pair_keys complexes c.args.s.now _ (Err c.in_err-s.field-0.0) c.in_err-s.ensures
    ∙ ap (ended c.args.s.now) (sym (remaining_none pair_keys complexes c.loop-x.invariant c.loop-x-test.false))
    ∙ accepted _ _ _ _ c.if-not-is_valid.ensures c.if-not-is_valid-2.ensures c.if-not-is_valid-3.ensures c.if-left-eq0.false c.if-right-eq0.false c.if-not-in_range.ensures)

pub returns : goal.returns
returns c =
    end_told pair_keys complexes c.args.s.now _ (Ok c.in_ok-s.field-0) c.in_ok-s.ensures
    ∙ ap (ended c.args.s.now) (sym (remaining_none pair_keys complexes c.loop-x.invariant c.loop-x-test.false))
    ∙ accepted _ _ _ _ c.if-not-is_valid.ensures c.if-not-is_valid-2.ensures c.if-not-is_valid-3.ensures c.if-left-eq0.false c.if-right-eq0.false c.if-not-in_range.ensures
