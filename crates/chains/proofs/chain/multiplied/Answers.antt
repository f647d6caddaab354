-- `multiplied`: a row for each left term, in it a step for each right one, which its product refuses, which finds no room, or which is taken.
use Rattle.std.proofs.Common.{◌∙◌, ap, sym, []}
use Rattle.complex.specs.Coefficients.{complexes}
use Rattle.letters.specs.Matrices.{letters_of}
use Rattle.terms.specs.Keyed.{concat_map}
use Rattle.terms.specs.Setting.{add_all}
use Rattle.term_sets.specs.Complexes.{held_by, complex_terms}
use Rattle.term_sets.specs.Keys.{item_keys}
use Rattle.term_writing.proofs.ChainLaws.{remaining_all, remaining_more, remaining_full, remaining_refused, remaining_none, remaining_after, row_begins, refused_told, end_told}
use Rattle.chains.specs.ChainAnswers.{ended}
use Rattle.chains.proofs.StepLaws.{product_row, product_rows, product_given, product_refused}
use Rattle.chains.proofs.chain.multiplied.Goals as goal
use Rattle.chains.proofs.chain.multiplied.Invariants.{wanted}

pub loop-x-init : goal.loop-x-init
loop-x-init c =
    let M = letters_of c.args.kind in
    let s = c.args.s.now in
    let t = c.args.t.now in
    remaining_all item_keys complexes (wanted M s t) (product_row M (held_by t)) _ [] _
    (rw c.held-x-items.ensures (ap (λ xs. add_all complex_terms xs []) (product_rows M (held_by s) (held_by t))))
    c.new-sum.ensures

pub loop-y-init : goal.loop-y-init
loop-y-init c = row_begins item_keys complexes c.loop-x.invariant _ c.loop-x-test.true _ _ (ap (concat_map _) (sym c.held-y-items.ensures))

pub loop-y-preserved : goal.loop-y-preserved
loop-y-preserved c =
    remaining_more item_keys complexes c.loop-y.invariant _ c.loop-y-test.true _ _
    (product_given _ _ _ _ _ _ _ c.in_ok-z.ensures c.unit_of_i.ensures c.product-value.ensures c.product.ensures) c.in_ok-add.ensures

pub returns-in_err-z : goal.returns-in_err-z
returns-in_err-z c =
    λ back.
    refused_told item_keys complexes back _ _ _ c.from_residual.ensures.1
    (remaining_refused item_keys complexes c.loop-y.invariant _ c.loop-y-test.true (product_refused _ _ _ _ _ _ c.in_err-z.ensures))

pub returns-in_err-add : goal.returns-in_err-add
returns-in_err-add c =
    λ back.
    refused_told item_keys complexes back _ _ _ c.from_residual-in_err-add.ensures.1
    (remaining_full item_keys complexes c.loop-y.invariant _ c.loop-y-test.true _ _
    (product_given _ _ _ _ _ _ _ c.in_ok-z.ensures c.unit_of_i.ensures c.product-value.ensures c.product.ensures) c.in_err-add.ensures)

pub loop-x-preserved : goal.loop-x-preserved
loop-x-preserved c = remaining_after item_keys complexes _ c.loop-y.invariant c.loop-y-test.false

pub returns : goal.returns
returns c =
    λ back.
    end_told item_keys complexes back _ c.finished.result c.finished.ensures
    ∙ ap (ended back) (sym (remaining_none item_keys complexes c.loop-x.invariant c.loop-x-test.false))
