-- One column more: what stands before it is as it was.
use Rattle.std.proofs.Common.{◌<◌, ◌∙◌, ap, sym, arith, length, slice_index_or, slice_set}
use Rattle.std.proofs.lemmas.List.{get_or_default, get_or-set_same, get_or-set_other}
use native.Mathlib.Decide.{ℕ_discrete}
use Rattle.rows.proofs.sums.columns_of.Goals as goal

pub loop-i-preserved : goal.loop-i-preserved
loop-i-preserved g c =
    λ j d h.
    let es = c.args.es.now in
    let old = c.loop-i.columns in
    let i = c.loop-i.i in
    let x = c.index-es-i.result in
    let put = c.put.ensures in
    let fits : i < length old = omega (arith, put.1, c.requires, c.loop-i-test.true) in
    ap (λ l. slice_index_or l j 0) put.0
    ∙ elim (ℕ_discrete j i) [
      | yes e ↦
          ap (λ k. slice_index_or (slice_set old i x.column) k 0) e
          ∙ get_or-set_same old i x.column 0 fits
          ∙ ap (λ y. y.column) (c.index-es-i.is ∙ get_or_default es i x d c.loop-i-test.true)
          ∙ ap (λ k. (slice_index_or es k d).column) (sym e)
      | no n ↦ get_or-set_other old i j x.column 0 n ∙ c.loop-i.invariant j d (omega arith)
    ]
