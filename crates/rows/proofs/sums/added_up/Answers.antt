-- Each turn adds to the sum begun (`summing_same`) or begins a new one (`summing_next`); the last one comes last (`summing_done`).
use Rattle.std.proofs.Common.{◌≡◌, ◌∙◌, refl, ap, []}
use Rattle.std.proofs.lemmas.List.{nil_from_length}
use Rattle.rows.specs.Neighbours.{neighbours_added}
use Rattle.arrayvec.specs.ArrayVec.{ArrayVec}
use Rattle.rows.proofs.SumLaws.{summing_first, summing_same, summing_next, summing_done}
use Rattle.rows.proofs.sums.added_up.Goals.{then-e-last, else-e-last}
use Rattle.rows.proofs.sums.added_up.Goals as goal

pub loop-at-init : goal.loop-at-init
loop-at-init g c = summing_first g.V.Number.numbers.sum c.args.es.now c.in-Some.ensures.cases.0 c.requires.1 c.index-es-first.result c.new-out.ensures c.index-es-first.is

pub loop-at-preserved : goal.loop-at-preserved
loop-at-preserved g c =
    let sum = g.V.Number.numbers.sum in
    let es = c.args.es.now in
    let split = c.in-Some.ensures.cases.0 in
    let e = c.index-es-at.result in
    elim c.if-e-last.branch [
      | then-e-last w ↦
          rw w.out-is (summing_same sum es split c.requires.1 c.loop-at.invariant e c.loop-at-test.true c.index-es-at.is c.if-e-last.last w.if-e-last.true (w.last-is ∙ w.plus-last.ensures))
      | else-e-last w ↦
          rw w.last-is (summing_next sum es split c.requires.1 c.loop-at.invariant e c.loop-at-test.true c.index-es-at.is w.if-e-last.false (ap (λ (v : ArrayVec _). v.items) w.out-is ∙ w.push.ensures.items))
    ]

pub returns-clause-sums : goal.returns-clause-sums
returns-clause-sums g c =
    λ f reads.
    summing_done g.V.Number.numbers.sum c.args.es.now c.in-Some.ensures.cases.0 c.requires.1 c.loop-at.invariant c.loop-at-test.false c.push-2.ensures.items f reads

pub returns-in_default-clause-sums : goal.returns-in_default-clause-sums
unfolding neighbours_added
returns-in_default-clause-sums g c =
    λ f reads.
    let none : c.args.places.now ≡ [] = nil_from_length c.args.places.now c.in_default.ensures.cases in
    rw (c.new-out.ensures, none) refl
