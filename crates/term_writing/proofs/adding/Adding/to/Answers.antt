-- `to`: the copied terms with the empty places past them are the set that holds them.
use Rattle.std.proofs.Common.{arith, ◌≡◌, ◌∙◌, ◌<◌, sym, ap, take, length, length-take, map}
use Rattle.std.proofs.Math.Seq.{take_all}
use Rattle.std.proofs.lemmas.Grind.{common_steps}
use Rattle.term_writing.proofs.NumberLaws.{laid_more, laid_all, numbered_by}
use Rattle.term_writing.proofs.adding.Adding.to.Goals as goal

pub loop-i-preserved : goal.loop-i-preserved
loop-i-preserved g c =
    let few = length-take c.min.result c.places.result.now in
    let room : c.loop-i.i < length c.new-set.result.terms = omega arith in
    record {
      terms = laid_more _ _ _ _ c.loop-i-test.true room c.index-held-i.is c.loop-i.invariant.terms;
      long = grind (arith, common_steps);
      numbered = grind (arith, common_steps);
    }

pub invariant_of-result : goal.invariant_of-result
invariant_of-result g c =
    let k = g.K.Key.keys in
    let l = take c.min.result c.places.result.now in
    let few = length-take c.min.result c.places.result.now in
    let end : c.loop-i.i ≡ length l = omega arith in
    let set = laid_all k g.N.Coefficient.numbers c.new-set.result c.new-set.ensures l c.loop-i.set.terms c.loop-i.i end c.loop-i.invariant.terms in
    let numbers = ap (λ i. take i c.loop-i.numbers) (sym end) ∙ c.loop-i.invariant.numbered ∙ ap (map (λ t. k.number_of t.key)) (take_all c.loop-i.i l (omega arith)) in
    record { numbered = numbered_by k g.N.Coefficient.numbers _ c.loop-i.numbers l set (omega arith) c.loop-i.invariant.long numbers }
