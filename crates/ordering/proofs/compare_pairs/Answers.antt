-- `compare_pairs` meets its contract. The loop's invariant: the pairs passed are equal; the first that differs decides.
use mathlib.Core.Path.{◌≡◌, sym, ap, ◌∙◌}
use native.Mathlib.Omega.{arith}
use Rattle.items.specs.Lists.{at}
use Rattle.ordering.proofs.ComparisonLaws.{first_decided, decided_none, pairs_decided}
use Rattle.ordering.proofs.OrderingLaws.{ordering_place, place_decides, place_passes}
use Rattle.ordering.proofs.compare_pairs.Goals as goal

pub loop-i-init : goal.loop-i-init
loop-i-init c = decided_none _

pub returns-then-ne : goal.returns-then-ne
returns-then-ne c =
    let p = c.args.p.now in
    let q = c.args.q.now in
    let i = c.loop-i.i in
    let o = ordering_place (at p.sites i) (at q.sites i) (at p.letters i) (at q.letters i) c.cmp.ensures c.cmp-in-loop-i.ensures c.then-o.ensures in
    place_decides _ _ i c.args.n c.loop-i.invariant (omega arith) o c.if-ne.ensures
    ∙ sym (pairs_decided _ _ _ _ c.args.n)

pub loop-i-preserved : goal.loop-i-preserved
loop-i-preserved c =
    let p = c.args.p.now in
    let q = c.args.q.now in
    let i = c.loop-i.i in
    let o = ordering_place (at p.sites i) (at q.sites i) (at p.letters i) (at q.letters i) c.cmp.ensures c.cmp-in-loop-i.ensures c.then-o.ensures in
    place_passes _ _ i c.loop-i.invariant o c.if-ne.ensures

pub returns : goal.returns
returns c =
    let all : c.loop-i.i ≡ c.args.n = omega arith in
    sym (pairs_decided _ _ _ _ c.args.n ∙ ap (first_decided _) (sym all) ∙ c.loop-i.invariant)
