-- `scale`: the first terms are scaled and in range.
use Rattle.chains.proofs.ScaleLaws.{Scaling}
use Rattle.chains.proofs.chain.scale.Given as goal

abbrev pub invariant-loop-x : goal.invariant-loop-x
invariant-loop-x l = Scaling l.value l.x-items l.x-index l.out
