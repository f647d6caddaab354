-- `collected`: of the first terms those that are not zero are held.
use Rattle.chains.proofs.PassLaws.{Keeping}
use Rattle.chains.proofs.chain.collected.Given as goal

abbrev pub invariant-loop-x : goal.invariant-loop-x
invariant-loop-x l = Keeping (λ x. x) l.x-items l.x-index l.out
