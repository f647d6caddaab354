-- `conjugate`: of the first terms, changed, those that are not zero are held.
use Rattle.letters.specs.Matrices.{letters_of}
use Rattle.chains.proofs.StepLaws.{conjugate_term}
use Rattle.chains.proofs.PassLaws.{Keeping}
use Rattle.chains.proofs.chain.conjugate.Given as goal

abbrev pub invariant-loop-x : goal.invariant-loop-x
invariant-loop-x l = Keeping (conjugate_term (letters_of l.kind)) l.x-items l.x-index l.out
