-- `convert`: of the first terms, changed, those that are not zero are held.
use Rattle.letters.specs.Matrices.{letters_of}
use Rattle.letters.specs.Answers.{other}
use Rattle.chains.proofs.StepLaws.{convert_term}
use Rattle.chains.proofs.PassLaws.{Keeping}
use Rattle.chains.proofs.chain.convert.Given as goal

abbrev pub invariant-loop-x : goal.invariant-loop-x
invariant-loop-x l = Keeping (convert_term (letters_of l.kind) (letters_of (other l.kind))) l.x-items l.x-index l.out
