-- What an answer about a set says determines it: the reading that the contracts name is one to one.
-- Assumes nothing.
use Rattle.refusal.proofs.RefusalLaws.{OneToOne, told_by_known}
use Rattle.term_sets.specs.Complexes.{TermSet}
use Rattle.chains.specs.ChainAnswers.{told}

pub told_known : (before : TermSet) → OneToOne (told before)
told_known before = told_by_known before (λ s. s) (λ x y e. e)
