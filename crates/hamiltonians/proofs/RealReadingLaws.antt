-- What an answer about a Hamiltonian says determines it: the reading that the contracts name is one to one.
-- Assumes nothing.
use Rattle.refusal.proofs.RefusalLaws.{OneToOne, told_by_known}
use Rattle.hamiltonians.specs.RealAnswers.{told}
use Rattle.hamiltonians.specs.declared.PauliHamiltonian.{PauliHamiltonian}

pub hamiltonian_known : (before : PauliHamiltonian) → OneToOne (told before)
hamiltonian_known before = told_by_known before (λ h. h) (λ x y e. e)
