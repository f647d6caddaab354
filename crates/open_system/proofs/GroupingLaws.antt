-- Open systems as `new` and `group` give them: they are valid. And an answer of `group` is known by what its reading says.
-- Assumes nothing.
use mathlib.Core.Path.{◌≡◌}
use mathlib.Core.Bool.{true}
use Rattle.refusal.specs.Refusals.{done}
use Rattle.refusal.proofs.RefusalLaws.{OneToOne, told_by_known}
use Rattle.terms.proofs.AnswerLaws.{Answered, answered_past, answered_given}
use Rattle.hamiltonians.specs.Reals as reals
use Rattle.hamiltonians.specs.declared.PauliHamiltonian.{PauliHamiltonian}
use Rattle.hamiltonians.proofs.RealValidLaws as real-laws
use Rattle.noise_sets.specs.Pairs as pairs
use Rattle.noise.specs.declared.PauliLindbladNoiseOperator.{PauliLindbladNoiseOperator}
use Rattle.noise_sets.proofs.ValidLaws as pair-laws
use Rattle.open_system.specs.Grouping.{valid_system, empty_system, group_answer, told_system}
use Rattle.open_system.specs.declared.PauliLindbladOpenSystem.{PauliLindbladOpenSystem}

-- two valid sets are a valid system
sets_valid : (s : PauliLindbladOpenSystem) → reals.valid_set s.system ≡ true → pairs.valid_set s.noise.set ≡ true → valid_system s ≡ true
unfolding valid_system
sets_valid s v u = rw (v, u)

-- what `new` gives
pub empty-valid : valid_system empty_system ≡ true
empty-valid = sets_valid empty_system real-laws.empty-valid pair-laws.empty-valid

-- what an accepted `group` answers
pub group_valid : (h : PauliHamiltonian) (w : PauliLindbladNoiseOperator) (s : PauliLindbladOpenSystem) → group_answer h w ≡ (done, s) → valid_system s ≡ true
unfolding group_answer
group_valid h w s e =
    let a : Answered (λ x. valid_system x ≡ true) _ (group_answer h w) =
    answered_past (reals.valid_set h) _ _ _ (λ v. answered_past (pairs.valid_set w.set) _ _ _ (λ u. answered_given (sets_valid _ v u))) in
    a.holds tt s e

-- the reading of its answers is one to one
pub told_system_known : (before : PauliLindbladOpenSystem) → OneToOne (told_system before)
told_system_known before = told_by_known before (λ s. s) (λ x y e. e)
