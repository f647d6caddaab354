-- What an answer about a noise set says determines it: the reading that the contract names is one to one.
-- Assumes nothing.
use Rattle.refusal.proofs.RefusalLaws.{OneToOne, told_by_known}
use Rattle.noise_sets.specs.Pairs.{NoiseSet}
use Rattle.noise_remapping.specs.RemapAnswers.{told}

pub told_known : (before : NoiseSet) → OneToOne (told before)
told_known before = told_by_known before (λ s. s) (λ x y e. e)
