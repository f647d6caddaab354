-- What an answer about a noise operator says determines it: the reading that the contracts name is one to one.
-- Assumes nothing.
use Rattle.refusal.proofs.RefusalLaws.{OneToOne, told_by_known}
use Rattle.noise_sets.specs.Pairs.{NoiseSet}
use Rattle.noise.specs.Kinds.{told_noise}

pub noise_known : (before : NoiseSet) → OneToOne (told_noise before)
noise_known before = told_by_known before (λ s. s.set) (λ x y e. λ j. record { set = e j })
