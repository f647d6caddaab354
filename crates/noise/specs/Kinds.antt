-- What an answer about a noise operator says, in the words of the answers about sets.
use Rattle.std.specs.Prelude.{Result}
use Rattle.refusal.specs.Refusals.{Said, told_by}
use Rattle.refusal.specs.declared.Refusal.{Refusal}
use Rattle.noise_sets.specs.Pairs.{NoiseSet}
use Rattle.noise.specs.declared.PauliLindbladNoiseOperator.{PauliLindbladNoiseOperator}

-- with the set of the operator that the caller then has: the answer's, or, refused, the one before
abbrev pub told_noise : NoiseSet → Result PauliLindbladNoiseOperator Refusal → Said Unit × NoiseSet
told_noise before r = told_by before (λ s. s.set) r
