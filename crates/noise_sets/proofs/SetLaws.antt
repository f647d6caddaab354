-- Noise sets as a kind of set, for the laws over any kind.
-- Assumes nothing.
use Rattle.complex.specs.Coefficients.{complexes}
use Rattle.terms.proofs.FilledLaws.{Sets}
use Rattle.term_sets.specs.Keys.{pair_keys}
use Rattle.term_sets.proofs.SetLaws.{sets}
use Rattle.noise_sets.specs.Pairs.{NoiseTerm, NoiseSet}

abbrev pub noise_sets : Sets NoiseTerm NoiseSet
noise_sets = sets pair_keys complexes
