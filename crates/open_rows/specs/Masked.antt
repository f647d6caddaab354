-- Terms as judging a set hands them out: each one's masks and coefficient.
use Rattle.std.specs.Prelude.{Float}
use Rattle.complex.specs.Coefficients.{complexes}
use Rattle.complex.specs.declared.Complex.{Complex}
use Rattle.term_sets.specs.Keys.{item_keys, pair_keys}
use Rattle.term_sets.specs.Sets.{masked_term}
use Rattle.term_sets.specs.Complexes.{Term}
use Rattle.term_sets.specs.declared.judging.MaskedTerm.{MaskedTerm}
use Rattle.hamiltonians.specs.Reals.{complex_of}
use Rattle.noise_sets.specs.Pairs.{NoiseTerm}

-- a real coefficient as a complex one
abbrev pub as_complex : MaskedTerm Float → MaskedTerm Complex
as_complex t = record { masks = t.masks; coefficient = complex_of t.coefficient }

-- what judging hands out of a term with complex coefficients, and of a noise term
abbrev pub masked : Term → MaskedTerm Complex
masked = masked_term item_keys complexes

abbrev pub masked_pair : NoiseTerm → MaskedTerm Complex
masked_pair = masked_term pair_keys complexes
