-- Hamiltonians as a kind of set, for the laws over any kind.
-- Assumes nothing.
use mathlib.Core.Path.{refl}
use Rattle.complex.specs.Coefficients.{reals}
use Rattle.terms.proofs.FilledLaws.{Sets}
use Rattle.term_sets.specs.Keys.{item_keys}
use Rattle.term_sets.proofs.SetLaws.{sets}
use Rattle.hamiltonians.specs.Reals.{RealTerm, filled}
use Rattle.hamiltonians.specs.declared.PauliHamiltonian.{PauliHamiltonian}

-- this kind of set
abbrev pub real_sets : Sets RealTerm PauliHamiltonian
real_sets =
    let T = sets item_keys reals in
    record {
      blank = T.blank;
      count = λ s. T.count s.terms;
      places = λ s. T.places s.terms;
      make = λ n t. record { terms = T.make n t };
      filled = filled;
      made = λ s. refl;
      made-count = T.made-count;
      made-places = T.made-places;
      fills = λ l j. record { terms = T.fills l j };
    }
