-- Hamiltonians as a kind of valid set, for the laws over any kind; and what other laws cite of a valid one.
-- Assumes nothing.
use mathlib.Core.Path.{◌≡◌}
use mathlib.Core.Bool.{true, false}
use mathlib.Core.List.{[]}
use Rattle.complex.specs.Coefficients.{reals}
use Rattle.complex.specs.PlusZero.{real_plus_zero}
use Rattle.items.specs.Record.{valid}
use Rattle.terms.specs.Keyed.{each}
use Rattle.terms.proofs.PlacesLaws.{Valid}
use Rattle.terms.proofs.ValidSetLaws.{ValidSets}
use Rattle.terms.proofs.ValidSetLaws as laws
use Rattle.term_sets.specs.Keys.{item_keys}
use Rattle.term_sets.specs.KeyInstances.{item_laws}
use Rattle.term_sets.proofs.ValidLaws.{valid_sets}
use Rattle.hamiltonians.specs.Reals.{real_terms, held_by, filled, good_term, is_blank, valid_set}
use Rattle.hamiltonians.specs.declared.PauliHamiltonian.{PauliHamiltonian}
use Rattle.hamiltonians.proofs.RealSetLaws.{real_sets}

-- this kind of valid set
abbrev pub valid_hamiltonians : ValidSets real_terms PauliHamiltonian
valid_hamiltonians =
    let W = valid_sets item_keys reals item_laws real_plus_zero false in
    record {
      sets = real_sets;
      good_key = W.good_key;
      good_coefficient = W.good_coefficient;
      in_range = W.in_range;
      is_blank = W.is_blank;
      valid = valid_set;
      means = λ s. W.means s.terms;
      passes = W.passes;
      only = W.only;
      allows = W.allows;
      alike = W.alike;
      coefficient_of_lem = W.coefficient_of_lem;
    }

module _ (s : PauliHamiltonian) (e : valid_set s ≡ true) where
  pub valid-parts : Valid good_term is_blank s.terms.count s.terms.terms
  valid-parts = laws.valid-parts valid_hamiltonians s e

  -- it is the Hamiltonian that holds its terms
  pub valid_own : s ≡ filled (held_by s)
  valid_own = laws.valid_own valid_hamiltonians s e

  -- the products of its terms are valid
  pub valid-products : each (λ t ts. valid t.key) (held_by s) ≡ true
  valid-products = laws.valid-keys valid_hamiltonians s e

-- the empty Hamiltonian is valid
pub empty-valid : valid_set (filled []) ≡ true
empty-valid = laws.empty-valid valid_hamiltonians
