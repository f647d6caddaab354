-- A valid set holds at most 64 terms.
-- Assumes nothing.
use Prim.Native.Nat.{ℕ, ◌≤◌}
use native.Mathlib.Omega.{arith}
use mathlib.Core.Path.{◌≡◌}
use mathlib.Core.Bool.{Bool, true}
use mathlib.Core.List.{List}
use lib.ListN.{length, length-map, length-take, take}
use Rattle.terms.specs.Setting.{most_terms}
use Rattle.term_sets.specs.Complexes as complexes
use Rattle.term_sets.specs.Complexes.{TermSet}
use Rattle.term_sets.proofs.ValidLaws.{valid_term_sets}
use Rattle.terms.proofs.ValidSetLaws as laws
use Rattle.hamiltonians.specs.Reals as reals
use Rattle.hamiltonians.specs.Reals.{hamiltonian_terms}
use Rattle.hamiltonians.specs.declared.PauliHamiltonian.{PauliHamiltonian}
use Rattle.hamiltonians.proofs.RealValidLaws.{valid_hamiltonians}
use Rattle.noise_sets.specs.Pairs as pairs
use Rattle.noise_sets.specs.Pairs.{NoiseSet}
use Rattle.noise_sets.proofs.ValidLaws.{valid_noise_sets}

few : {T : Type 0} (count : ℕ) (l : List T) → count ≤ most_terms → length (take count l) ≤ most_terms
few count l h = let long = length-take count l in omega arith

pub operator-few : (zeros : Bool) (s : TermSet) → complexes.valid_set zeros s ≡ true → length (complexes.held_by s) ≤ most_terms
operator-few zeros s e = few s.count s.terms (laws.valid-count (valid_term_sets zeros) s e)

pub hamiltonian-few : (h : PauliHamiltonian) → reals.valid_set h ≡ true → length (hamiltonian_terms h) ≤ most_terms
hamiltonian-few h e =
    let long = length-map (reals.held_by h) reals.complex_term in
    let most = few h.terms.count h.terms.terms (laws.valid-count valid_hamiltonians h e) in
    omega arith

pub noise-few : (s : NoiseSet) → pairs.valid_set s ≡ true → length (pairs.held_by s) ≤ most_terms
noise-few s e = few s.count s.terms (laws.valid-count valid_noise_sets s e)
