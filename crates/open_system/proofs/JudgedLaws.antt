-- Number 0 of a system, of its Hamiltonian and then of its noise, comes before what its row calls say, in f64 and in whole halves. Assumes nothing.
use mathlib.Core.Path.{◌≡◌}
use mathlib.Core.Bool.{true, false, not, cond}
use mathlib.Core.List.{[]}
use Rattle.refusal.specs.Refusals.{Said, refuses}
use Rattle.hamiltonians.specs.Reals as reals
use Rattle.noise_sets.specs.Pairs as pairs
use Rattle.open_system.specs.Grouping.{valid_system}
use Rattle.open_system.specs.declared.PauliLindbladOpenSystem.{PauliLindbladOpenSystem}

-- a call that says x where both sets are valid
module _ {A : Type 0} (s : PauliLindbladOpenSystem) (x : Said A) where
  pub says_hamiltonian : reals.valid_set s.system ≡ false → refuses 0 [] ≡ cond (not (valid_system s)) (refuses 0 []) x
  unfolding valid_system
  says_hamiltonian e = rw e

  pub says_noise : reals.valid_set s.system ≡ true → pairs.valid_set s.noise.set ≡ false → refuses 0 [] ≡ cond (not (valid_system s)) (refuses 0 []) x
  unfolding valid_system
  says_noise e f = rw (e, f)

  pub says_system : reals.valid_set s.system ≡ true → pairs.valid_set s.noise.set ≡ true → {y : Said A} → y ≡ x → y ≡ cond (not (valid_system s)) (refuses 0 []) x
  unfolding valid_system
  says_system e f p = rw (e, f) p
