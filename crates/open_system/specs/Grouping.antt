-- A Hamiltonian and a noise operator as an open system. Document 01, pauli_open_system.rs: `group`, and number 0.
use Rattle.std.specs.Prelude.{Result, not, cond, Bool, false, []}
use Rattle.refusal.specs.Refusals.{Said, refuses, done, told_by}
use Rattle.refusal.specs.declared.Refusal.{Refusal}
use Rattle.hamiltonians.specs.Reals as reals
use Rattle.hamiltonians.specs.declared.PauliHamiltonian.{PauliHamiltonian}
use Rattle.noise_sets.specs.Pairs as pairs
use Rattle.noise.specs.declared.PauliLindbladNoiseOperator.{PauliLindbladNoiseOperator}
use Rattle.open_system.specs.declared.PauliLindbladOpenSystem.{PauliLindbladOpenSystem}

-- what `new` gives
abbrev pub empty_system : PauliLindbladOpenSystem
empty_system = record { system = reals.filled []; noise = record { set = pairs.filled [] } }

-- both parts together
abbrev pub together : PauliHamiltonian → PauliLindbladNoiseOperator → PauliLindbladOpenSystem
together h w = record { system = h; noise = w }

-- both parts are judged by 0, and come back as they were given beside a refusal: "State given in comes back unchanged"
unfoldable pub group_answer : PauliHamiltonian → PauliLindbladNoiseOperator → Said Unit × PauliLindbladOpenSystem
group_answer h w =
    cond (not (reals.valid_set h)) (refuses 0 [], together h w)
    (cond (not (pairs.valid_set w.set)) (refuses 0 [], together h w)
    (done, together h w))

-- with the system of what the caller then has: refused, that of the two as they were given
abbrev pub told_system : PauliLindbladOpenSystem → Result PauliLindbladOpenSystem Refusal → Said Unit × PauliLindbladOpenSystem
told_system before r = told_by before (λ s. s) r

-- number 0 lets both sets pass
unfoldable pub valid_system : PauliLindbladOpenSystem → Bool
valid_system s = cond (reals.valid_set s.system) (pairs.valid_set s.noise.set) false
