-- The rows of open systems. Document 01: "An open system's row has the columns of both parts; where both have one, noise is added to the
-- commutator entry, and a zero there is kept"; for 8 the Hamiltonian before the noise.
use Rattle.std.specs.Prelude.{not, cond, List, [], ℕ, ◌*◌, ◌^◌}
use Rattle.refusal.specs.Refusals.{Said, refuses}
use Rattle.complex.specs.declared.Complex.{Complex}
use Rattle.rows.specs.Floats.{floats}
use Rattle.rows.specs.Placing.{open_row_in}
use Rattle.rows.specs.Calls.{checked_row}
use Rattle.term_sets.specs.Complexes.{Term}
use Rattle.noise_sets.specs.Pairs as pairs
use Rattle.noise_sets.specs.Pairs.{NoiseTerm}
use Rattle.hamiltonians.specs.Reals.{hamiltonian_terms}
use Rattle.contributions.specs.TermContributions.{commutator_contributions, noise_contributions}
use Rattle.open_system.specs.declared.PauliLindbladOpenSystem.{PauliLindbladOpenSystem}
use Rattle.outside_sites.specs.SystemItems.{system_items}
use Rattle.open_system.specs.Grouping.{valid_system}

-- row r of the terms, after number 0
unfoldable pub system_row_of : ℕ → ℕ → List Term → List NoiseTerm → Said (List (ℕ × Complex))
system_row_of n r h w = checked_row n (2 ^ n * 2 ^ n) r (system_items h w) (open_row_in floats (commutator_contributions n r h) (noise_contributions n r w))

unfoldable pub system_row : PauliLindbladOpenSystem → ℕ → ℕ → Said (List (ℕ × Complex))
system_row s n r = cond (not (valid_system s)) (refuses 0 []) (system_row_of n r (hamiltonian_terms s.system) (pairs.held_by s.noise.set))
