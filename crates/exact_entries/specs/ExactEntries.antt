-- A system's terms with whole coefficients, and what the exact row call delivers of them: the entries of the superoperator.
-- Document 01, `Rows`: "Exact row of an open system: the same sums over whole numbers".
use Rattle.std.specs.Prelude.{ℕ, ◌/◌, ◌%◌, ◌^◌, ◌<◌, ◌≡◌, List, map}
use Rattle.refusal.specs.Refusals.{gives}
use Rattle.letters.specs.Gauss.{G}
use Rattle.row_entries.specs.PairColumns.{pair_column}
use Rattle.master_equation.specs.Sums.{value_at}
use Rattle.hamiltonians.specs.Reals as reals
use Rattle.hamiltonians.specs.declared.PauliHamiltonian.{PauliHamiltonian}
use Rattle.noise_sets.specs.Pairs as pairs
use Rattle.noise_sets.specs.Pairs.{NoiseSet}
use Rattle.open_system.specs.declared.PauliLindbladOpenSystem.{PauliLindbladOpenSystem}
use Rattle.exact_rows.specs.ExactRows.{gauss_of, exact_row}
use Rattle.superoperator.specs.Systems.{Hamiltonian, Noise, entry_of}

-- the terms of a Hamiltonian, and the pairs of noise, with their coefficients as whole numbers
unfoldable pub whole_hamiltonian : PauliHamiltonian → Hamiltonian
whole_hamiltonian h = map (λ t. (t.key, gauss_of (reals.complex_of t.coefficient))) (reals.held_by h)

unfoldable pub whole_noise : NoiseSet → Noise
whole_noise w = map (λ t. (t.key, gauss_of t.coefficient)) (pairs.held_by w)

-- the entry of a system's superoperator at row (k, l) and column (a, b)
unfoldable pub system_entry : PauliLindbladOpenSystem → ℕ → ℕ → ℕ → ℕ → ℕ → G
system_entry s n k l a b = entry_of n (whole_hamiltonian s.system) (whole_noise s.noise.set) k l a b

-- where the call gives a row, its value at column (a, b) is that entry
abbrev pub ExactRowTheorem : Type 0
ExactRowTheorem =
    (s : PauliLindbladOpenSystem) (n r : ℕ) (row : List (ℕ × G)) → exact_row s n r ≡ gives row
    → (a b : ℕ) → a < 2 ^ n → b < 2 ^ n → value_at (pair_column n a b) row ≡ system_entry s n (r / 2 ^ n) (r % 2 ^ n) a b
