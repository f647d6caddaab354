-- The exact row of an open system. Document 01, `Rows`: "Exact row of an open system: the same sums over whole numbers, counted in halves
-- (signed 64-bit parts), zero sums left out"; number 11: "exact row: a part not whole or over 2^40".
use Rattle.std.specs.Prelude.{ℕ, ◌*◌, ◌/◌, ◌%◌, ◌^◌, Bool, false, not, ◌&&◌, cond, List, [], ◌++◌}
use Rattle.refusal.specs.Refusals.{Said, gives, refuses}
use Rattle.complex.specs.Wholes.{both_whole, parts_of}
use Rattle.complex.specs.declared.Complex.{Complex}
use Rattle.letters.specs.Gauss.{G}
use Rattle.items.specs.Record.{letter_at}
use Rattle.terms.specs.Keyed.{each, concat_map}
use Rattle.master_equation.specs.Numbers.{halves}
use Rattle.master_equation.specs.Contributions.{commutator_terms, noise_terms}
use Rattle.rows.specs.Placing.{row_in}
use Rattle.exact_sums.specs.ExactSums.{whole}
use Rattle.rows.specs.Calls.{checked_row}
use Rattle.term_sets.specs.Complexes.{Term}
use Rattle.noise_sets.specs.Pairs as pairs
use Rattle.noise_sets.specs.Pairs.{NoiseTerm}
use Rattle.hamiltonians.specs.Reals.{hamiltonian_terms}
use Rattle.open_system.specs.Grouping.{valid_system}
use Rattle.outside_sites.specs.SystemItems.{system_items}
use Rattle.open_system.specs.declared.PauliLindbladOpenSystem.{PauliLindbladOpenSystem}

-- a coefficient as a whole number
unfoldable pub gauss_of : Complex → G
gauss_of z = whole (parts_of z.re) (parts_of z.im)

-- the largest part of a coefficient that the code scales: 2^40 is the largest that number 11 lets pass, and twice 2^50 is a small contribution
abbrev pub largest_coefficient : ℕ
largest_coefficient = 2 ^ 50

-- what a term contributes to row r
abbrev pub exact_commutator_part : ℕ → ℕ → Term → List (ℕ × G)
exact_commutator_part n r t = commutator_terms halves n (r / 2 ^ n) (r % 2 ^ n) (letter_at t.key) (gauss_of t.coefficient)

abbrev pub exact_noise_part : ℕ → ℕ → NoiseTerm → List (ℕ × G)
exact_noise_part n r t = noise_terms halves n (r / 2 ^ n) (r % 2 ^ n) (letter_at t.key.0) (letter_at t.key.1) (gauss_of t.coefficient)

-- the contributions of terms, in term order, the Hamiltonian's before the noise's
unfoldable pub exact_contributions : ℕ → ℕ → List Term → List NoiseTerm → List (ℕ × G)
exact_contributions n r h w = concat_map (exact_commutator_part n r) h ++ concat_map (exact_noise_part n r) w

-- the opposite of 11, which looks at every coefficient
unfoldable pub whole_terms : List Term → List NoiseTerm → Bool
whole_terms h w = each (λ t ts. both_whole t.coefficient) h && each (λ t ts. both_whole t.coefficient) w

-- "rows 7, 9, 8, 11, 10"
unfoldable pub unless_not_whole : {A : Type 0} → Bool → Said A → Said A
unless_not_whole whole (gives x) = cond whole (gives x) (refuses 11 [])
unless_not_whole whole (refuses k s) = refuses k s

-- row r of the terms, after number 0
unfoldable pub exact_row_of_terms : ℕ → ℕ → List Term → List NoiseTerm → Said (List (ℕ × G))
exact_row_of_terms n r h w = unless_not_whole (whole_terms h w) (checked_row n (2 ^ n * 2 ^ n) r (system_items h w) (row_in halves false (exact_contributions n r h w)))

unfoldable pub exact_row : PauliLindbladOpenSystem → ℕ → ℕ → Said (List (ℕ × G))
exact_row s n r = cond (not (valid_system s)) (refuses 0 []) (exact_row_of_terms n r (hamiltonian_terms s.system) (pairs.held_by s.noise.set))

-- the columns of row r with their two parts, where no number refuses
unfoldable pub exact_row_entries : PauliLindbladOpenSystem → ℕ → ℕ → List (ℕ × G)
exact_row_entries s n r = row_in halves false (exact_contributions n r (hamiltonian_terms s.system) (pairs.held_by s.noise.set))
