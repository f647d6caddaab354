-- The rows of operators and Hamiltonians. Document 01, `Rows`: "Operator row (`PauliOperator` and Hamiltonian): sum of the terms' matrix
-- entries; zero sums kept." "Commutator row (the same two): the entries of -i(Hρ - ρH); each term gives first its left half, then its
-- right; zero sums are absent."
use Rattle.std.specs.Prelude.{true, false, not, cond, List, [], ℕ, ◌*◌, ◌^◌}
use Rattle.refusal.specs.Refusals.{Said, refuses}
use Rattle.complex.specs.declared.Complex.{Complex}
use Rattle.letters.specs.Matrices.{Letters, pauli}
use Rattle.rows.specs.Floats.{floats}
use Rattle.rows.specs.Placing.{row_in}
use Rattle.rows.specs.Calls.{checked_row}
use Rattle.term_sets.specs.Complexes.{held_by, valid_set, items_of}
use Rattle.hamiltonians.specs.Reals as reals
use Rattle.term_sets.specs.Complexes.{Term}
use Rattle.letters.specs.declared.alphabet.PauliLetters.{PauliLetters}
use Rattle.operators.specs.declared.Operator.{Operator}
use Rattle.hamiltonians.specs.declared.PauliHamiltonian.{PauliHamiltonian}
use Rattle.hamiltonians.specs.Reals.{hamiltonian_terms}
use Rattle.contributions.specs.TermContributions.{commutator_contributions, operator_contributions}

-- of terms, after number 0
unfoldable pub operator_row_of : Letters → ℕ → ℕ → List Term → Said (List (ℕ × Complex))
operator_row_of M n r l = checked_row n (2 ^ n) r (items_of l) (row_in floats true (operator_contributions M n r l))

unfoldable pub commutator_row_of : ℕ → ℕ → List Term → Said (List (ℕ × Complex))
commutator_row_of n r l = checked_row n (2 ^ n * 2 ^ n) r (items_of l) (row_in floats false (commutator_contributions n r l))

-- of a `PauliOperator` and of a Hamiltonian
abbrev pub PauliOperator : Type 0
PauliOperator = Operator PauliLetters

unfoldable pub operator_row : PauliOperator → ℕ → ℕ → Said (List (ℕ × Complex))
operator_row s n r = cond (not (valid_set true s.terms)) (refuses 0 []) (operator_row_of pauli n r (held_by s.terms))

unfoldable pub commutator_row : PauliOperator → ℕ → ℕ → Said (List (ℕ × Complex))
commutator_row s n r = cond (not (valid_set true s.terms)) (refuses 0 []) (commutator_row_of n r (held_by s.terms))

unfoldable pub hamiltonian_row : PauliHamiltonian → ℕ → ℕ → Said (List (ℕ × Complex))
hamiltonian_row s n r = cond (not (reals.valid_set s)) (refuses 0 []) (operator_row_of pauli n r (hamiltonian_terms s))

unfoldable pub hamiltonian_commutator_row : PauliHamiltonian → ℕ → ℕ → Said (List (ℕ × Complex))
hamiltonian_commutator_row s n r = cond (not (reals.valid_set s)) (refuses 0 []) (commutator_row_of n r (hamiltonian_terms s))
