-- What the terms of sets contribute to f64 rows. Document 01, `Rows`: "each term gives first its left half, then its right"; "each pair gives, in this
-- order, L(k,a) times R(l,b), then -1/2 of R†L on the left half, then -1/2 of R†L on the right".
use Rattle.std.specs.Prelude.{List, ℕ, ◌/◌, ◌%◌, ◌^◌}
use Rattle.complex.specs.declared.Complex.{Complex}
use Rattle.letters.specs.Matrices.{Letters}
use Rattle.items.specs.Record.{letter_at}
use Rattle.terms.specs.Keyed.{concat_map}
use Rattle.term_sets.specs.Complexes.{Term}
use Rattle.noise_sets.specs.Pairs.{NoiseTerm}
use Rattle.master_equation.specs.Contributions.{operator_terms, commutator_terms, noise_terms}
use Rattle.rows.specs.Floats.{floats}

-- ---- operators and commutators

-- what a term contributes to row r of an operator, and of a commutator
abbrev pub operator_part : Letters → ℕ → ℕ → Term → List (ℕ × Complex)
operator_part M n r t = operator_terms floats n M r (letter_at t.key) t.coefficient

abbrev pub commutator_part : ℕ → ℕ → Term → List (ℕ × Complex)
commutator_part n r t = commutator_terms floats n (r / 2 ^ n) (r % 2 ^ n) (letter_at t.key) t.coefficient

-- the contributions of terms, in term order
unfoldable pub operator_contributions : Letters → ℕ → ℕ → List Term → List (ℕ × Complex)
operator_contributions M n r l = concat_map (operator_part M n r) l

unfoldable pub commutator_contributions : ℕ → ℕ → List Term → List (ℕ × Complex)
commutator_contributions n r l = concat_map (commutator_part n r) l

-- ---- noise

-- what a pair contributes to row r of noise, and pairs in term order
abbrev pub noise_part : ℕ → ℕ → NoiseTerm → List (ℕ × Complex)
noise_part n r t = noise_terms floats n (r / 2 ^ n) (r % 2 ^ n) (letter_at t.key.0) (letter_at t.key.1) t.coefficient

unfoldable pub noise_contributions : ℕ → ℕ → List NoiseTerm → List (ℕ × Complex)
noise_contributions n r l = concat_map (noise_part n r) l
