-- The calls of the marked cases and what each gives: the answer, by the definition that its entry's contract names, and beside it what the
-- matrices say. Document 01: "The ● cases form one table of inputs and outcomes, proved together from the matrix definitions and, for setting
-- and `cmp`, from the rules above."
use Rattle.std.specs.Prelude.{ℕ, ◌*◌, ◌/◌, ◌%◌, ◌^◌, true, false, List, [], ◌∷◌, map, ℤ, pos}
use Rattle.std.specs.List.{range_with_len}
use Rattle.std.specs.Float.{binary64}
use Rattle.std.specs.Float.Ieee.{of_int}
use Rattle.refusal.specs.Refusals.{Said, gives, refuses}
use Rattle.complex.specs.Complex.{sum_of}
use Rattle.complex.specs.declared.Complex.{Complex}
use Rattle.letters.specs.Gauss.{G, 𝟘, 𝟙, ◌⊗◌}
use Rattle.letters.specs.Sums.{Σ}
use Rattle.letters.specs.Matrices.{decoherence, letters_of, matrix, adjoint}
use Rattle.letters.specs.Matrices as two_by_two
use Rattle.letters.specs.Answers.{other, multiply_letters}
use Rattle.letters.specs.declared.Kind.{Kind}
use Rattle.letters.specs.declared.Kind.TheVariants.{Decoherence}
use Rattle.items.specs.Record.{letter_at}
use Rattle.merging.specs.SiteAnswers.{set_answer}
use Rattle.merging.specs.ProductAnswers.{multiply_answer}
use Rattle.phases.specs.Answers.{conjugate_answer, convert_answer}
use Rattle.row_entries.specs.Answers.{row_answer}
use Rattle.ordering.specs.Orders.{Order, compare_answer}
use Rattle.products.specs.Kinds.{as_complex}
use Rattle.items.specs.declared.Items.{Items}
use Rattle.master_equation.specs.Equation.{𝟚, commutator, dissipator}
use Rattle.master_equation.specs.Numbers.{halves}
use Rattle.master_equation.specs.Contributions.{operator_terms, commutator_terms, noise_terms}
use Rattle.rows.specs.Floats.{in_floats}
use Rattle.rows.specs.Placing.{row_in}
use Rattle.hamiltonians.specs.Reals as reals
use Rattle.operator_rows.specs.OperatorRows.{hamiltonian_commutator_row}
use Rattle.noise_sets.specs.Pairs as pairs
use Rattle.open_rows.specs.NoiseRows as noise

-- ---- the calls

pub data Input : Type 0 where
  -- of two letters of a kind, and of two products
  multiply_single : Kind → ℕ → ℕ → Input
  multiply : Kind → Items → Items → Input
  -- a product, a site and a letter
  set_pauli : Items → ℕ → ℕ → Input
  -- of a decoherence product
  hermitian_conjugate : Items → Input
  -- of a product of a kind into the other kind
  convert : Kind → Items → Input
  cmp : Kind → Items → Items → Input
  -- n and the row, of a decoherence product; of the pair (L, R) with a coefficient; of a Hamiltonian of one term, a product with a coefficient
  product_row : ℕ → ℕ → Items → Input
  noise_row : ℕ → ℕ → Items → Items → G → Input
  commutator_row : ℕ → ℕ → Items → ℤ → Input

-- ---- what they give

pub data Outcome : Type 0 where
  -- a letter, and a product, with its power of i; and the entries of the matrix that they are to be, row by row
  letter : Said (ℕ × ℕ) → List G → Outcome
  product : Said Unit × (ℕ × Items) → List G → Outcome
  -- by the rules alone
  changed : Said Unit × Items → Outcome
  order : Said Order → Outcome
  -- the entries of a row as delivered in f64; their sums over whole numbers, in halves; and in halves the matrix's entry in each column
  row : Said (List (ℕ × Complex)) → List (ℕ × G) → List G → Outcome

-- a whole number as two f64
abbrev pub f64 : G → Complex
f64 z = in_floats z

-- the numbers below n
abbrev pub up_to : ℕ → List ℕ
up_to n = range_with_len 0 n

-- the entries of a d by d matrix, row by row
abbrev pub entries_of : ℕ → (ℕ → ℕ → G) → List G
entries_of d A = map (λ i. A (i / d) (i % d)) (up_to (d * d))

-- the matrix of a product over two spins, the sites of every marked product that has a factor
abbrev pub matrix_of : Kind → Items → ℕ → ℕ → G
matrix_of kind p = matrix (letters_of kind) 2 (letter_at p)

-- the one entry of a product's row
abbrev one_entry : Said (ℕ × Complex) → Said (List (ℕ × Complex))
one_entry (gives e) = gives (e ∷ [])
one_entry (refuses k s) = refuses k s

-- "+0 and -0 alike": adding +0 makes -0 into +0 and leaves every other number
abbrev alike : Said (List (ℕ × Complex)) → Said (List (ℕ × Complex))
alike (gives l) = gives (map (λ e. (e.0, sum_of e.1 (f64 𝟘))) l)
alike (refuses k s) = refuses k s

unfoldable pub outcome : Input → Outcome
outcome (multiply_single kind l r) =
    letter (multiply_letters (letters_of kind) l r) (entries_of 2 (two_by_two.product (letters_of kind l) (letters_of kind r)))
outcome (multiply kind p q) =
    product
    (multiply_answer (letters_of kind) p q)
    (entries_of 4 (λ r c. Σ 4 (λ m. matrix_of kind p r m ⊗ matrix_of kind q m c)))
outcome (set_pauli p s l) = changed (set_answer p s l)
outcome (hermitian_conjugate p) = product (conjugate_answer decoherence p) (entries_of 4 (adjoint (matrix_of Decoherence p)))
outcome (convert kind p) = product (convert_answer (letters_of kind) (letters_of (other kind)) p) (entries_of 4 (matrix_of kind p))
outcome (cmp kind p q) = order (compare_answer kind p q)
outcome (product_row n r p) =
    row
    (alike (one_entry (as_complex (row_answer decoherence p n r))))
    (row_in halves true (operator_terms halves n decoherence r (letter_at p) 𝟙))
    (map (λ c. 𝟚 ⊗ matrix decoherence n (letter_at p) r c) (up_to (2 ^ n)))
outcome (noise_row n r p q z) =
    let d = 2 ^ n in
    let f = letter_at p in
    let g = letter_at q in
    row
    (alike (noise.noise_row (record { set = pairs.filled (pairs.pair_of (p, q) (f64 z) ∷ []) }) n r))
    (row_in halves true (noise_terms halves n (r / d) (r % d) f g z))
    (map (λ c. z ⊗ dissipator n f g (r / d) (r % d) (c / d) (c % d)) (up_to (d * d)))
outcome (commutator_row n r p x) =
    let d = 2 ^ n in
    let f = letter_at p in
    let z : G = record { re = x; im = pos 0 } in
    row
    (alike (hamiltonian_commutator_row (reals.filled (reals.real_of p (of_int binary64 x) ∷ [])) n r))
    (row_in halves false (commutator_terms halves n (r / d) (r % d) f z))
    (map (λ c. z ⊗ commutator n f (r / d) (r % d) (c / d) (c % d)) (up_to (d * d)))
