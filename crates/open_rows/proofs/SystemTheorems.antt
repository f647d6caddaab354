-- The rows over whole numbers, counted in halves, are the entries of an operator's matrix and of the master equation's superoperator: rows and
-- contributions are those of the f64 contracts, with the other instance of `Numbers`.
-- Assumes nothing.
use mathlib.Core.Path.{◌≡◌, refl, ap₂, ◌∙◌}
use mathlib.Core.Bool.{true, false}
use mathlib.Core.List.{List, [], ◌∷◌}
use Prim.Native.Nat.{ℕ, ◌^◌, ◌<◌}
use Rattle.letters.specs.Gauss.{G, ◌⊕◌, ◌⊗◌}
use Rattle.letters.specs.Matrices.{letters_of, matrix}
use Rattle.letters.specs.declared.Kind.{Kind}
use Rattle.letters.proofs.GaussLaws.{⊗_assoc, ⊗_left_comm}
use Rattle.items.specs.Record.{letter_at}
use Rattle.items.specs.declared.Items.{Items}
use Rattle.items.proofs.MaskLaws.{letter_lt}
use Rattle.terms.specs.Keyed.{concat_map}
use Rattle.terms.specs.Gaussian.{weighted, summed}
use Rattle.terms.proofs.KeyedLaws.{All, all_head, all_tail}
use Rattle.terms.proofs.SummedLaws.{summed_same, summed_scale}
use Rattle.term_sets.specs.Matrices.{matrix_of, Fits}
use Rattle.noise_sets.specs.Pairs.{Key}
use Rattle.master_equation.specs.Equation.{𝟚, commutator, dissipator}
use Rattle.master_equation.specs.Numbers.{halves}
use Rattle.row_entries.specs.PairColumns.{pair_column}
use Rattle.master_equation.specs.Contributions.{operator_terms, commutator_terms, noise_terms}
use Rattle.rows.specs.Placing.{row_in, open_row_in}
use Rattle.master_equation.specs.Sums.{sum_at, value_at}
use Rattle.rows.proofs.PlacingLaws.{sum_append, row_in_value, open_row_in_value}
use Rattle.master_equation.proofs.SuperoperatorTheorems.{operator_sum, commutator-sum, noise-sum}

-- ---- sums over the terms

-- where each term contributes its coefficient times the value of its key, all of them contribute the weighted sum
sum_terms : {K : Type 0} (c : ℕ) (g : K × G → List (ℕ × G)) (φ : K → G) (Good : K → Type 0) → ((t : K × G) → Good t.0 → sum_at c (g t) ≡ t.1 ⊗ φ t.0)
    → (l : List (K × G)) → All (λ t. Good t.0) l → sum_at c (concat_map g l) ≡ weighted φ l
unfolding concat_map sum_at summed
sum_terms c g φ Good e [] h = refl
sum_terms {K} c g φ Good e (t ∷ l) h =
    sum_append c (g t) (concat_map g l)
    ∙ ap₂ ◌⊕◌ (e t (all_head (λ (t : K × G). Good t.0) t l h)) (sum_terms c g φ Good e l (all_tail (λ (t : K × G). Good t.0) t l h))

-- twice each value is twice the sum
twice : {K : Type 0} (φ : K → G) (l : List (K × G)) → weighted (λ k. 𝟚 ⊗ φ k) l ≡ 𝟚 ⊗ weighted φ l
twice {K} φ l =
    summed_same (λ (t : K × G). t.1 ⊗ (𝟚 ⊗ φ t.0)) (λ t. 𝟚 ⊗ (t.1 ⊗ φ t.0)) l (λ t. ⊗_left_comm t.1 𝟚 (φ t.0))
    ∙ summed_scale 𝟚 (λ (t : K × G). t.1 ⊗ φ t.0) l

-- ---- operators

-- the contributions of an operator's terms to row r
abbrev pub operator_halves : Kind → ℕ → ℕ → List (Items × G) → List (ℕ × G)
operator_halves kind n r h = concat_map (λ (t : Items × G). operator_terms halves n (letters_of kind) r (letter_at t.0) t.1) h

-- an operator's row, with zero sums: at each column twice the entry of its matrix
pub operator_row_theorem : (kind : Kind) (n r c : ℕ) → c < 2 ^ n → (h : List (Items × G)) → All (λ t. Fits n t.0) h
    → value_at c (row_in halves true (operator_halves kind n r h)) ≡ 𝟚 ⊗ matrix_of (letters_of kind) n h r c
unfolding matrix_of
operator_row_theorem kind n r c hc h f =
    row_in_value true c (operator_halves kind n r h)
    ∙ sum_terms c (λ (t : Items × G). operator_terms halves n (letters_of kind) r (letter_at t.0) t.1) (λ p. 𝟚 ⊗ matrix (letters_of kind) n (letter_at p) r c) (Fits n)
    (λ t g. operator_sum kind n (letter_at t.0) (λ s m. letter_lt t.0 g.0 s) r c hc t.1 ∙ ⊗_assoc 𝟚 t.1 _ ∙ ⊗_left_comm 𝟚 t.1 (matrix (letters_of kind) n (letter_at t.0) r c)) h f
    ∙ twice (λ p. matrix (letters_of kind) n (letter_at p) r c) h

-- ---- open systems

-- both products of a pair fit
abbrev pub FitsPair : ℕ → Key → Type 0
FitsPair n k = Fits n k.0 × Fits n k.1

-- the contributions of a Hamiltonian's terms and of noise pairs to row (k, l)
abbrev pub commutator_halves : ℕ → ℕ → ℕ → List (Items × G) → List (ℕ × G)
commutator_halves n k l h = concat_map (λ (t : Items × G). commutator_terms halves n k l (letter_at t.0) t.1) h

abbrev pub noise_halves : ℕ → ℕ → ℕ → List (Key × G) → List (ℕ × G)
noise_halves n k l w = concat_map (λ (t : Key × G). noise_terms halves n k l (letter_at t.0.0) (letter_at t.0.1) t.1) w

module _ (n k l a b : ℕ) (hk : k < 2 ^ n) (hl : l < 2 ^ n) (ha : a < 2 ^ n) (hb : b < 2 ^ n) where
  pub commutator_theorem : (h : List (Items × G)) → All (λ t. Fits n t.0) h
      → sum_at (pair_column n a b) (commutator_halves n k l h) ≡ weighted (λ p. commutator n (letter_at p) k l a b) h
  commutator_theorem h f =
      sum_terms (pair_column n a b) (λ (t : Items × G). commutator_terms halves n k l (letter_at t.0) t.1) (λ p. commutator n (letter_at p) k l a b) (Fits n)
      (λ t g. commutator-sum n (letter_at t.0) (λ s m. letter_lt t.0 g.0 s) k l a b hk hl ha hb t.1) h f

  pub noise_theorem : (w : List (Key × G)) → All (λ t. FitsPair n t.0) w
      → sum_at (pair_column n a b) (noise_halves n k l w) ≡ weighted (λ p. dissipator n (letter_at p.0) (letter_at p.1) k l a b) w
  noise_theorem w f =
      sum_terms (pair_column n a b) (λ (t : Key × G). noise_terms halves n k l (letter_at t.0.0) (letter_at t.0.1) t.1)
      (λ p. dissipator n (letter_at p.0) (letter_at p.1) k l a b) (FitsPair n)
      (λ t g. noise-sum n (letter_at t.0.0) (letter_at t.0.1) (λ s m. letter_lt t.0.0 g.0.0 s) (λ s m. letter_lt t.0.1 g.1.0 s) k l a b hk hl ha hb t.1) w f

  -- the commutator row, without zero sums, and the noise row: at each column the entry of the superoperator
  pub commutator_row_theorem : (h : List (Items × G)) → All (λ t. Fits n t.0) h
      → value_at (pair_column n a b) (row_in halves false (commutator_halves n k l h)) ≡ weighted (λ p. commutator n (letter_at p) k l a b) h
  commutator_row_theorem h f = row_in_value false (pair_column n a b) (commutator_halves n k l h) ∙ commutator_theorem h f

  pub noise_row_theorem : (w : List (Key × G)) → All (λ t. FitsPair n t.0) w
      → value_at (pair_column n a b) (row_in halves true (noise_halves n k l w)) ≡ weighted (λ p. dissipator n (letter_at p.0) (letter_at p.1) k l a b) w
  noise_row_theorem w f = row_in_value true (pair_column n a b) (noise_halves n k l w) ∙ noise_theorem w f

  -- an open system's row
  pub open_row_theorem : (h : List (Items × G)) (w : List (Key × G)) → All (λ t. Fits n t.0) h → All (λ t. FitsPair n t.0) w
      → value_at (pair_column n a b) (open_row_in halves (commutator_halves n k l h) (noise_halves n k l w))
      ≡ weighted (λ p. commutator n (letter_at p) k l a b) h ⊕ weighted (λ p. dissipator n (letter_at p.0) (letter_at p.1) k l a b) w
  open_row_theorem h w fh fw =
      open_row_in_value (pair_column n a b) (commutator_halves n k l h) (noise_halves n k l w) ∙ ap₂ ◌⊕◌ (commutator_theorem h fh) (noise_theorem w fw)
