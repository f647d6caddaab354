-- The entries of the master equation's superoperator, in halves: the matrix of the map that takes ρ to
--     -i (H ρ - ρ H) + Σ c (L ρ R† - 1/2 R† L ρ - 1/2 ρ R† L)
-- at row (k, l) and column (a, b). Lindblad 1976, On the generators of quantum dynamical semigroups; Gorini, Kossakowski,
-- Sudarshan 1976, Completely positive dynamical semigroups of N-level systems; document 01, `Rows`.
use Rattle.std.specs.Prelude.{ℕ, ◌^◌, cond, eqb}
use Rattle.letters.specs.Gauss.{G, 𝟘, 𝟙, −𝟙, i⁺, i⁻, ◌⊕◌, ◌⊗◌, conj}
use Rattle.letters.specs.Sums.{Σ}
use Rattle.letters.specs.Matrices.{pauli, decoherence, matrix}

-- [k = a]
unfoldable pub δ : ℕ → ℕ → G
δ k a = cond (eqb k a) 𝟙 𝟘

-- 2
unfoldable pub 𝟚 : G
𝟚 = 𝟙 ⊕ 𝟙

-- -i (P ρ - ρ P) of the Pauli product with the letters f, in halves: ρ(a, b) goes to P(k, a) [l = b] and [k = a] P(b, l)
unfoldable pub commutator : ℕ → (ℕ → ℕ) → ℕ → ℕ → ℕ → ℕ → G
commutator n f k l a b =
    𝟚 ⊗ i⁻ ⊗ (matrix pauli n f k a ⊗ δ l b) ⊕ 𝟚 ⊗ i⁺ ⊗ (δ k a ⊗ matrix pauli n f b l)

-- R† L at (k, a), of the decoherence products L with the letters f and R with the letters g
unfoldable pub adjoint_product : ℕ → (ℕ → ℕ) → (ℕ → ℕ) → ℕ → ℕ → G
adjoint_product n f g k a = Σ (2 ^ n) (λ m. conj (matrix decoherence n g m k) ⊗ matrix decoherence n f m a)

-- L ρ R† - 1/2 R† L ρ - 1/2 ρ R† L, in halves
unfoldable pub dissipator : ℕ → (ℕ → ℕ) → (ℕ → ℕ) → ℕ → ℕ → ℕ → ℕ → G
dissipator n f g k l a b =
    𝟚 ⊗ (matrix decoherence n f k a ⊗ conj (matrix decoherence n g l b))
    ⊕ (−𝟙 ⊗ (adjoint_product n f g k a ⊗ δ l b) ⊕ −𝟙 ⊗ (δ k a ⊗ adjoint_product n f g b l))
