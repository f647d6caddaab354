-- The matrix of a set of terms over n spins: the sum over its terms of coefficient times the product's matrix.
-- Document 01, `Operator row: sum of the terms' matrix entries`.
use Rattle.std.specs.Prelude.{ℕ, ◌≤◌, ◌≡◌, true, List}
use Rattle.letters.specs.Gauss.{G}
use Rattle.letters.specs.Matrices.{Letters, matrix}
use Rattle.items.specs.Record.{valid, letter_at, reach, same_items}
use Rattle.items.specs.declared.Items.{Items}
use Rattle.terms.specs.Kind.{Terms}
use Rattle.terms.specs.Gaussian.{gaussian, weighted}

-- sets of products with Gaussian coefficients
abbrev pub gaussian_terms : Terms Items G
gaussian_terms = gaussian Items same_items

-- the matrix at row r and column c
unfoldable pub matrix_of : Letters → ℕ → List (Items × G) → ℕ → ℕ → G
matrix_of M n l r c = weighted (λ p. matrix M n (letter_at p) r c) l

-- a valid product whose sites are below n
abbrev pub Fits : ℕ → Items → Type 0
Fits n p = (valid p ≡ true) × (reach p ≤ n)
