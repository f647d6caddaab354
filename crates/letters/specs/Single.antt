-- One site: the product of two letters, a letter's conjugate and its conversion, found from the matrices alone.
use Rattle.std.specs.Prelude.{ℕ, ◌/◌, ◌%◌, Bool}
use Rattle.letters.specs.Tests.{every, first_from}
use Rattle.letters.specs.Gauss.{G, ◌⊗◌, i^, eq_G}
use Rattle.letters.specs.Matrices.{Letters, product, adjoint}

-- two 2 by 2 matrices are the same
unfoldable pub same : (ℕ → ℕ → G) → (ℕ → ℕ → G) → Bool
same A B = every 2 (λ x. every 2 (λ y. eq_G (A x y) (B x y)))

-- i^k times a matrix
unfoldable pub scaled : ℕ → (ℕ → ℕ → G) → ℕ → ℕ → G
scaled k A x y = i^ k ⊗ A x y

-- a matrix as a power of i times a letter: 4 k + c for the first of the sixteen with A = i^k M(c)
unfoldable pub as_letter : Letters → (ℕ → ℕ → G) → ℕ
as_letter M A = first_from (λ e. same A (scaled (e / 4) (M (e % 4)))) 16 0

abbrev pub letter_of : ℕ → ℕ
letter_of e = e % 4

abbrev pub power_of : ℕ → ℕ
power_of e = e / 4

-- the product of two letters
unfoldable pub times : Letters → ℕ → ℕ → ℕ
times M l r = as_letter M (product (M l) (M r))

-- the conjugate transpose of a letter
unfoldable pub conjugated : Letters → ℕ → ℕ
conjugated M l = as_letter M (adjoint (M l))

-- a letter of the kind M in the letters of the kind M'
unfoldable pub converted : Letters → Letters → ℕ → ℕ
converted M M' l = as_letter M' (M l)

-- the entry of a letter's row x that is not zero: 2 k + y for the first of the eight with M(l)(x, y) = i^k
unfoldable pub cell : Letters → ℕ → ℕ → ℕ
cell M l x = first_from (λ e. eq_G (M l x (e % 2)) (i^ (e / 2))) 8 0
