-- Letters as 2 by 2 matrices, and the matrix of a lettering over n spins.
-- Nielsen and Chuang, Quantum Computation and Quantum Information, section 2.1.3 (the Pauli matrices) and 2.1.7 (tensor products);
-- document 01, `Rows`.
use Rattle.std.specs.Prelude.{ℕ, zero, suc, ◌/◌, ◌%◌, ◌^◌}
use Rattle.letters.specs.Gauss.{G, 𝟘, 𝟙, −𝟙, i⁺, i⁻, ◌⊕◌, ◌⊗◌, conj}
use Rattle.letters.specs.Sums.{Π}
use Rattle.letters.specs.declared.Kind.{Kind}
use Rattle.letters.specs.declared.Kind.TheVariants.{Pauli, Decoherence}

-- the 2 by 2 matrix with rows (p, q) and (r, s), at row x and column y
unfoldable pub two_by_two : G → G → G → G → ℕ → ℕ → G
two_by_two p q r s zero zero = p
two_by_two p q r s zero (suc y) = q
two_by_two p q r s (suc x) zero = r
two_by_two p q r s (suc x) (suc y) = s

-- a kind of letters: for each code, row and column the entry of the letter's matrix
abbrev pub Letters : Type 0
Letters = ℕ → ℕ → ℕ → G

-- 0 identity, 1 X, 2 Y, 3 Z
unfoldable pub pauli : Letters
pauli zero = two_by_two 𝟙 𝟘 𝟘 𝟙
pauli (suc zero) = two_by_two 𝟘 𝟙 𝟙 𝟘
pauli (suc (suc zero)) = two_by_two 𝟘 i⁻ i⁺ 𝟘
pauli (suc (suc (suc c))) = two_by_two 𝟙 𝟘 𝟘 −𝟙

-- 0 identity, 1 X, 2 iY, 3 Z: document 01, `iY is rows (0, 1) and (-1, 0)`
unfoldable pub decoherence : Letters
decoherence zero = two_by_two 𝟙 𝟘 𝟘 𝟙
decoherence (suc zero) = two_by_two 𝟘 𝟙 𝟙 𝟘
decoherence (suc (suc zero)) = two_by_two 𝟘 𝟙 −𝟙 𝟘
decoherence (suc (suc (suc c))) = two_by_two 𝟙 𝟘 𝟘 −𝟙

-- the letters of a kind
unfoldable pub letters_of : Kind → Letters
letters_of Pauli = pauli
letters_of Decoherence = decoherence

-- bit s of k
unfoldable pub bit : ℕ → ℕ → ℕ
bit s k = k / 2 ^ s % 2

-- the matrix of a lettering (a letter code for each spin): the product over spins 0 to n - 1 of the letters' entries at their bits
unfoldable pub matrix : Letters → ℕ → (ℕ → ℕ) → ℕ → ℕ → G
matrix M n f r c = Π n (λ s. M (f s) (bit s r) (bit s c))

-- the product of two 2 by 2 matrices
unfoldable pub product : (ℕ → ℕ → G) → (ℕ → ℕ → G) → ℕ → ℕ → G
product A B x y = A x 0 ⊗ B 0 y ⊕ A x 1 ⊗ B 1 y

-- the conjugate transpose
unfoldable pub adjoint : (ℕ → ℕ → G) → ℕ → ℕ → G
adjoint A x y = conj (A y x)
