-- What a Hamiltonian means, over Gaussian coefficients whose second parts are 0 and any n spins: its matrix is its own conjugate transpose,
-- and the conjugates of its terms are its terms.
-- Assumes nothing.
use Prim.Native.Nat.{ℕ, zero, suc}
use mathlib.Core.Path.{◌≡◌, refl, sym, ap, ap₂, ◌∙◌, fun_ext}
use mathlib.Core.Bool.{true}
use mathlib.Core.List.{List, [], ◌∷◌}
use lib.IntN.{pos, neg_ℤ}
use Rattle.refusal.specs.Refusals.{Said}
use Rattle.letters.specs.Gauss.{G, 𝟘, 𝟙, −𝟙, i⁺, i⁻, ◌⊗◌, conj, i^}
use Rattle.letters.specs.Sums.{Π}
use Rattle.letters.specs.Matrices.{two_by_two, pauli, bit, matrix}
use Rattle.letters.proofs.GaussLaws.{G_path, ⊗_𝟙, conj-conj, conj_⊗, conj-𝟘, conj-𝟙, conj-−𝟙, conj-i⁺, i^-zero}
use Rattle.letters.proofs.SumLaws.{conj_Π}
use Rattle.items.specs.Record.{valid, letter_at}
use Rattle.phases.specs.Answers.{conjugate_answer}
use Rattle.items.specs.declared.Items.{Items}
use Rattle.phases.proofs.ConjugateLaws.{pauli-conjugate}
use Rattle.terms.specs.Chains.{conjugate_terms}
use Rattle.terms.specs.Gaussian.{gaussian_products}
use Rattle.terms.proofs.KeyedLaws.{All, all_head, all_tail}
use Rattle.terms.proofs.SummedLaws.{summed-on, conj-summed}
use Rattle.term_sets.specs.Matrices.{gaussian_terms, matrix_of}

-- a coefficient's second part is 0
abbrev pub Real : G → Type 0
Real a = a.im ≡ pos 0

real_conj : (a : G) → Real a → conj a ≡ a
unfolding conj
real_conj a e = G_path refl (ap neg_ℤ e ∙ sym e)

-- ---- matrices

conj-i⁻ : conj i⁻ ≡ i⁺
conj-i⁻ = ap conj (sym conj-i⁺) ∙ conj-conj i⁺

-- a matrix of two rows that is its own conjugate transpose
own_adjoint : (p q r s : G) → conj p ≡ p → conj q ≡ r → conj r ≡ q → conj s ≡ s → (x y : ℕ) → conj (two_by_two p q r s y x) ≡ two_by_two p q r s x y
unfolding two_by_two
own_adjoint p q r s ep eq er es zero zero = ep
own_adjoint p q r s ep eq er es zero (suc y) = er
own_adjoint p q r s ep eq er es (suc x) zero = eq
own_adjoint p q r s ep eq er es (suc x) (suc y) = es

-- each Pauli letter is one
pauli-adjoint : (l x y : ℕ) → conj (pauli l y x) ≡ pauli l x y
unfolding pauli
pauli-adjoint zero = own_adjoint 𝟙 𝟘 𝟘 𝟙 conj-𝟙 conj-𝟘 conj-𝟘 conj-𝟙
pauli-adjoint (suc zero) = own_adjoint 𝟘 𝟙 𝟙 𝟘 conj-𝟘 conj-𝟙 conj-𝟙 conj-𝟘
pauli-adjoint (suc (suc zero)) = own_adjoint 𝟘 i⁻ i⁺ 𝟘 conj-𝟘 conj-i⁻ conj-i⁺ conj-𝟘
pauli-adjoint (suc (suc (suc c))) = own_adjoint 𝟙 𝟘 𝟘 −𝟙 conj-𝟙 conj-𝟘 conj-𝟘 conj-−𝟙

-- and so is the matrix of every Pauli product
pauli-matrix-adjoint : (n : ℕ) (f : ℕ → ℕ) (r c : ℕ) → conj (matrix pauli n f c r) ≡ matrix pauli n f r c
unfolding matrix
pauli-matrix-adjoint n f r c =
    conj_Π n (λ s. pauli (f s) (bit s c) (bit s r)) ∙ ap (Π n) (fun_ext (λ s. pauli-adjoint (f s) (bit s r) (bit s c)))

-- a Hamiltonian's matrix is its own conjugate transpose
pub hamiltonian-adjoint_theorem : (n : ℕ) (l : List (Items × G)) → All (λ t. Real t.1) l → (r c : ℕ) → matrix_of pauli n l r c ≡ conj (matrix_of pauli n l c r)
unfolding matrix_of
hamiltonian-adjoint_theorem n l h r c =
    summed-on (λ (t : Items × G). Real t.1) (λ (t : Items × G). t.1 ⊗ matrix pauli n (letter_at t.0) r c)
    (λ (t : Items × G). conj (t.1 ⊗ matrix pauli n (letter_at t.0) c r))
    (λ t e. sym (conj_⊗ t.1 (matrix pauli n (letter_at t.0) c r) ∙ ap₂ ◌⊗◌ (real_conj t.1 e) (pauli-matrix-adjoint n (letter_at t.0) r c))) l h
    ∙ sym (conj-summed (λ (t : Items × G). t.1 ⊗ matrix pauli n (letter_at t.0) c r) l)

-- ---- terms

-- the conjugates of a Hamiltonian's terms are its terms
pub conjugate_terms_own : (l : List (Items × G)) → All (λ t. (valid t.0 ≡ true) × Real t.1) l
    → conjugate_terms gaussian_terms gaussian_products (λ p. (conjugate_answer pauli p).1) l ≡ l
unfolding conjugate_terms
conjugate_terms_own [] h = refl
conjugate_terms_own (x ∷ l) h =
    let g = all_head (λ (t : Items × G). (valid t.0 ≡ true) × Real t.1) x l h in
    ap₂ (λ (y : Items × G) (m : List (Items × G)). y ∷ m)
    (ap (λ (z : ℕ × Items). (z.1, conj x.1 ⊗ i^ z.0)) (ap (λ (z : Said Unit × (ℕ × Items)). z.1) (pauli-conjugate x.0 g.0))
    ∙ ap (λ (a : G). (x.0, a)) (ap₂ ◌⊗◌ (real_conj x.1 g.1) i^-zero ∙ ⊗_𝟙 x.1))
    (conjugate_terms_own l (all_tail (λ (t : Items × G). (valid t.0 ≡ true) × Real t.1) x l h))
