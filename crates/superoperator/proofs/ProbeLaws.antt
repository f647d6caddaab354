-- Two matrices with a commutator and with a dissipator: where a matrix has no trace, the parts with the identity on its side drop out.
-- Assumes nothing.
use mathlib.Core.Path.{◌≡◌, ◌∙◌, ap, ap₂}
use Prim.Native.Nat.{ℕ}
use Rattle.letters.specs.Gauss.{G, 𝟘, −𝟙, i⁺, i⁻, ◌⊕◌, ◌⊗◌, conj}
use Rattle.letters.specs.Matrices.{pauli, decoherence, matrix}
use Rattle.letters.proofs.GaussLaws.{ring}
use Rattle.master_equation.specs.Equation.{δ, 𝟚, commutator, adjoint_product, dissipator}
use Rattle.master_equation.proofs.SparseLaws.{decoherence_real}
use Rattle.superoperator.proofs.InnerLaws.{inner, inner_cong, probe, probe_add, probe_scale, probe_tensor}

module _ (n : ℕ) (A B : ℕ → ℕ → G) (noneA : inner n A δ ≡ 𝟘) where
  pub probe_commutator : (f : ℕ → ℕ) → probe n A B (commutator n f) ≡ 𝟚 ⊗ i⁻ ⊗ (inner n A (matrix pauli n f) ⊗ inner n B δ)
  unfolding commutator
  probe_commutator f =
      let P = matrix pauli n f in
      let right : ℕ → ℕ → G = λ l b. P b l in
      probe_add n A B (λ k l a b. 𝟚 ⊗ i⁻ ⊗ (P k a ⊗ δ l b)) (λ k l a b. 𝟚 ⊗ i⁺ ⊗ (δ k a ⊗ P b l))
      ∙ ap₂ ◌⊕◌
      (probe_scale n A B (𝟚 ⊗ i⁻) (λ k l a b. P k a ⊗ δ l b) ∙ ap (λ u. 𝟚 ⊗ i⁻ ⊗ u) (probe_tensor n A B P δ))
      (probe_scale n A B (𝟚 ⊗ i⁺) (λ k l a b. δ k a ⊗ P b l) ∙ ap (λ u. 𝟚 ⊗ i⁺ ⊗ u) (probe_tensor n A B δ right ∙ ap (λ u. u ⊗ inner n B right) noneA))
      ∙ drop (𝟚 ⊗ i⁻ ⊗ (inner n A P ⊗ inner n B δ)) (𝟚 ⊗ i⁺) (inner n B right)
    where
      drop : (x t y : G) → x ⊕ t ⊗ (𝟘 ⊗ y) ≡ x
      drop x t y = simp ring

  pub probe_dissipator : inner n B δ ≡ 𝟘 → (f g : ℕ → ℕ) → probe n A B (dissipator n f g) ≡ 𝟚 ⊗ (inner n A (matrix decoherence n f) ⊗ inner n B (matrix decoherence n g))
  unfolding dissipator
  probe_dissipator noneB f g =
      let L = matrix decoherence n f in
      let R : ℕ → ℕ → G = λ l b. conj (matrix decoherence n g l b) in
      let S = adjoint_product n f g in
      let right : ℕ → ℕ → G = λ l b. S b l in
      probe_add n A B (λ k l a b. 𝟚 ⊗ (L k a ⊗ R l b)) (λ k l a b. −𝟙 ⊗ (S k a ⊗ δ l b) ⊕ −𝟙 ⊗ (δ k a ⊗ S b l))
      ∙ ap₂ ◌⊕◌
      (probe_scale n A B 𝟚 (λ k l a b. L k a ⊗ R l b) ∙ ap (λ u. 𝟚 ⊗ u) (probe_tensor n A B L R ∙ ap (λ u. inner n A L ⊗ u) (inner_cong n B (decoherence_real n g))))
      (probe_add n A B (λ k l a b. −𝟙 ⊗ (S k a ⊗ δ l b)) (λ k l a b. −𝟙 ⊗ (δ k a ⊗ S b l))
      ∙ ap₂ ◌⊕◌
      (probe_scale n A B −𝟙 (λ k l a b. S k a ⊗ δ l b) ∙ ap (λ u. −𝟙 ⊗ u) (probe_tensor n A B S δ ∙ ap (λ u. inner n A S ⊗ u) noneB))
      (probe_scale n A B −𝟙 (λ k l a b. δ k a ⊗ S b l) ∙ ap (λ u. −𝟙 ⊗ u) (probe_tensor n A B δ right ∙ ap (λ u. u ⊗ inner n B right) noneA)))
      ∙ drop (𝟚 ⊗ (inner n A L ⊗ inner n B (matrix decoherence n g))) −𝟙 (inner n A S) (inner n B right)
    where
      drop : (x m y z : G) → x ⊕ (m ⊗ (y ⊗ 𝟘) ⊕ m ⊗ (𝟘 ⊗ z)) ≡ x
      drop x m y z = simp ring
