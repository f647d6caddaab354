-- The inner product of two matrices over n spins, Tr(A† X), and of two matrices with a superoperator: both are linear.
-- Assumes nothing.
use mathlib.Core.Path.{◌≡◌, sym, ◌∙◌, ap, fun_ext}
use mathlib.Core.List.{List}
use Prim.Native.Nat.{ℕ, ◌^◌, ◌<◌}
use Rattle.letters.specs.Gauss.{G, ◌⊕◌, ◌⊗◌, conj}
use Rattle.letters.specs.Sums.{Σ}
use Rattle.letters.proofs.GaussLaws.{⊗_⊕, ⊗_comm, ⊗_left_comm}
use Rattle.letters.proofs.SumLaws.{Σ_cong, Σ_cong_below, Σ_add, Σ_scale}
use Rattle.terms.specs.Gaussian.{summed, weighted}
use Rattle.terms.proofs.SummedLaws.{summed_same, summed_scale, Σ_summed}

-- ---- two matrices

-- the sum over all rows and columns of conj A times X
unfoldable pub inner : ℕ → (ℕ → ℕ → G) → (ℕ → ℕ → G) → G
inner n A X = Σ (2 ^ n) (λ r. Σ (2 ^ n) (λ c. conj (A r c) ⊗ X r c))

module _ (n : ℕ) (A : ℕ → ℕ → G) where
  -- equal entries
  pub inner_cong : {X Y : ℕ → ℕ → G} → ((r c : ℕ) → X r c ≡ Y r c) → inner n A X ≡ inner n A Y
  inner_cong e = ap (inner n A) (fun_ext (λ r. fun_ext (e r)))

  -- equal entries below 2^n
  pub inner_below : (X Y : ℕ → ℕ → G) → ((r c : ℕ) → r < 2 ^ n → c < 2 ^ n → X r c ≡ Y r c) → inner n A X ≡ inner n A Y
  unfolding inner
  inner_below X Y e =
      Σ_cong_below (2 ^ n) (λ r. Σ (2 ^ n) (λ c. conj (A r c) ⊗ X r c)) (λ r. Σ (2 ^ n) (λ c. conj (A r c) ⊗ Y r c))
      (λ r hr. Σ_cong_below (2 ^ n) (λ c. conj (A r c) ⊗ X r c) (λ c. conj (A r c) ⊗ Y r c) (λ c hc. ap (λ u. conj (A r c) ⊗ u) (e r c hr hc)))

  -- a sum
  pub inner_add : (X Y : ℕ → ℕ → G) → inner n A (λ r c. X r c ⊕ Y r c) ≡ inner n A X ⊕ inner n A Y
  unfolding inner
  inner_add X Y =
      Σ_cong (2 ^ n) (λ r. Σ_cong (2 ^ n) (λ c. ⊗_⊕ (conj (A r c)) (X r c) (Y r c)) ∙ Σ_add (2 ^ n) (λ c. conj (A r c) ⊗ X r c) (λ c. conj (A r c) ⊗ Y r c))
      ∙ Σ_add (2 ^ n) (λ r. Σ (2 ^ n) (λ c. conj (A r c) ⊗ X r c)) (λ r. Σ (2 ^ n) (λ c. conj (A r c) ⊗ Y r c))

  -- a factor in front, and behind
  pub inner_scale : (x : G) (X : ℕ → ℕ → G) → inner n A (λ r c. x ⊗ X r c) ≡ x ⊗ inner n A X
  unfolding inner
  inner_scale x X =
      Σ_cong (2 ^ n) (λ r. Σ_cong (2 ^ n) (λ c. ⊗_left_comm (conj (A r c)) x (X r c)) ∙ Σ_scale (2 ^ n) x (λ c. conj (A r c) ⊗ X r c))
      ∙ Σ_scale (2 ^ n) x (λ r. Σ (2 ^ n) (λ c. conj (A r c) ⊗ X r c))

  pub inner_scale_r : (X : ℕ → ℕ → G) (x : G) → inner n A (λ r c. X r c ⊗ x) ≡ inner n A X ⊗ x
  inner_scale_r X x = inner_cong (λ r c. ⊗_comm (X r c) x) ∙ inner_scale x X ∙ ⊗_comm x (inner n A X)

  -- a sum over a list
  pub inner_summed : {T : Type 0} (h : T → ℕ → ℕ → G) (l : List T) → inner n A (λ r c. summed (λ x. h x r c) l) ≡ summed (λ x. inner n A (h x)) l
  unfolding inner
  inner_summed h l =
      Σ_cong (2 ^ n) (λ r. Σ_cong (2 ^ n) (λ c. sym (summed_scale (conj (A r c)) (λ x. h x r c) l)) ∙ Σ_summed (2 ^ n) (λ x c. conj (A r c) ⊗ h x r c) l)
      ∙ Σ_summed (2 ^ n) (λ x r. Σ (2 ^ n) (λ c. conj (A r c) ⊗ h x r c)) l

-- ---- two matrices with a superoperator

-- A over the row k and the column a, and B over l and b
unfoldable pub probe : ℕ → (ℕ → ℕ → G) → (ℕ → ℕ → G) → (ℕ → ℕ → ℕ → ℕ → G) → G
probe n A B E = inner n A (λ k a. inner n B (λ l b. E k l a b))

module _ (n : ℕ) (A B : ℕ → ℕ → G) where
  -- equal entries below 2^n
  pub probe_below : (E E' : ℕ → ℕ → ℕ → ℕ → G) → ((k l a b : ℕ) → k < 2 ^ n → l < 2 ^ n → a < 2 ^ n → b < 2 ^ n → E k l a b ≡ E' k l a b) → probe n A B E ≡ probe n A B E'
  unfolding probe
  probe_below E E' e =
      inner_below n A (λ k a. inner n B (λ l b. E k l a b)) (λ k a. inner n B (λ l b. E' k l a b))
      (λ k a hk ha. inner_below n B (λ l b. E k l a b) (λ l b. E' k l a b) (λ l b hl hb. e k l a b hk hl ha hb))

  -- a sum
  pub probe_add : (E E' : ℕ → ℕ → ℕ → ℕ → G) → probe n A B (λ k l a b. E k l a b ⊕ E' k l a b) ≡ probe n A B E ⊕ probe n A B E'
  unfolding probe
  probe_add E E' =
      inner_cong n A (λ k a. inner_add n B (λ l b. E k l a b) (λ l b. E' k l a b))
      ∙ inner_add n A (λ k a. inner n B (λ l b. E k l a b)) (λ k a. inner n B (λ l b. E' k l a b))

  -- a factor
  pub probe_scale : (x : G) (E : ℕ → ℕ → ℕ → ℕ → G) → probe n A B (λ k l a b. x ⊗ E k l a b) ≡ x ⊗ probe n A B E
  unfolding probe
  probe_scale x E = inner_cong n A (λ k a. inner_scale n B x (λ l b. E k l a b)) ∙ inner_scale n A x (λ k a. inner n B (λ l b. E k l a b))

  -- a sum over terms
  pub probe_weighted : {K : Type 0} (F : K → ℕ → ℕ → ℕ → ℕ → G) (t : List (K × G))
      → probe n A B (λ k l a b. weighted (λ x. F x k l a b) t) ≡ weighted (λ x. probe n A B (F x)) t
  unfolding probe
  probe_weighted {K} F t =
      inner_cong n A (λ k a. inner_summed n B (λ (x : K × G) l b. x.1 ⊗ F x.0 k l a b) t)
      ∙ inner_summed n A (λ (x : K × G) k a. inner n B (λ l b. x.1 ⊗ F x.0 k l a b)) t
      ∙ summed_same (λ (x : K × G). probe n A B (λ k l a b. x.1 ⊗ F x.0 k l a b)) (λ (x : K × G). x.1 ⊗ probe n A B (F x.0)) t (λ x. probe_scale x.1 (F x.0))

  -- a factor of k and a times one of l and b
  pub probe_tensor : (C D : ℕ → ℕ → G) → probe n A B (λ k l a b. C k a ⊗ D l b) ≡ inner n A C ⊗ inner n B D
  unfolding probe
  probe_tensor C D = inner_cong n A (λ k a. inner_scale n B (C k a) D) ∙ inner_scale_r n A C (inner n B D)
