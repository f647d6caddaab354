-- Laws of the sum of a function over a list.
-- Assumes nothing.
use Prim.Native.Nat.{ℕ}
use mathlib.Core.Path.{◌≡◌, refl, sym, ap, ap₂, ◌∙◌}
use mathlib.Core.Bool.{Bool, true, false, cond}
use mathlib.Core.List.{List, [], ◌∷◌, ◌++◌, map}
use Rattle.letters.specs.Gauss.{G, 𝟘, ◌⊕◌, ◌⊗◌, conj}
use Rattle.letters.specs.Sums.{Σ}
use Rattle.letters.proofs.GaussLaws.{⊕_assoc, ⊕_𝟘, 𝟘_⊕, ⊗_⊕, ⊗_𝟘, ⊕_⊗, 𝟘_⊗, conj_⊕, conj-𝟘}
use Rattle.letters.proofs.SumLaws.{Σ_zero, Σ_add}
use Rattle.terms.specs.Keyed.{concat_map}
use Rattle.terms.specs.Gaussian.{summed}
use Rattle.terms.proofs.KeyedLaws.{All, all_head, all_tail, all_of, all_map}

module _ {A : Type 0} where
  -- over none, a first one and one
  pub summed_nil : (f : A → G) → summed f [] ≡ 𝟘
  unfolding summed
  summed_nil f = refl

  pub summed_cons : (f : A → G) (x : A) (l : List A) → summed f (x ∷ l) ≡ f x ⊕ summed f l
  unfolding summed
  summed_cons f x l = refl

  pub summed_one : (f : A → G) (x : A) → summed f (x ∷ []) ≡ f x
  unfolding summed
  summed_one f x = ⊕_𝟘 (f x)

  -- equal values of the list's elements
  pub summed_cong : (f g : A → G) (l : List A) → All (λ x. f x ≡ g x) l → summed f l ≡ summed g l
  unfolding summed
  summed_cong f g [] h = refl
  summed_cong f g (x ∷ l) h = ap₂ ◌⊕◌ (all_head (λ x. f x ≡ g x) x l h) (summed_cong f g l (all_tail (λ x. f x ≡ g x) x l h))

  -- equal values of elements with a property that the list's have
  pub summed-on : (P : A → Type 0) (f g : A → G) → ((x : A) → P x → f x ≡ g x) → (l : List A) → All P l → summed f l ≡ summed g l
  summed-on P f g e l h = summed_cong f g l (all_map P (λ x. f x ≡ g x) e l h)

  -- equal values of all
  pub summed_same : (f g : A → G) (l : List A) → ((x : A) → f x ≡ g x) → summed f l ≡ summed g l
  summed_same f g l h = summed_cong f g l (all_of (λ x. f x ≡ g x) h l)

  -- over two parts
  pub summed_append : (f : A → G) (l r : List A) → summed f (l ++ r) ≡ summed f l ⊕ summed f r
  unfolding summed
  summed_append f [] r = sym (𝟘_⊕ (summed f r))
  summed_append f (x ∷ l) r = ap (λ y. f x ⊕ y) (summed_append f l r) ∙ sym (⊕_assoc (f x) (summed f l) (summed f r))

  -- a sum of zeros
  pub summed-zero : (l : List A) → summed (λ x. 𝟘) l ≡ 𝟘
  unfolding summed
  summed-zero [] = refl
  summed-zero (x ∷ l) = 𝟘_⊕ (summed (λ x. 𝟘) l) ∙ summed-zero l

  -- a common factor in front
  pub summed_scale : (c : G) (f : A → G) (l : List A) → summed (λ x. c ⊗ f x) l ≡ c ⊗ summed f l
  unfolding summed
  summed_scale c f [] = sym (⊗_𝟘 c)
  summed_scale c f (x ∷ l) = ap (λ y. c ⊗ f x ⊕ y) (summed_scale c f l) ∙ sym (⊗_⊕ c (f x) (summed f l))

  -- a common factor behind
  pub summed_scale_r : (c : G) (f : A → G) (l : List A) → summed (λ x. f x ⊗ c) l ≡ summed f l ⊗ c
  unfolding summed
  summed_scale_r c f [] = sym (𝟘_⊗ c)
  summed_scale_r c f (x ∷ l) = ap (λ y. f x ⊗ c ⊕ y) (summed_scale_r c f l) ∙ sym (⊕_⊗ (f x) (summed f l) c)

  -- the conjugate of a sum
  pub conj-summed : (f : A → G) (l : List A) → conj (summed f l) ≡ summed (λ x. conj (f x)) l
  unfolding summed
  conj-summed f [] = conj-𝟘
  conj-summed f (x ∷ l) = conj_⊕ (f x) (summed f l) ∙ ap (λ y. conj (f x) ⊕ y) (conj-summed f l)

  -- a sum over numbers and one over a list in either order
  pub Σ_summed : (N : ℕ) (h : A → ℕ → G) (l : List A) → Σ N (λ m. summed (λ x. h x m) l) ≡ summed (λ x. Σ N (h x)) l
  unfolding summed
  Σ_summed N h [] = Σ_zero N
  Σ_summed N h (x ∷ l) = Σ_add N (h x) (λ m. summed (λ x. h x m) l) ∙ ap (λ y. Σ N (h x) ⊕ y) (Σ_summed N h l)

  -- a list of one or none
  pub summed_cond : (f : A → G) (b : Bool) (x : A) → summed f (cond b (x ∷ []) []) ≡ cond b (f x) 𝟘
  summed_cond f true x = summed_one f x
  summed_cond f false x = summed_nil f

module _ {A B : Type 0} where
  -- over results
  pub summed-map : (f : B → G) (g : A → B) (l : List A) → summed f (map g l) ≡ summed (λ x. f (g x)) l
  unfolding summed
  summed-map f g [] = refl
  summed-map f g (x ∷ l) = ap (λ y. f (g x) ⊕ y) (summed-map f g l)

  -- over results one after the other
  pub summed-concat_map : (f : B → G) (g : A → List B) (l : List A) → summed f (concat_map g l) ≡ summed (λ x. summed f (g x)) l
  unfolding summed concat_map
  summed-concat_map f g [] = refl
  summed-concat_map f g (x ∷ l) = summed_append f (g x) (concat_map g l) ∙ ap (λ y. summed f (g x) ⊕ y) (summed-concat_map f g l)
