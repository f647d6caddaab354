-- What the chains on sets mean, over Gaussian coefficients and any n spins above every site: the product of matrices, the conjugate transpose,
-- the same matrix in other letters, a multiple, and for setting and adding what they say. The chains are those that the entries run on f64.
-- Assumes nothing.
use mathlib.Core.Path.{◌≡◌, sym, ap, ◌∙◌}
use mathlib.Core.Bool.{true}
use mathlib.Core.List.{List, [], map}
use Prim.Native.Nat.{ℕ, ◌^◌}
use native.Mathlib.Nat.{max-le}
use Rattle.refusal.specs.Refusals.{gives}
use Rattle.letters.specs.Gauss.{G, ◌⊕◌, ◌⊗◌, conj}
use Rattle.letters.specs.Sums.{Σ}
use Rattle.letters.specs.Matrices.{Letters, letters_of, matrix}
use Rattle.letters.specs.Answers.{other}
use Rattle.letters.specs.declared.Kind.{Kind}
use Rattle.letters.proofs.GaussLaws.{𝟘_⊕}
use Rattle.items.specs.Record.{letter_at, same_items}
use Rattle.merging.specs.ProductAnswers.{multiply_answer}
use Rattle.phases.specs.Answers.{conjugate_answer, convert_answer}
use Rattle.items.specs.declared.Items.{Items}
use Rattle.items.proofs.SameLaws.{same-equal}
use Rattle.products.proofs.ProductTheorems.{multiply_theorem, conjugate_theorem, convert_theorem}
use Rattle.terms.specs.Gaussian.{gaussian_products, weighted, summed}
use Rattle.terms.specs.Setting.{coefficient_at, write, added, add_all}
use Rattle.terms.specs.Chains.{given, times_steps, conjugate_terms, convert_terms, scaled_terms}
use Rattle.terms.proofs.KeyedLaws.{All}
use Rattle.terms.proofs.StepLaws.{times_terms, times-given}
use Rattle.terms.proofs.Totals.{weighted-write, weighted-added, weighted-add_all, weighted-times, weighted-product, weighted-conjugate, weighted-convert, weighted-scaled}
use Rattle.term_sets.specs.Matrices.{gaussian_terms, matrix_of, Fits}
use Rattle.chains.proofs.StepLaws.{multiply-done, conjugate-done, convert-done}

-- equal products have equal matrices
respects : (M : Letters) (n r c : ℕ) (p q : Items) → same_items p q ≡ true → matrix M n (letter_at p) r c ≡ matrix M n (letter_at q) r c
respects M n r c p q e = ap (λ (p : Items). matrix M n (letter_at p) r c) (same-equal p q e)

-- ---- setting and adding

-- a coefficient put under a key takes the place of the old one
pub write_theorem : (M : Letters) (n : ℕ) (k : Items) (a : G) (l : List (Items × G)) (r c : ℕ)
    → matrix_of M n (write gaussian_terms k a l) r c ⊕ coefficient_at gaussian_terms k l ⊗ matrix M n (letter_at k) r c ≡ matrix_of M n l r c ⊕ a ⊗ matrix M n (letter_at k) r c
unfolding matrix_of
write_theorem M n k a l r c = weighted-write same_items (λ p. matrix M n (letter_at p) r c) (respects M n r c) k a l

-- a coefficient added under a key adds its multiple of the product's matrix
pub add_theorem : (M : Letters) (n : ℕ) (k : Items) (a : G) (l : List (Items × G)) (r c : ℕ)
    → matrix_of M n (write gaussian_terms k (added gaussian_terms k a l) l) r c ≡ matrix_of M n l r c ⊕ a ⊗ matrix M n (letter_at k) r c
unfolding matrix_of
add_theorem M n k a l r c = weighted-added same_items (λ p. matrix M n (letter_at p) r c) (respects M n r c) k a l

-- terms added to the empty set, one after the other, have the matrix of the terms; so a Hamiltonian keeps its matrix as an operator
-- (`into_operator`)
pub added_terms_theorem : (M : Letters) (n : ℕ) (ts x : List (Items × G)) → add_all gaussian_terms (map gives ts) [] ≡ gives x → (r c : ℕ)
    → matrix_of M n x r c ≡ matrix_of M n ts r c
unfolding matrix_of summed
added_terms_theorem M n ts x e r c =
    weighted-add_all same_items (λ p. matrix M n (letter_at p) r c) (respects M n r c) ts [] x e ∙ 𝟘_⊕ (weighted (λ p. matrix M n (letter_at p) r c) ts)

-- ---- chains

module _ (kind : Kind) (n : ℕ) where
  abbrev M : Letters
  M = letters_of kind

  -- no product of valid ones is refused
  terms_only : (l t : List (Items × G)) → All (λ y. Fits n y.0) l → All (λ y. Fits n y.0) t
      → times_steps gaussian_terms gaussian_products (λ p q. given (multiply_answer M p q)) l t ≡ map gives (times_terms gaussian_terms gaussian_products (λ p q. (multiply_answer M p q).1) l t)
  terms_only =
      times-given gaussian_terms gaussian_products (λ p q. given (multiply_answer M p q)) (λ p q. (multiply_answer M p q).1) (Fits n) (λ p q hp hq. ap given (multiply-done M p q hp.0 hq.0))

  -- the product of two sets has the product of their matrices
  pub times_theorem : (l t x : List (Items × G)) → All (λ y. Fits n y.0) l → All (λ y. Fits n y.0) t
      → add_all gaussian_terms (times_steps gaussian_terms gaussian_products (λ p q. given (multiply_answer M p q)) l t) [] ≡ gives x → (r c : ℕ)
      → matrix_of M n x r c ≡ Σ (2 ^ n) (λ m. matrix_of M n l r m ⊗ matrix_of M n t m c)
  times_theorem l t x hl ht e r c =
      added_terms_theorem M n (times_terms gaussian_terms gaussian_products (λ p q. (multiply_answer M p q).1) l t) x (ap (λ s. add_all gaussian_terms s []) (sym (terms_only l t hl ht)) ∙ e) r c
      ∙ (unfold matrix_of in
      weighted-times same_items (λ p. matrix M n (letter_at p) r c) (Fits n) (λ p q. (multiply_answer M p q).1) (λ p q. Σ (2 ^ n) (λ m. matrix M n (letter_at p) r m ⊗ matrix M n (letter_at q) m c))
      (λ p q hp hq.
      sym (multiply_theorem kind p q _ _ (multiply-done M p q hp.0 hq.0) n (max-le hp.1 hq.1) r c))
      l t hl ht
      ∙ sym (weighted-product (2 ^ n) (λ p m. matrix M n (letter_at p) r m) (λ q m. matrix M n (letter_at q) m c) l t))

  -- the conjugate of a set has the conjugate transpose of its matrix
  pub conjugate_set_theorem : (l x : List (Items × G)) → All (λ y. Fits n y.0) l
      → add_all gaussian_terms (map gives (conjugate_terms gaussian_terms gaussian_products (λ p. (conjugate_answer M p).1) l)) [] ≡ gives x → (r c : ℕ)
      → matrix_of M n x r c ≡ conj (matrix_of M n l c r)
  conjugate_set_theorem l x hl e r c =
      added_terms_theorem M n (conjugate_terms gaussian_terms gaussian_products (λ p. (conjugate_answer M p).1) l) x e r c
      ∙ (unfold matrix_of in
      weighted-conjugate same_items (λ p. matrix M n (letter_at p) r c) (Fits n) (λ p. (conjugate_answer M p).1) (λ p. matrix M n (letter_at p) c r)
      (λ p hp. sym (conjugate_theorem kind p _ _ (conjugate-done M p hp.0) n hp.1 r c)) l hl)

  -- a set in letters of the other kind has the same matrix
  pub convert_set_theorem : (l x : List (Items × G)) → All (λ y. Fits n y.0) l
      → add_all gaussian_terms (map gives (convert_terms gaussian_terms gaussian_products (λ p. (convert_answer M (letters_of (other kind)) p).1) l)) [] ≡ gives x → (r c : ℕ)
      → matrix_of (letters_of (other kind)) n x r c ≡ matrix_of M n l r c
  convert_set_theorem l x hl e r c =
      added_terms_theorem (letters_of (other kind)) n (convert_terms gaussian_terms gaussian_products (λ p. (convert_answer M (letters_of (other kind)) p).1) l) x e r c
      ∙ (unfold matrix_of in
      weighted-convert same_items (λ p. matrix (letters_of (other kind)) n (letter_at p) r c) (Fits n) (λ p. (convert_answer M (letters_of (other kind)) p).1)
      (λ p. matrix M n (letter_at p) r c)
      (λ p hp. sym (convert_theorem kind p _ _ (convert-done M (letters_of (other kind)) p hp.0) n hp.1 r c)) l hl)

-- every coefficient times a number: the matrix times the number
pub scale_theorem : (M : Letters) (n : ℕ) (a : G) (l : List (Items × G)) (r c : ℕ)
    → matrix_of M n (scaled_terms gaussian_terms gaussian_products a l) r c ≡ a ⊗ matrix_of M n l r c
unfolding matrix_of
scale_theorem M n a l r c = weighted-scaled same_items (λ p. matrix M n (letter_at p) r c) a l
