-- What setting, adding and full operators mean for noise sets, over Gaussian coefficients: for any value of a pair (an entry of its
-- dissipator, say), the sum over the set's terms of coefficient times value.
-- Assumes nothing.
use mathlib.Core.Path.{◌≡◌, ap, ◌∙◌}
use mathlib.Core.Bool.{true, not, ◌&&◌, cond}
use mathlib.Core.List.{List, map}
use Rattle.refusal.specs.Refusals.{gives}
use Rattle.letters.specs.Gauss.{G, 𝟘, ◌⊕◌, ◌⊗◌, conj}
use Rattle.items.specs.Record.{same_items, same_key}
use Rattle.items.specs.declared.Items.{Items}
use Rattle.items.proofs.SameLaws.{same_key-equal}
use Rattle.terms.specs.Gaussian.{gaussian, gaussian_products, weighted, summed}
use Rattle.terms.specs.Kind.{Terms}
use Rattle.terms.specs.Setting.{coefficient_at, write, added, add_all}
use Rattle.terms.specs.Chains.{full_terms}
use Rattle.terms.proofs.Totals.{weighted-write, weighted-added, weighted-add_all, weighted-pairs}
use Rattle.term_sets.specs.Matrices.{gaussian_terms}
use Rattle.noise_sets.specs.Pairs.{Key, is_empty}

-- noise sets with Gaussian coefficients
abbrev pub gaussian_pairs : Terms Key G
gaussian_pairs = gaussian Key same_key

module _ (φ : Key → G) where
  respects : (x y : Key) → same_key x y ≡ true → φ x ≡ φ y
  respects x y e = ap φ (same_key-equal x y e)

  -- a coefficient put under a pair takes the place of the old one
  pub write_theorem : (k : Key) (a : G) (l : List (Key × G)) → weighted φ (write gaussian_pairs k a l) ⊕ coefficient_at gaussian_pairs k l ⊗ φ k ≡ weighted φ l ⊕ a ⊗ φ k
  write_theorem = weighted-write same_key φ respects

  -- a coefficient added under a pair adds its multiple of the pair's value
  pub add_theorem : (k : Key) (a : G) (l : List (Key × G)) → weighted φ (write gaussian_pairs k (added gaussian_pairs k a l) l) ≡ weighted φ l ⊕ a ⊗ φ k
  add_theorem = weighted-added same_key φ respects

  -- full operators add, over the pairs of terms whose products are not empty, (conjugate of right, times left), times value
  pub full_theorem : (v : G) (l r : List (Items × G)) (s x : List (Key × G))
      → add_all gaussian_pairs (map gives (full_terms gaussian_terms gaussian_pairs gaussian_products is_empty v l r)) s ≡ gives x
      → weighted φ x
      ≡ weighted φ s ⊕ summed (λ (y : Items × G). summed (λ (z : Items × G). cond (not (is_empty y.0) && not (is_empty z.0)) (((conj z.1 ⊗ y.1) ⊗ v) ⊗ φ (y.0, z.0)) 𝟘) r) l
  full_theorem v l r s x e =
      weighted-add_all same_key φ respects (full_terms gaussian_terms gaussian_pairs gaussian_products is_empty v l r) s x e
      ∙ ap (λ (g : G). weighted φ s ⊕ g) (weighted-pairs same_items same_key φ is_empty v l r)
