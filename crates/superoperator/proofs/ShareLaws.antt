-- Lists of terms with Gaussian coefficients, in which no key comes twice: what they hold under each key decides every sum over them.
-- A key's share of a list is the sum of the coefficients under it. For any kind of key with a test of equality.
-- Assumes nothing.
use mathlib.Core.Path.{◌≡◌, refl, sym, ◌∙◌, ap, ap₂, subst}
use mathlib.Core.Bool.{Bool, true, false, not, ◌||◌, cond, true≢false}
use mathlib.Core.List.{List, [], ◌∷◌}
use borrow.Author.Tests.{not-true}
use Rattle.letters.specs.Gauss.{G, 𝟘, 𝟙, ◌⊕◌, ◌⊗◌, eq_G}
use Rattle.letters.proofs.GaussLaws.{⊕_comm, ⊕_𝟘, 𝟘_⊕, ⊗_𝟘, ⊗_𝟙, 𝟘_⊗, ⊕_cancel, eq_G-same}
use Rattle.terms.specs.Keyed.{has, held, each, head_or}
use Rattle.terms.specs.Setting.{keyed, coefficient_at, write}
use Rattle.terms.specs.Gaussian.{gaussian, summed, weighted}
use Rattle.terms.proofs.KeyedLaws.{each_head, each_tail, by_test}
use Rattle.terms.proofs.SettingLaws.{different, alike_by, keys-write}
use Rattle.terms.proofs.Totals.{weighted-write}
use Rattle.superoperator.specs.Systems.{SameTerms, SoundTerms}

module _ {K : Type 0} (same : K → K → Bool) where
  -- the sum of the coefficients under k
  abbrev pub share : K → List (K × G) → G
  share k l = weighted (λ j. cond (same j k) 𝟙 𝟘) l

  -- where the key is nowhere
  pub share_absent : (k : K) (l : List (K × G)) → has (keyed (gaussian K same) k) l ≡ false → share k l ≡ 𝟘
  unfolding has summed
  share_absent k [] e = refl
  share_absent k (x ∷ xs) e = go (same x.0 k) e (share_absent k xs)
    where
      go : (b : Bool) → (b || has (keyed (gaussian K same) k) xs) ≡ false → (has (keyed (gaussian K same) k) xs ≡ false → share k xs ≡ 𝟘) → x.1 ⊗ cond b 𝟙 𝟘 ⊕ share k xs ≡ 𝟘
      go true p r = absurd (true≢false p)
      go false p r = ap₂ ◌⊕◌ (⊗_𝟘 x.1) (r p) ∙ 𝟘_⊕ 𝟘

  -- a key is there exactly where its coefficient is not zero, if no coefficient is zero
  has-coefficient : (k : K) (l : List (K × G)) → each (λ t ts. not (eq_G t.1 𝟘)) l ≡ true
      → has (keyed (gaussian K same) k) l ≡ not (eq_G (coefficient_at (gaussian K same) k l) 𝟘)
  unfolding has coefficient_at held head_or
  has-coefficient k [] e = ap not (sym (eq_G-same 𝟘))
  has-coefficient k (x ∷ xs) e = go (same x.0 k) (has-coefficient k xs (each_tail (λ t ts. not (eq_G t.1 𝟘)) x xs e))
    where
      go : (b : Bool) → has (keyed (gaussian K same) k) xs ≡ not (eq_G (coefficient_at (gaussian K same) k xs) 𝟘)
          → (b || has (keyed (gaussian K same) k) xs) ≡ not (eq_G (head_or (λ (t : K × G). t.1) 𝟘 (cond b (x ∷ []) (held (keyed (gaussian K same) k) xs))) 𝟘)
      go true r = sym (each_head (λ t ts. not (eq_G t.1 𝟘)) x xs e)
      go false r = r

module _ {K : Type 0} (same : K → K → Bool) (itself : (k : K) → same k k ≡ true) (equal : (x y : K) → same x y ≡ true → x ≡ y) where
  -- a list in which no key comes twice
  abbrev Different : List (K × G) → Type 0
  Different l = each (different (gaussian K same)) l ≡ true

  -- the coefficient under a key is its share
  pub coefficient_share : (k : K) (l : List (K × G)) → Different l → coefficient_at (gaussian K same) k l ≡ share same k l
  unfolding coefficient_at held head_or summed
  coefficient_share k [] d = refl
  coefficient_share k (x ∷ xs) d = go (same x.0 k) refl (coefficient_share k xs (each_tail (different (gaussian K same)) x xs d))
    where
      alone : same x.0 k ≡ true → share same k xs ≡ 𝟘
      alone e =
          share_absent same k xs
          (subst (λ (j : K). has (keyed (gaussian K same) j) xs ≡ false) (equal x.0 k e)
          (not-true (has (keyed (gaussian K same) x.0) xs) (each_head (different (gaussian K same)) x xs d)))

      go : (b : Bool) → same x.0 k ≡ b → coefficient_at (gaussian K same) k xs ≡ share same k xs
          → head_or (λ (t : K × G). t.1) 𝟘 (cond b (x ∷ []) (held (keyed (gaussian K same) k) xs)) ≡ x.1 ⊗ cond b 𝟙 𝟘 ⊕ share same k xs
      go true e r = sym (ap₂ ◌⊕◌ (⊗_𝟙 x.1) (alone e) ∙ ⊕_𝟘 x.1)
      go false e r = r ∙ sym (ap (λ u. u ⊕ share same k xs) (⊗_𝟘 x.1) ∙ 𝟘_⊕ (share same k xs))

  -- so the first term has its key's share
  first_share : (x : K × G) (xs : List (K × G)) → Different (x ∷ xs) → share same x.0 (x ∷ xs) ≡ x.1
  first_share x xs d = sym (coefficient_share x.0 (x ∷ xs) d) ∙ first
    where
      first : coefficient_at (gaussian K same) x.0 (x ∷ xs) ≡ x.1
      first = unfold coefficient_at held head_or in ap (λ t. head_or (λ (t : K × G). t.1) 𝟘 (cond t (x ∷ []) (held (keyed (gaussian K same) x.0) xs))) (itself x.0)

  -- ---- the shares decide every sum

  -- where each share is zero
  none_left : (m : List (K × G)) → Different m → ((k : K) → share same k m ≡ 𝟘) → (φ : K → G) → weighted φ m ≡ 𝟘
  unfolding summed
  none_left [] d e φ = refl
  none_left (y ∷ ys) d e φ =
      drops φ ∙ none_left ys (each_tail (different (gaussian K same)) y ys d) (λ k. sym (drops (λ j. cond (same j k) 𝟙 𝟘)) ∙ e k) φ
    where
      drops : (ψ : K → G) → weighted ψ (y ∷ ys) ≡ weighted ψ ys
      drops ψ = ap (λ u. u ⊗ ψ y.0 ⊕ weighted ψ ys) (sym (first_share y ys d) ∙ e y.0) ∙ ap (λ u. u ⊕ weighted ψ ys) (𝟘_⊗ (ψ y.0)) ∙ 𝟘_⊕ (weighted ψ ys)

  -- equal shares give equal sums: the first term of the one list is struck from both
  pub same_sums : (l m : List (K × G)) → Different l → Different m → ((k : K) → share same k l ≡ share same k m) → (φ : K → G) → weighted φ l ≡ weighted φ m
  unfolding summed
  same_sums [] m dl dm e φ = sym (none_left m dm (λ k. sym (e k)) φ)
  same_sums (x ∷ xs) m dl dm e φ =
      ap (λ u. x.1 ⊗ φ x.0 ⊕ u)
      (same_sums xs rest (each_tail (different (gaussian K same)) x xs dl) (keys-write (gaussian K same) (alike_by (gaussian K same) itself equal (λ k a. refl)) x.0 𝟘 m dm) left φ)
      ∙ taken φ
    where
      rest : List (K × G)
      rest = write (gaussian K same) x.0 𝟘 m

      held_there : coefficient_at (gaussian K same) x.0 m ≡ x.1
      held_there = coefficient_share x.0 m dm ∙ sym (e x.0) ∙ first_share x xs dl

      taken : (ψ : K → G) → x.1 ⊗ ψ x.0 ⊕ weighted ψ rest ≡ weighted ψ m
      taken ψ =
          ⊕_comm (x.1 ⊗ ψ x.0) (weighted ψ rest)
          ∙ ap (λ u. weighted ψ rest ⊕ u ⊗ ψ x.0) (sym held_there)
          ∙ weighted-write same ψ (λ j k p. ap ψ (equal j k p)) x.0 𝟘 m
          ∙ ap (λ u. weighted ψ m ⊕ u) (𝟘_⊗ (ψ x.0))
          ∙ ⊕_𝟘 (weighted ψ m)

      left : (k : K) → share same k xs ≡ share same k rest
      left k =
          let c = x.1 ⊗ cond (same x.0 k) 𝟙 𝟘 in
          ⊕_cancel c (share same k xs) (share same k rest) (e k ∙ sym (taken (λ j. cond (same j k) 𝟙 𝟘)))

  -- ---- keys that are good

  has_good : (good : K → Bool) (k : K) → good k ≡ false → (l : List (K × G)) → each (λ t ts. good t.0) l ≡ true → has (keyed (gaussian K same) k) l ≡ false
  unfolding has
  has_good good k b [] e = refl
  has_good good k b (x ∷ xs) e = go (same x.0 k) refl (has_good good k b xs (each_tail (λ t ts. good t.0) x xs e))
    where
      go : (t : Bool) → same x.0 k ≡ t → has (keyed (gaussian K same) k) xs ≡ false → (t || has (keyed (gaussian K same) k) xs) ≡ false
      go true p r = absurd (true≢false (sym (each_head (λ t ts. good t.0) x xs e) ∙ ap good (equal x.0 k p) ∙ b))
      go false p r = r

  -- where every key is good, shares need be compared only under good keys
  pub shares_good : (good : K → Bool) (l m : List (K × G)) → each (λ t ts. good t.0) l ≡ true → each (λ t ts. good t.0) m ≡ true
      → ((k : K) → good k ≡ true → share same k l ≡ share same k m) → (k : K) → share same k l ≡ share same k m
  shares_good good l m hl hm e k =
      by_test (good k) (e k) (λ b. share_absent same k l (has_good good k b l hl) ∙ sym (share_absent same k m (has_good good k b m hm)))

  -- ---- lists with equal shares hold the same terms, and back

  module _ (good : K → Bool) (l m : List (K × G)) (sl : SoundTerms same good l) (sm : SoundTerms same good m) where
    pub terms_from_shares : ((k : K) → share same k l ≡ share same k m) → SameTerms same l m
    terms_from_shares e =
        record {
          keys = λ k. has-coefficient same k l sl.nonzero ∙ ap (λ x. not (eq_G x 𝟘)) (coefficient k) ∙ sym (has-coefficient same k m sm.nonzero);
          coefficients = coefficient;
        }
      where
        coefficient : (k : K) → coefficient_at (gaussian K same) k l ≡ coefficient_at (gaussian K same) k m
        coefficient k = coefficient_share k l sl.different ∙ e k ∙ sym (coefficient_share k m sm.different)

    pub shares_from_terms : SameTerms same l m → (k : K) → share same k l ≡ share same k m
    shares_from_terms t k = sym (coefficient_share k l sl.different) ∙ t.coefficients k ∙ coefficient_share k m sm.different
