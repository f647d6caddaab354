-- What sets of terms over Gaussian integers stand for: a write, a run of additions and each chain of them, as equations of sums.
-- φ gives the value of a key, such as an entry of its matrix.
-- Assumes nothing.
use Prim.Native.Nat.{ℕ}
use mathlib.Core.Path.{◌≡◌, refl, sym, ap, ◌∙◌}
use mathlib.Core.Bool.{Bool, true, false, not, ◌&&◌, cond}
use mathlib.Core.List.{List, [], ◌∷◌, map}
use Rattle.refusal.specs.Refusals.{gives}
use Rattle.letters.specs.Gauss.{G, 𝟘, ◌⊕◌, ◌⊗◌, conj, i^, eq_G}
use Rattle.letters.specs.Sums.{Σ}
use Rattle.letters.proofs.GaussLaws.{ring, ⊕_assoc, ⊕_comm, ⊕_𝟘, 𝟘_⊕, 𝟘_⊗, ⊗_assoc, ⊗_left_comm, ⊕_cancel, eq_G_true, conj_⊗}
use Rattle.letters.proofs.SumLaws.{Σ_cong, Σ_scale}
use Rattle.terms.specs.Keyed.{held, struck, written, head_or, concat_map}
use Rattle.terms.specs.Setting.{keyed, coefficient_at, write, added, add_all}
use Rattle.terms.specs.Chains.{conjugate_terms, convert_terms, scaled_terms, full_terms}
use Rattle.terms.specs.Gaussian.{gaussian, gaussian_products, summed, weighted}
use Rattle.terms.proofs.KeyedLaws.{All, by_test}
use Rattle.terms.proofs.SettingLaws.{room_for, add_one, write-zero, write-other}
use Rattle.terms.proofs.AnswerLaws.{not_both}
use Rattle.terms.proofs.StepLaws.{given-same, add_all_nil, add_all_room, add_all_full, times_terms}
use Rattle.terms.proofs.SummedLaws.{summed_cons, summed_nil, summed-on, summed_same, summed_scale, summed_scale_r, conj-summed, Σ_summed, summed_cond, summed-map, summed-concat_map}

-- ---- a write

-- one step along a list: x stands first, with the coefficient c and the value f; the rest has the sum w, and w' after the write; o is the old coefficient there
strike_here : (c f w g : G) → f ≡ g → w ⊕ c ⊗ g ≡ c ⊗ f ⊕ w
strike_here c f w g e = ap (λ y. w ⊕ c ⊗ y) (sym e) ∙ ⊕_comm w (c ⊗ f)

later : (c f w w' o g n : G) → w' ⊕ o ⊗ g ≡ w ⊕ n → (c ⊗ f ⊕ w') ⊕ o ⊗ g ≡ (c ⊗ f ⊕ w) ⊕ n
later c f w w' o g n e = ⊕_assoc (c ⊗ f) w' (o ⊗ g) ∙ ap (λ y. c ⊗ f ⊕ y) e ∙ sym (⊕_assoc (c ⊗ f) w n)

write_here : (c f w g a : G) → f ≡ g → (a ⊗ g ⊕ w) ⊕ c ⊗ g ≡ (c ⊗ f ⊕ w) ⊕ a ⊗ g
write_here c f w g a e = ap (λ y. (a ⊗ g ⊕ w) ⊕ c ⊗ y) (sym e) ∙ swap (a ⊗ g) w (c ⊗ f)
  where
    swap : (x y z : G) → (x ⊕ y) ⊕ z ≡ (z ⊕ y) ⊕ x
    swap x y z = simp ring

write_first : (a g : G) → (a ⊗ g ⊕ 𝟘) ⊕ 𝟘 ⊗ g ≡ 𝟘 ⊕ a ⊗ g
write_first a g = simp ring

-- the coefficient of a list of at most one term
abbrev coefficient_of : {K : Type 0} → List (K × G) → G
coefficient_of {K} h = head_or (λ (t : K × G). t.1) 𝟘 h

module _ {K : Type 0} (same : K → K → Bool) (φ : K → G) (respects : (x y : K) → same x y ≡ true → φ x ≡ φ y) where
  -- the old coefficient under a key
  abbrev old : K → List (K × G) → G
  old k l = coefficient_of (held (keyed (gaussian K same) k) l)

  strike_step : (k : K) (b : Bool) (x : K × G) (s l h : List (K × G)) → same x.0 k ≡ b
      → weighted φ s ⊕ coefficient_of h ⊗ φ k ≡ weighted φ l
      → weighted φ (cond b l (x ∷ s)) ⊕ coefficient_of (cond b (x ∷ []) h) ⊗ φ k ≡ weighted φ (x ∷ l)
  unfolding summed head_or
  strike_step k true x s l h e r = strike_here x.1 (φ x.0) (weighted φ l) (φ k) (respects x.0 k e)
  strike_step k false x s l h e r = ⊕_assoc (x.1 ⊗ φ x.0) (weighted φ s) (coefficient_of h ⊗ φ k) ∙ ap (λ y. x.1 ⊗ φ x.0 ⊕ y) r

  weighted-struck : (k : K) (l : List (K × G)) → weighted φ (struck (keyed (gaussian K same) k) l) ⊕ old k l ⊗ φ k ≡ weighted φ l
  unfolding struck held
  weighted-struck k [] = nothing
    where
      nothing : weighted φ [] ⊕ coefficient_of {K = K} [] ⊗ φ k ≡ weighted φ []
      nothing = unfold summed head_or in ap (λ y. 𝟘 ⊕ y) (𝟘_⊗ (φ k)) ∙ 𝟘_⊕ 𝟘
  weighted-struck k (x ∷ l) = strike_step k (same x.0 k) x (struck (keyed (gaussian K same) k) l) l (held (keyed (gaussian K same) k) l) refl (weighted-struck k l)

  write_step : (k : K) (a : G) (b : Bool) (x : K × G) (w l h : List (K × G)) → same x.0 k ≡ b
      → weighted φ w ⊕ coefficient_of h ⊗ φ k ≡ weighted φ l ⊕ a ⊗ φ k
      → weighted φ (cond b ((k, a) ∷ l) (x ∷ w)) ⊕ coefficient_of (cond b (x ∷ []) h) ⊗ φ k ≡ weighted φ (x ∷ l) ⊕ a ⊗ φ k
  unfolding summed head_or
  write_step k a true x w l h e r = write_here x.1 (φ x.0) (weighted φ l) (φ k) a (respects x.0 k e)
  write_step k a false x w l h e r = later x.1 (φ x.0) (weighted φ l) (weighted φ w) (coefficient_of h) (φ k) (a ⊗ φ k) r

  weighted-written : (k : K) (a : G) (l : List (K × G)) → weighted φ (written (keyed (gaussian K same) k) (k, a) l) ⊕ old k l ⊗ φ k ≡ weighted φ l ⊕ a ⊗ φ k
  unfolding written held
  weighted-written k a [] = first
    where
      first : weighted φ ((k, a) ∷ []) ⊕ coefficient_of {K = K} [] ⊗ φ k ≡ weighted φ [] ⊕ a ⊗ φ k
      first = unfold summed head_or in write_first a (φ k)
  weighted-written k a (x ∷ l) = write_step k a (same x.0 k) x (written (keyed (gaussian K same) k) (k, a) l) l (held (keyed (gaussian K same) k) l) refl (weighted-written k a l)

  -- the old coefficient goes and the new one comes
  pub weighted-write : (k : K) (a : G) (l : List (K × G))
      → weighted φ (write (gaussian K same) k a l) ⊕ coefficient_at (gaussian K same) k l ⊗ φ k ≡ weighted φ l ⊕ a ⊗ φ k
  unfolding coefficient_at
  weighted-write k a l =
      by_test (eq_G a 𝟘)
      (λ z. ap (λ y. weighted φ y ⊕ old k l ⊗ φ k) (write-zero (gaussian K same) k a l z)
      ∙ weighted-struck k l
      ∙ sym (ap (λ y. weighted φ l ⊕ y) (ap (λ y. y ⊗ φ k) (eq_G_true a 𝟘 z) ∙ 𝟘_⊗ (φ k)) ∙ ⊕_𝟘 (weighted φ l)))
      (λ z. ap (λ y. weighted φ y ⊕ old k l ⊗ φ k) (write-other (gaussian K same) k a l z) ∙ weighted-written k a l)

  -- an addition adds
  pub weighted-added : (k : K) (a : G) (l : List (K × G)) → weighted φ (write (gaussian K same) k (added (gaussian K same) k a l) l) ≡ weighted φ l ⊕ a ⊗ φ k
  unfolding added
  weighted-added k a l =
      let c = coefficient_at (gaussian K same) k l in
      cancel (weighted φ (write (gaussian K same) k (c ⊕ a) l)) c (φ k) (weighted φ l) a (weighted-write k (c ⊕ a) l)
    where
      sort : (c g w a : G) → w ⊕ (c ⊕ a) ⊗ g ≡ c ⊗ g ⊕ (w ⊕ a ⊗ g)
      sort c g w a = simp ring

      cancel : (w' c g w a : G) → w' ⊕ c ⊗ g ≡ w ⊕ (c ⊕ a) ⊗ g → w' ≡ w ⊕ a ⊗ g
      cancel w' c g w a e = ⊕_cancel (c ⊗ g) w' (w ⊕ a ⊗ g) (⊕_comm (c ⊗ g) w' ∙ e ∙ sort c g w a)

  -- and so does a run of additions
  pub weighted-add_all : (ts l l' : List (K × G)) → add_all (gaussian K same) (map gives ts) l ≡ gives l' → weighted φ l' ≡ weighted φ l ⊕ weighted φ ts
  weighted-add_all [] l l' e =
      ap (λ y. weighted φ y) (sym (given-same l l' (sym (add_all_nil (gaussian K same) l) ∙ e)))
      ∙ sym (ap (λ y. weighted φ l ⊕ y) (summed_nil (λ t. t.1 ⊗ φ t.0)) ∙ ⊕_𝟘 (weighted φ l))
  weighted-add_all (t ∷ ts) l l' e =
      by_test (room_for (gaussian K same) t l)
      (λ r. weighted-add_all ts (add_one (gaussian K same) t l) l' (sym (add_all_room (gaussian K same) t (map gives ts) l r) ∙ e)
      ∙ ap (λ y. y ⊕ weighted φ ts) (weighted-added t.0 t.1 l)
      ∙ ⊕_assoc (weighted φ l) (t.1 ⊗ φ t.0) (weighted φ ts)
      ∙ ap (λ y. weighted φ l ⊕ y) (sym (summed_cons (λ t. t.1 ⊗ φ t.0) t ts)))
      (λ r. absurd (not_both l' 6 [] (sym e ∙ add_all_full (gaussian K same) t (map gives ts) l r)))

-- ---- products of two sums

-- a product of sums is the double sum of the products
pub weighted_double : {K L : Type 0} (f : K → G) (g : L → G) (l : List (K × G)) (r : List (L × G))
    → weighted f l ⊗ weighted g r ≡ weighted (λ p. weighted (λ q. f p ⊗ g q) r) l
weighted_double {K} {L} f g l r =
    sym (summed_scale_r (weighted g r) (λ (x : K × G). x.1 ⊗ f x.0) l)
    ∙ summed_same (λ (x : K × G). (x.1 ⊗ f x.0) ⊗ weighted g r) (λ (x : K × G). x.1 ⊗ weighted (λ q. f x.0 ⊗ g q) r) l
    (λ x. ⊗_assoc x.1 (f x.0) (weighted g r) ∙ ap (λ y. x.1 ⊗ y) (inner (f x.0)))
  where
    inner : (c : G) → c ⊗ weighted g r ≡ weighted (λ q. c ⊗ g q) r
    inner c =
        sym (summed_scale c (λ (y : L × G). y.1 ⊗ g y.0) r)
        ∙ summed_same (λ (y : L × G). c ⊗ (y.1 ⊗ g y.0)) (λ (y : L × G). y.1 ⊗ (c ⊗ g y.0)) r (λ y. ⊗_left_comm c y.1 (g y.0))

-- a sum over numbers goes inside
pub Σ_weighted : {K : Type 0} (N : ℕ) (h : K → ℕ → G) (l : List (K × G)) → Σ N (λ m. weighted (λ p. h p m) l) ≡ weighted (λ p. Σ N (h p)) l
Σ_weighted {K} N h l =
    Σ_summed N (λ (x : K × G) m. x.1 ⊗ h x.0 m) l
    ∙ summed_same (λ (x : K × G). Σ N (λ m. x.1 ⊗ h x.0 m)) (λ (x : K × G). x.1 ⊗ Σ N (h x.0)) l (λ x. Σ_scale N x.1 (h x.0))

-- the product of two sets, summed over an inner index
pub weighted-product : {K L : Type 0} (N : ℕ) (f : K → ℕ → G) (g : L → ℕ → G) (l : List (K × G)) (r : List (L × G))
    → Σ N (λ m. weighted (λ p. f p m) l ⊗ weighted (λ q. g q m) r) ≡ weighted (λ p. weighted (λ q. Σ N (λ m. f p m ⊗ g q m)) r) l
weighted-product {K} N f g l r =
    Σ_cong N (λ m. weighted_double (λ p. f p m) (λ q. g q m) l r)
    ∙ Σ_weighted N (λ p m. weighted (λ q. f p m ⊗ g q m) r) l
    ∙ summed_same (λ (x : K × G). x.1 ⊗ Σ N (λ m. weighted (λ q. f x.0 m ⊗ g q m) r)) (λ (x : K × G). x.1 ⊗ weighted (λ q. Σ N (λ m. f x.0 m ⊗ g q m)) r) l
    (λ x. ap (λ y. x.1 ⊗ y) (Σ_weighted N (λ q m. f x.0 m ⊗ g q m) r))

-- ---- chains. Good is what the keys of the sets are known to be.

module _ {K : Type 0} (same : K → K → Bool) (φ : K → G) (Good : K → Type 0) where
  -- the product of two sets, where the product of two keys has the value ψ
  pub weighted-times : (times : K → K → ℕ × K) (ψ : K → K → G) → ((p q : K) → Good p → Good q → i^ (times p q).0 ⊗ φ (times p q).1 ≡ ψ p q)
      → (l r : List (K × G)) → All (λ x. Good x.0) l → All (λ y. Good y.0) r
      → weighted φ (times_terms (gaussian K same) gaussian_products times l r) ≡ weighted (λ p. weighted (λ q. ψ p q) r) l
  unfolding times_terms
  weighted-times times ψ e l r gl gr =
      summed-concat_map (λ (t : K × G). t.1 ⊗ φ t.0) (λ (x : K × G). map (made x) r) l
      ∙ summed-on (λ (x : K × G). Good x.0) (λ (x : K × G). weighted φ (map (made x) r)) (λ (x : K × G). x.1 ⊗ weighted (λ q. ψ x.0 q) r) row l gl
    where
      made : K × G → K × G → K × G
      made x y = ((times x.0 y.0).1, (y.1 ⊗ i^ (times x.0 y.0).0) ⊗ x.1)

      sort : (b u a f : G) → ((b ⊗ u) ⊗ a) ⊗ f ≡ a ⊗ (b ⊗ (u ⊗ f))
      sort b u a f = simp ring

      row : (x : K × G) → Good x.0 → weighted φ (map (made x) r) ≡ x.1 ⊗ weighted (λ q. ψ x.0 q) r
      row x g =
          summed-map (λ (t : K × G). t.1 ⊗ φ t.0) (made x) r
          ∙ summed-on (λ (y : K × G). Good y.0) (λ (y : K × G). (made x y).1 ⊗ φ (made x y).0) (λ (y : K × G). x.1 ⊗ (y.1 ⊗ ψ x.0 y.0))
          (λ y h. sort y.1 (i^ (times x.0 y.0).0) x.1 (φ (times x.0 y.0).1) ∙ ap (λ z. x.1 ⊗ (y.1 ⊗ z)) (e x.0 y.0 g h)) r gr
          ∙ summed_scale x.1 (λ (y : K × G). y.1 ⊗ ψ x.0 y.0) r

  -- the conjugate, where the conjugate of a key has the conjugate value
  pub weighted-conjugate : (change : K → ℕ × K) (ψ : K → G) → ((p : K) → Good p → i^ (change p).0 ⊗ φ (change p).1 ≡ conj (ψ p))
      → (l : List (K × G)) → All (λ x. Good x.0) l → weighted φ (conjugate_terms (gaussian K same) gaussian_products change l) ≡ conj (weighted ψ l)
  unfolding conjugate_terms
  weighted-conjugate change ψ e l gl =
      summed-map (λ (t : K × G). t.1 ⊗ φ t.0) (λ (x : K × G). ((change x.0).1, conj x.1 ⊗ i^ (change x.0).0)) l
      ∙ summed-on (λ (x : K × G). Good x.0) (λ (x : K × G). (conj x.1 ⊗ i^ (change x.0).0) ⊗ φ (change x.0).1) (λ (x : K × G). conj (x.1 ⊗ ψ x.0))
      (λ x g. ⊗_assoc (conj x.1) (i^ (change x.0).0) (φ (change x.0).1) ∙ ap (λ z. conj x.1 ⊗ z) (e x.0 g) ∙ sym (conj_⊗ x.1 (ψ x.0))) l gl
      ∙ sym (conj-summed (λ (x : K × G). x.1 ⊗ ψ x.0) l)

  -- the same terms under other keys of the same value
  pub weighted-convert : (change : K → ℕ × K) (ψ : K → G) → ((p : K) → Good p → i^ (change p).0 ⊗ φ (change p).1 ≡ ψ p)
      → (l : List (K × G)) → All (λ x. Good x.0) l → weighted φ (convert_terms (gaussian K same) gaussian_products change l) ≡ weighted ψ l
  unfolding convert_terms
  weighted-convert change ψ e l gl =
      summed-map (λ (t : K × G). t.1 ⊗ φ t.0) (λ (x : K × G). ((change x.0).1, x.1 ⊗ i^ (change x.0).0)) l
      ∙ summed-on (λ (x : K × G). Good x.0) (λ (x : K × G). (x.1 ⊗ i^ (change x.0).0) ⊗ φ (change x.0).1) (λ (x : K × G). x.1 ⊗ ψ x.0)
      (λ x g. ⊗_assoc x.1 (i^ (change x.0).0) (φ (change x.0).1) ∙ ap (λ z. x.1 ⊗ z) (e x.0 g)) l gl

-- every coefficient times a number
pub weighted-scaled : {K : Type 0} (same : K → K → Bool) (φ : K → G) (a : G) (l : List (K × G))
    → weighted φ (scaled_terms (gaussian K same) gaussian_products a l) ≡ a ⊗ weighted φ l
unfolding scaled_terms
weighted-scaled {K} same φ a l =
    summed-map (λ (t : K × G). t.1 ⊗ φ t.0) (λ (x : K × G). (x.0, x.1 ⊗ a)) l
    ∙ summed_same (λ (x : K × G). (x.1 ⊗ a) ⊗ φ x.0) (λ (x : K × G). a ⊗ (x.1 ⊗ φ x.0)) l (λ x. sort x.1 a (φ x.0))
    ∙ summed_scale a (λ (x : K × G). x.1 ⊗ φ x.0) l
  where
    sort : (x a f : G) → (x ⊗ a) ⊗ f ≡ a ⊗ (x ⊗ f)
    sort x a f = simp ring

-- ---- pairs

module _ {K : Type 0} (same : K → K → Bool) (same² : K × K → K × K → Bool) (φ : K × K → G) (empty : K → Bool) (v : G) where
  -- the pairs of two sets' terms: the double sum, with zero where a key is empty
  pub weighted-pairs : (l r : List (K × G))
      → weighted φ (full_terms (gaussian K same) (gaussian (K × K) same²) gaussian_products empty v l r)
      ≡ summed (λ (x : K × G). summed (λ (y : K × G). cond (not (empty x.0) && not (empty y.0)) (((conj y.1 ⊗ x.1) ⊗ v) ⊗ φ (x.0, y.0)) 𝟘) r) l
  unfolding full_terms
  weighted-pairs l r =
      summed-concat_map value (λ (x : K × G). concat_map (made x) r) l
      ∙ summed_same (λ (x : K × G). summed value (concat_map (made x) r)) (λ (x : K × G). summed (λ (y : K × G). cond (kept x y) (value (pair x y)) 𝟘) r) l
      (λ x. summed-concat_map value (made x) r
      ∙ summed_same (λ (y : K × G). summed value (made x y)) (λ (y : K × G). cond (kept x y) (value (pair x y)) 𝟘) r (λ y. summed_cond value (kept x y) (pair x y)))
    where
      value : (K × K) × G → G
      value t = t.1 ⊗ φ t.0

      kept : K × G → K × G → Bool
      kept x y = not (empty x.0) && not (empty y.0)

      pair : K × G → K × G → (K × K) × G
      pair x y = ((x.0, y.0), (conj y.1 ⊗ x.1) ⊗ v)

      made : K × G → K × G → List ((K × K) × G)
      made x y = cond (kept x y) (pair x y ∷ []) []
