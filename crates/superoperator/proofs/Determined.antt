-- The entries of an open system's superoperator determine its terms, and back.
-- Noise: the entries are probed with two products that are not the identity; commutators and anticommutators drop out, and what is left tells
-- the pairs apart. Hamiltonian: with the noise's parts gone, the commutators are probed with a product and the identity.
-- Assumes nothing.
use mathlib.Core.Path.{◌≡◌, refl, sym, ◌∙◌, ap, ap₂}
use mathlib.Core.Bool.{Bool, true, cond}
use mathlib.Core.List.{List}
use mathlib.Core.Logic.{◌↔◌}
use Prim.Native.Nat.{ℕ, ◌^◌, ◌<◌}
use native.Mathlib.Omega.{arith}
use lib.Dec.{eqb}
use Rattle.letters.specs.Gauss.{G, 𝟘, 𝟙, i⁺, i⁻, ◌⊕◌, ◌⊗◌}
use Rattle.letters.specs.Matrices.{pauli, decoherence, letters_of, matrix}
use Rattle.letters.specs.declared.Kind.TheVariants.{Pauli, Decoherence}
use Rattle.letters.proofs.TestLaws.{and_left, and_right, every_intro}
use Rattle.letters.proofs.GaussLaws.{ring, ⊕_comm, ⊕_cancel, 𝟘_⊕, ⊗_𝟘, ⊗_assoc, ⊗_left_comm, ⊗_comm, ⊗_cancel, i⁻⊗i⁺}
use Rattle.items.specs.Record.{letter_at, same_items, same_key}
use Rattle.items.specs.declared.Items.{Items}
use Rattle.items.proofs.SameLaws.{same_self, same-equal, same_key_self, same_key-equal}
use Rattle.terms.specs.Keyed.{each}
use Rattle.terms.specs.Gaussian.{weighted}
use Rattle.terms.proofs.KeyedLaws.{all_each}
use Rattle.terms.proofs.SummedLaws.{summed-on, summed_same, summed-zero, summed_scale}
use Rattle.master_equation.specs.Equation.{δ, 𝟚, commutator, dissipator}
use Rattle.superoperator.specs.Systems.{Hamiltonian, Noise, entry_of, SameEntries, SameTerms, on_spins, pair_on_spins, Sound}
use Rattle.superoperator.proofs.InnerLaws.{inner, probe, probe_below, probe_add, probe_weighted}
use Rattle.superoperator.proofs.Orthogonality.{dimension, 𝟚_cancel, dimension_cancel, cond_⊗, trace_full}
use Rattle.superoperator.proofs.ShareLaws.{share, same_sums, shares_good, terms_from_shares, shares_from_terms}
use Rattle.superoperator.proofs.ProductLaws.{product_orthogonal, product_traceless}
use Rattle.superoperator.proofs.ProbeLaws.{probe_commutator, probe_dissipator}

-- ---- keys of noise

left_on : (n : ℕ) (p : Items × Items) → pair_on_spins n p ≡ true → on_spins n p.0 ≡ true
unfolding pair_on_spins
left_on n p e = and_left (on_spins n p.0) (on_spins n p.1) e

right_on : (n : ℕ) (p : Items × Items) → pair_on_spins n p ≡ true → on_spins n p.1 ≡ true
unfolding pair_on_spins
right_on n p e = and_right (on_spins n p.0) (on_spins n p.1) e

-- a sum over terms with good keys, of a value that is a factor where the key is k, and else 0
weighted_share : {K : Type 0} (same : K → K → Bool) (good : K → Bool) (c : G) (k : K) (φ : K → G) → ((j : K) → good j ≡ true → φ j ≡ c ⊗ cond (same j k) 𝟙 𝟘)
    → (l : List (K × G)) → each (λ t ts. good t.0) l ≡ true → weighted φ l ≡ c ⊗ share same k l
weighted_share {K} same good c k φ e l h =
    summed-on (λ (t : K × G). good t.0 ≡ true) (λ (t : K × G). t.1 ⊗ φ t.0) (λ (t : K × G). c ⊗ (t.1 ⊗ cond (same t.0 k) 𝟙 𝟘))
    (λ t g. ap (λ u. t.1 ⊗ u) (e t.0 g) ∙ ⊗_left_comm t.1 c (cond (same t.0 k) 𝟙 𝟘)) l (all_each (λ (t : K × G). good t.0) l h)
    ∙ summed_scale c (λ (t : K × G). t.1 ⊗ cond (same t.0 k) 𝟙 𝟘) l

-- ---- the factor 2 · 2^n · 2^n of a probe

abbrev factor : ℕ → G
factor n = 𝟚 ⊗ (dimension n ⊗ dimension n)

-- it goes from both sides
factor_cancel : (n : ℕ) (x y : G) → factor n ⊗ x ≡ factor n ⊗ y → x ≡ y
factor_cancel n x y e =
    let d = dimension n in
    dimension_cancel n x y
    (dimension_cancel n (d ⊗ x) (d ⊗ y)
    (𝟚_cancel (d ⊗ (d ⊗ x)) (d ⊗ (d ⊗ y)) (sym (apart 𝟚 d x) ∙ e ∙ apart 𝟚 d y)))
  where
    apart : (t d x : G) → (t ⊗ (d ⊗ d)) ⊗ x ≡ t ⊗ (d ⊗ (d ⊗ x))
    apart t d x = simp ring

-- ---- noise

-- the matrices that probe for a pair
abbrev left_of : ℕ → Items × Items → ℕ → ℕ → G
left_of n p = matrix decoherence n (letter_at p.0)

abbrev right_of : ℕ → Items × Items → ℕ → ℕ → G
right_of n p = matrix decoherence n (letter_at p.1)

module _ (n : ℕ) (p : Items × Items) (h : pair_on_spins n p ≡ true) where
  abbrev L : ℕ → ℕ → G
  L = left_of n p

  abbrev R : ℕ → ℕ → G
  R = right_of n p

  traceless_L : inner n L δ ≡ 𝟘
  unfolding letters_of
  traceless_L = product_traceless n p.0 (left_on n p h) Decoherence

  traceless_R : inner n R δ ≡ 𝟘
  unfolding letters_of
  traceless_R = product_traceless n p.1 (right_on n p h) Decoherence

  -- a commutator drops out
  commutator_drops : (q : Items) → probe n L R (commutator n (letter_at q)) ≡ 𝟘
  commutator_drops q =
      let x = inner n L (matrix pauli n (letter_at q)) in
      probe_commutator n L R traceless_L (letter_at q) ∙ ap (λ u. 𝟚 ⊗ i⁻ ⊗ (x ⊗ u)) traceless_R ∙ zero (𝟚 ⊗ i⁻) x
    where
      zero : (t x : G) → t ⊗ (x ⊗ 𝟘) ≡ 𝟘
      zero t x = simp ring

  -- a dissipator tells whether its pair is p
  dissipator_tells : (q : Items × Items) → pair_on_spins n q ≡ true → probe n L R (dissipator n (letter_at q.0) (letter_at q.1)) ≡ factor n ⊗ cond (same_key q p) 𝟙 𝟘
  unfolding letters_of
  dissipator_tells q g =
      let x = cond (same_items q.0 p.0) 𝟙 𝟘 in
      let y = cond (same_items q.1 p.1) 𝟙 𝟘 in
      probe_dissipator n L R traceless_L traceless_R (letter_at q.0) (letter_at q.1)
      ∙ ap₂ (λ u v. 𝟚 ⊗ (u ⊗ v))
      (product_orthogonal n p.0 (left_on n p h) Decoherence q.0 (left_on n q g))
      (product_orthogonal n p.1 (right_on n p h) Decoherence q.1 (right_on n q g))
      ∙ sort 𝟚 (dimension n) x y
      ∙ ap (λ u. factor n ⊗ u) (cond_⊗ (same_items q.0 p.0) (same_items q.1 p.1))
    where
      sort : (t d x y : G) → t ⊗ ((d ⊗ x) ⊗ (d ⊗ y)) ≡ (t ⊗ (d ⊗ d)) ⊗ (x ⊗ y)
      sort t d x y = simp ring

  -- so the entries tell the share of p
  probe_noise : (ham : Hamiltonian) (w : Noise) → each (λ t ts. pair_on_spins n t.0) w ≡ true → probe n L R (entry_of n ham w) ≡ factor n ⊗ share same_key p w
  unfolding entry_of
  probe_noise ham w g =
      probe_add n L R (λ k l a b. weighted (λ q. commutator n (letter_at q) k l a b) ham) (λ k l a b. weighted (λ q. dissipator n (letter_at q.0) (letter_at q.1) k l a b) w)
      ∙ ap₂ ◌⊕◌ (probe_weighted n L R (λ q. commutator n (letter_at q)) ham ∙ dropped) (probe_weighted n L R (λ q. dissipator n (letter_at q.0) (letter_at q.1)) w ∙ told)
      ∙ 𝟘_⊕ (factor n ⊗ share same_key p w)
    where
      dropped : weighted (λ q. probe n L R (commutator n (letter_at q))) ham ≡ 𝟘
      dropped =
          summed_same (λ (t : Items × G). t.1 ⊗ probe n L R (commutator n (letter_at t.0))) (λ (t : Items × G). 𝟘) ham (λ t. ap (λ u. t.1 ⊗ u) (commutator_drops t.0) ∙ ⊗_𝟘 t.1)
          ∙ summed-zero ham

      told : weighted (λ q. probe n L R (dissipator n (letter_at q.0) (letter_at q.1))) w ≡ factor n ⊗ share same_key p w
      told = weighted_share same_key (pair_on_spins n) (factor n) p (λ q. probe n L R (dissipator n (letter_at q.0) (letter_at q.1))) dissipator_tells w g

-- ---- the Hamiltonian

-- the matrices that probe for a product
abbrev pauli_of : ℕ → Items → ℕ → ℕ → G
pauli_of n p = matrix pauli n (letter_at p)

abbrev identity : ℕ → ℕ → ℕ → G
identity n = matrix pauli n (λ s. 0)

identity_trace : (n : ℕ) → inner n (identity n) δ ≡ dimension n
unfolding letters_of
identity_trace n = trace_full Pauli n (λ s. 0) (λ s l. omega arith) (every_intro n (λ s. eqb 0 0) (λ s l. refl))

module _ (n : ℕ) (p : Items) (h : on_spins n p ≡ true) where
  abbrev P : ℕ → ℕ → G
  P = pauli_of n p

  abbrev One : ℕ → ℕ → G
  One = identity n

  -- a commutator tells whether its product is p
  commutator_tells : (q : Items) → on_spins n q ≡ true → probe n P One (commutator n (letter_at q)) ≡ (i⁻ ⊗ factor n) ⊗ cond (same_items q p) 𝟙 𝟘
  unfolding letters_of
  commutator_tells q g =
      probe_commutator n P One (product_traceless n p h Pauli) (letter_at q)
      ∙ ap₂ (λ u v. 𝟚 ⊗ i⁻ ⊗ (u ⊗ v)) (product_orthogonal n p h Pauli q g) (identity_trace n)
      ∙ sort 𝟚 i⁻ (dimension n) (cond (same_items q p) 𝟙 𝟘)
    where
      sort : (t i d x : G) → (t ⊗ i) ⊗ ((d ⊗ x) ⊗ d) ≡ (i ⊗ (t ⊗ (d ⊗ d))) ⊗ x
      sort t i d x = simp ring

  -- so the commutators tell the share of p
  probe_hamiltonian : (ham : Hamiltonian) → each (λ t ts. on_spins n t.0) ham ≡ true
      → probe n P One (λ k l a b. weighted (λ q. commutator n (letter_at q) k l a b) ham) ≡ i⁻ ⊗ (factor n ⊗ share same_items p ham)
  probe_hamiltonian ham g =
      probe_weighted n P One (λ q. commutator n (letter_at q)) ham
      ∙ weighted_share same_items (on_spins n) (i⁻ ⊗ factor n) p (λ q. probe n P One (commutator n (letter_at q))) commutator_tells ham g
      ∙ ⊗_assoc i⁻ (factor n) (share same_items p ham)

-- ---- two systems

module _ (n : ℕ) (h : Hamiltonian) (w : Noise) (h' : Hamiltonian) (w' : Noise) (s : Sound n h w) (s' : Sound n h' w') where
  -- equal shares of noise make equal sums, whatever the value of a pair
  noise_sums : ((p : Items × Items) → share same_key p w ≡ share same_key p w') → (φ : Items × Items → G) → weighted φ w ≡ weighted φ w'
  noise_sums = same_sums same_key same_key_self same_key-equal w w' s.noise.different s'.noise.different

  module _ (e : SameEntries n h w h' w') where
    -- each pair's share is the same
    noise_shares : (p : Items × Items) → share same_key p w ≡ share same_key p w'
    noise_shares =
        shares_good same_key same_key_self same_key-equal (pair_on_spins n) w w' s.noise.keys s'.noise.keys
        (λ p g. factor_cancel n (share same_key p w) (share same_key p w')
        (sym (probe_noise n p g h w s.noise.keys) ∙ probe_below n (left_of n p) (right_of n p) (entry_of n h w) (entry_of n h' w') e ∙ probe_noise n p g h' w' s'.noise.keys))

    -- so the commutators' parts are equal too
    commutators : (k l a b : ℕ) → k < 2 ^ n → l < 2 ^ n → a < 2 ^ n → b < 2 ^ n
        → weighted (λ q. commutator n (letter_at q) k l a b) h ≡ weighted (λ q. commutator n (letter_at q) k l a b) h'
    unfolding entry_of
    commutators k l a b hk hl ha hb =
        let φ : Items → G = λ q. commutator n (letter_at q) k l a b in
        let ψ : Items × Items → G = λ q. dissipator n (letter_at q.0) (letter_at q.1) k l a b in
        ⊕_cancel (weighted ψ w) (weighted φ h) (weighted φ h')
        (⊕_comm (weighted ψ w) (weighted φ h) ∙ e k l a b hk hl ha hb ∙ ap (λ u. weighted φ h' ⊕ u) (sym (noise_sums noise_shares ψ)) ∙ ⊕_comm (weighted φ h') (weighted ψ w))

    -- and each product's share
    hamiltonian_shares : (p : Items) → share same_items p h ≡ share same_items p h'
    hamiltonian_shares =
        shares_good same_items same_self same-equal (on_spins n) h h' s.hamiltonian.keys s'.hamiltonian.keys
        (λ p g. factor_cancel n (share same_items p h) (share same_items p h')
        (⊗_cancel i⁻ i⁺ _ _ (⊗_comm i⁺ i⁻ ∙ i⁻⊗i⁺)
        (sym (probe_hamiltonian n p g h s.hamiltonian.keys)
        ∙ probe_below n (pauli_of n p) (identity n) (λ k l a b. weighted (λ q. commutator n (letter_at q) k l a b) h) (λ k l a b. weighted (λ q. commutator n (letter_at q) k l a b) h') commutators
        ∙ probe_hamiltonian n p g h' s'.hamiltonian.keys)))

  -- systems with the same terms have the same entries, at every place
  pub terms_determine : SameTerms same_items h h' → SameTerms same_key w w' → (k l a b : ℕ) → entry_of n h w k l a b ≡ entry_of n h' w' k l a b
  unfolding entry_of
  terms_determine th tw k l a b =
      ap₂ ◌⊕◌
      (same_sums same_items same_self same-equal h h' s.hamiltonian.different s'.hamiltonian.different
      (shares_from_terms same_items same_self same-equal (on_spins n) h h' s.hamiltonian s'.hamiltonian th) (λ q. commutator n (letter_at q) k l a b))
      (noise_sums (shares_from_terms same_key same_key_self same_key-equal (pair_on_spins n) w w' s.noise s'.noise tw) (λ q. dissipator n (letter_at q.0) (letter_at q.1) k l a b))

  -- two systems have the same entries exactly where they hold the same terms
  pub entries_determine : SameEntries n h w h' w' ↔ (SameTerms same_items h h' × SameTerms same_key w w')
  entries_determine = (
    λ e. (
      terms_from_shares same_items same_self same-equal (on_spins n) h h' s.hamiltonian s'.hamiltonian (hamiltonian_shares e),
      terms_from_shares same_key same_key_self same_key-equal (pair_on_spins n) w w' s.noise s'.noise (noise_shares e),
    ),
    λ t k l a b hk hl ha hb. terms_determine t.0 t.1 k l a b,
  )
