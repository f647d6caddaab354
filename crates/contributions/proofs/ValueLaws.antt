-- The contributions found from the masks of terms that have the row are those of the terms. Over any numbers: `of` is a coefficient as the row takes it.
-- Assumes nothing.
use Prim.Native.Nat.{ℕ, ◌*◌, ◌/◌, ◌%◌, ◌^◌, min}
use mathlib.Core.Path.{◌≡◌, refl, sym, ap₂, ◌∙◌, subst}
use mathlib.Core.List.{List, [], ◌∷◌, ◌++◌, map}
use lib.ListN.{length}
use Rattle.complex.specs.declared.Complex.{Complex}
use Rattle.letters.specs.Matrices.{Letters}
use Rattle.items.specs.Record.{letter_at}
use Rattle.items.specs.Masks.{masks_of}
use Rattle.items.specs.declared.Items.{Items}
use Rattle.row_entries.specs.Answers.{most_spins}
use Rattle.row_entries.specs.Entries.{operator_entry, commutator_entries, noise_entries}
use Rattle.row_entries.proofs.EntryLaws.{OfKind}
use Rattle.row_entries.proofs.RowLaws.{few-spins}
use Rattle.terms.specs.Keyed.{concat_map}
use Rattle.terms.proofs.KeyedLaws.{concat_map_nil, concat_map_cons}
use Rattle.term_sets.specs.Complexes.{Term, items_of}
use Rattle.noise_sets.specs.Pairs.{NoiseTerm, sides, sides_of}
use Rattle.master_equation.specs.Numbers.{Numbers}
use Rattle.master_equation.specs.Contributions.{operator_terms, commutator_terms, noise_terms}
use Rattle.outside_sites.specs.Accepted.{Accepted}
use Rattle.outside_sites.proofs.AcceptedLaws.{accepted_first, accepted_rest, accepted_left, accepted_right}
use Rattle.outside_sites.proofs.OutsideLaws.{product, products_are}
use Rattle.contributions.specs.Values.{whole_entry, jump_and_halves, commutator_values, noise_values}
use Rattle.contributions.proofs.ContributionLaws.{operator_terms_lem, commutator_terms_lem, noise_terms_lem}

-- ---- of one term

module _ {C N : Type 0} (A : Numbers C N) where
  module _ (c : C) (n r : ℕ) where
    pub operator_values_lem : {M : Letters} → OfKind M → (p : Items) → Accepted n (2 ^ n) r (p ∷ [])
        → whole_entry A c (operator_entry M (masks_of p) (min n most_spins) r) ∷ [] ≡ operator_terms A n M r (letter_at p) c
    operator_values_lem {M} o p k =
        few-spins (λ s. whole_entry A c (operator_entry M (masks_of p) s r) ∷ []) n k.few refl ∙ sym (operator_terms_lem A c n o p (accepted_first p [] k) r k.below)

    pub commutator_values_lem : (p : Items) → Accepted n (2 ^ n * 2 ^ n) r (p ∷ []) → commutator_values A (masks_of p) c n r ≡ commutator_terms A n (r / 2 ^ n) (r % 2 ^ n) (letter_at p) c
    unfolding commutator_values
    commutator_values_lem p k =
        few-spins (λ s. map (whole_entry A c) (commutator_entries (masks_of p) s r)) n k.few refl ∙ sym (commutator_terms_lem A c n r k.below p (accepted_first p [] k))

    pub noise_values_lem : (p q : Items) → Accepted n (2 ^ n * 2 ^ n) r (p ∷ q ∷ [])
        → noise_values A (masks_of p) (masks_of q) c n r ≡ noise_terms A n (r / 2 ^ n) (r % 2 ^ n) (letter_at p) (letter_at q) c
    unfolding noise_values
    noise_values_lem p q k =
        few-spins (λ s. jump_and_halves A c (noise_entries (masks_of p) (masks_of q) s r)) n k.few refl
        ∙ sym (noise_terms_lem A c n r k.below p q (accepted_first p (q ∷ []) k) (accepted_first q [] (accepted_rest p (q ∷ []) k)))

  -- as many as they are
  pub commutator-count : (m : ℕ) (c : C) (n r : ℕ) → length (commutator_values A m c n r) ≡ 2
  unfolding commutator_values commutator_entries
  commutator-count m c n r = refl

  pub noise-count : (m m' : ℕ) (c : C) (n r : ℕ) → length (noise_values A m m' c n r) ≡ 3
  unfolding noise_values noise_entries
  noise-count m m' c n r = refl

-- ---- of terms, one after the other

-- what f and g make of terms with the products h
parts_same : {T B : Type 0} (f g : T → List B) (h : T → List Items) {n rows r : ℕ} → ((t : T) → Accepted n rows r (h t) → f t ≡ g t) → (l : List T) → Accepted n rows r (concat_map h l)
    → concat_map f l ≡ concat_map g l
parts_same f g h e [] k = concat_map_nil f ∙ sym (concat_map_nil g)
parts_same f g h {n} {rows} {r} e (t ∷ l) k =
    let k' = subst (Accepted n rows r) (concat_map_cons h t l) k in
    concat_map_cons f t l
    ∙ ap₂ ◌++◌ (e t (accepted_left (h t) (concat_map h l) k')) (parts_same f g h e l (accepted_right (h t) (concat_map h l) k'))
    ∙ sym (concat_map_cons g t l)

module _ {C N : Type 0} (A : Numbers C N) (of : Complex → C) (n r : ℕ) where
  -- as the code finds them
  abbrev pub operator_found : Letters → Term → List (ℕ × N)
  operator_found M t = whole_entry A (of t.coefficient) (operator_entry M (masks_of t.key) (min n most_spins) r) ∷ []

  abbrev pub commutator_found : Term → List (ℕ × N)
  commutator_found t = commutator_values A (masks_of t.key) (of t.coefficient) n r

  abbrev pub noise_found : NoiseTerm → List (ℕ × N)
  noise_found t = noise_values A (masks_of t.key.0) (masks_of t.key.1) (of t.coefficient) n r

  -- those of terms that have the row
  pub operators_lem : {M : Letters} → OfKind M → (l : List Term) → Accepted n (2 ^ n) r (items_of l)
      → concat_map (operator_found M) l ≡ concat_map (λ t. operator_terms A n M r (letter_at t.key) (of t.coefficient)) l
  operators_lem {M} o l k =
      parts_same (operator_found M) (λ t. operator_terms A n M r (letter_at t.key) (of t.coefficient)) product (λ t. operator_values_lem A (of t.coefficient) n r o t.key) l
      (subst (Accepted n (2 ^ n) r) (sym (products_are l)) k)

  pub commutators_lem : (l : List Term) → Accepted n (2 ^ n * 2 ^ n) r (items_of l)
      → concat_map commutator_found l ≡ concat_map (λ t. commutator_terms A n (r / 2 ^ n) (r % 2 ^ n) (letter_at t.key) (of t.coefficient)) l
  commutators_lem l k =
      parts_same commutator_found (λ t. commutator_terms A n (r / 2 ^ n) (r % 2 ^ n) (letter_at t.key) (of t.coefficient)) product
      (λ t. commutator_values_lem A (of t.coefficient) n r t.key) l
      (subst (Accepted n (2 ^ n * 2 ^ n) r) (sym (products_are l)) k)

  pub noises_lem : (l : List NoiseTerm) → Accepted n (2 ^ n * 2 ^ n) r (sides_of l)
      → concat_map noise_found l ≡ concat_map (λ t. noise_terms A n (r / 2 ^ n) (r % 2 ^ n) (letter_at t.key.0) (letter_at t.key.1) (of t.coefficient)) l
  unfolding sides_of
  noises_lem l k =
      parts_same noise_found (λ t. noise_terms A n (r / 2 ^ n) (r % 2 ^ n) (letter_at t.key.0) (letter_at t.key.1) (of t.coefficient)) sides
      (λ t. noise_values_lem A (of t.coefficient) n r t.key.0 t.key.1) l k
