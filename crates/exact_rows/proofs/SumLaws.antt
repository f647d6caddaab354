-- The contributions of an open system's terms in the code's numbers: those of the terms, at most 320, and so their row is the exact one.
-- Assumes nothing.
use Prim.Native.Nat.{ℕ, ◌+◌, ◌*◌, ◌/◌, ◌%◌, ◌^◌, ◌≤◌}
use native.Mathlib.Omega.{arith}
use mathlib.Core.Path.{◌≡◌, refl, sym, ap, ap₂, ◌∙◌}
use mathlib.Core.Bool.{false}
use mathlib.Core.List.{List, [], ◌∷◌, ◌++◌, map, map-append}
use lib.ListN.{length, length-append, length-map}
use Rattle.refusal.specs.Refusals.{gives}
use Rattle.letters.specs.Gauss.{G}
use Rattle.items.specs.Record.{letter_at}
use Rattle.terms.specs.Keyed.{concat_map}
use Rattle.terms.specs.Setting.{most_terms}
use Rattle.terms.proofs.KeyedLaws.{concat_map_nil, concat_map_cons}
use Rattle.master_equation.specs.Numbers.{halves}
use Rattle.master_equation.specs.Contributions.{commutator_terms, noise_terms}
use Rattle.rows.specs.Buffers.{most_entries}
use Rattle.rows.specs.Placing.{row_in}
use Rattle.exact_sums.specs.ExactSums.{all_small, exact_answer}
use Rattle.exact_sums.specs.Wrapped.{wrapped}
use Rattle.exact_sums.specs.Exact.{exact_pair}
use Rattle.exact_sums.specs.declared.Halves.{Halves}
use Rattle.exact_sums.proofs.ExactLaws.{row_exact, exact_answered}
use Rattle.term_sets.specs.Complexes.{Term, items_of}
use Rattle.noise_sets.specs.Pairs.{NoiseTerm, sides_of}
use Rattle.outside_sites.specs.Accepted.{Accepted}
use Rattle.outside_sites.specs.SystemItems.{system_items}
use Rattle.outside_sites.proofs.AcceptedLaws.{accepted_left, accepted_right}
use Rattle.contributions.proofs.ValueLaws.{commutator-count, noise-count, commutator_found, noise_found, commutators_lem, noises_lem}
use Rattle.contributions.proofs.TurnLaws.{Turns, turns_all, turns_row, length-turns}
use Rattle.exact_rows.specs.ExactRows.{exact_commutator_part, exact_noise_part, exact_contributions}
use Rattle.exact_rows.proofs.CoefficientLaws.{halves_of, gauss_is, halves_within, commutator_exact, noise_exact}
use Rattle.exact_rows.proofs.ExactWritingLaws.{contributions_small}

-- terms that contribute f, which says g
said_parts : {T : Type 0} (f : T → List (ℕ × Halves)) (g : T → List (ℕ × G)) → ((t : T) → map exact_pair (f t) ≡ g t) → (l : List T) → map exact_pair (concat_map f l) ≡ concat_map g l
said_parts f g e [] = ap (map exact_pair) (concat_map_nil f) ∙ sym (concat_map_nil g)
said_parts f g e (t ∷ l) =
    ap (map exact_pair) (concat_map_cons f t l) ∙ map-append exact_pair (f t) (concat_map f l) ∙ ap₂ ◌++◌ (e t) (said_parts f g e l) ∙ sym (concat_map_cons g t l)

module _ (n r : ℕ) where
  -- of the Hamiltonian and of noise, as the code finds them
  abbrev pub hamiltonian_part : Term → List (ℕ × Halves)
  hamiltonian_part = commutator_found wrapped halves_of n r

  abbrev pub pair_part : NoiseTerm → List (ℕ × Halves)
  pair_part = noise_found wrapped halves_of n r

  hamiltonian_exact : (l : List Term) → Accepted n (2 ^ n * 2 ^ n) r (items_of l) → map exact_pair (concat_map hamiltonian_part l) ≡ concat_map (exact_commutator_part n r) l
  hamiltonian_exact l k =
      ap (map exact_pair) (commutators_lem wrapped halves_of n r l k)
      ∙ said_parts (λ t. commutator_terms wrapped n (r / 2 ^ n) (r % 2 ^ n) (letter_at t.key) (halves_of t.coefficient)) (exact_commutator_part n r)
      (λ t.
      commutator_exact (halves_of t.coefficient) (halves_within t.coefficient) n (r / 2 ^ n) (r % 2 ^ n) (letter_at t.key)
      ∙ ap (commutator_terms halves n (r / 2 ^ n) (r % 2 ^ n) (letter_at t.key)) (gauss_is t.coefficient)) l

  pairs_exact : (l : List NoiseTerm) → Accepted n (2 ^ n * 2 ^ n) r (sides_of l) → map exact_pair (concat_map pair_part l) ≡ concat_map (exact_noise_part n r) l
  pairs_exact l k =
      ap (map exact_pair) (noises_lem wrapped halves_of n r l k)
      ∙ said_parts (λ t. noise_terms wrapped n (r / 2 ^ n) (r % 2 ^ n) (letter_at t.key.0) (letter_at t.key.1) (halves_of t.coefficient)) (exact_noise_part n r)
      (λ t.
      noise_exact (halves_of t.coefficient) (halves_within t.coefficient) n (r / 2 ^ n) (r % 2 ^ n) (letter_at t.key.0) (letter_at t.key.1)
      ∙ ap (noise_terms halves n (r / 2 ^ n) (r % 2 ^ n) (letter_at t.key.0) (letter_at t.key.1)) (gauss_is t.coefficient)) l

  module _ (h : List Term) (w : List NoiseTerm) (few : length h ≤ most_terms) (few_pairs : length w ≤ most_terms) where
    -- gathered: the Hamiltonian's first, then the noise's
    pub given_exact : {first all : List (ℕ × Halves)} {i j : ℕ} → Turns hamiltonian_part h [] first i → length h ≤ i → Turns pair_part w first all j → length w ≤ j
        → Accepted n (2 ^ n * 2 ^ n) r (system_items h w) → map exact_pair all ≡ exact_contributions n r h w
    unfolding exact_contributions
    given_exact {first} {all} s p t q k =
        let left = turns_row hamiltonian_part 2 (λ t. commutator-count wrapped _ _ _ _) s p (omega (arith, few)) in
        let room : length first + length (concat_map pair_part w) ≤ most_entries =
        omega (
          arith,
          few,
          few_pairs,
          ap length left,
          length-turns hamiltonian_part 2 (λ t. commutator-count wrapped _ _ _ _) h,
          length-turns pair_part 3 (λ t. noise-count wrapped _ _ _ _ _) w,
        ) in
        ap (map exact_pair) (turns_all pair_part t q room ∙ ap (λ l. l ++ concat_map pair_part w) left)
        ∙ map-append exact_pair (concat_map hamiltonian_part h) (concat_map pair_part w)
        ∙ ap₂ ◌++◌ (hamiltonian_exact h (accepted_left (items_of h) (sides_of w) k)) (pairs_exact w (accepted_right (items_of h) (sides_of w) k))

    exact_few : length (exact_contributions n r h w) ≤ most_entries
    unfolding exact_contributions commutator_terms noise_terms
    exact_few =
        omega (
          arith,
          few,
          few_pairs,
          length-append (concat_map (exact_commutator_part n r) h) (concat_map (exact_noise_part n r) w),
          length-turns (exact_commutator_part n r) 2 (λ t. refl) h,
          length-turns (exact_noise_part n r) 3 (λ t. refl) w,
        )

    -- and the row that they give
    pub sums_exact : (all : List (ℕ × Halves)) {row : List (ℕ × Halves)} → map exact_pair all ≡ exact_contributions n r h w → row ≡ row_in wrapped false all
        → map exact_pair row ≡ row_in halves false (exact_contributions n r h w)
    sums_exact all says e =
        let enough : length all ≤ most_entries = omega (arith, exact_few, ap length says, length-map all exact_pair) in
        ap (map exact_pair) e ∙ row_exact all enough (ap all_small says ∙ contributions_small n r h w) ∙ ap (row_in halves false) says

    -- which is answered, since they are small and at most 320
    pub sums_answered : exact_answer (exact_contributions n r h w) ≡ gives (row_in halves false (exact_contributions n r h w))
    sums_answered = sym (exact_answered (exact_contributions n r h w) exact_few (contributions_small n r h w))
