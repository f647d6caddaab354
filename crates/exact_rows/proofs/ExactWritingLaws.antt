-- What an exact row of terms says: number 11 after the tests of a row call, and the row; of whole terms every contribution is small.
-- Assumes nothing.
use Prim.Native.Nat.{ℕ, ◌*◌, ◌/◌, ◌%◌, ◌^◌}
use mathlib.Core.Path.{◌≡◌, refl, sym, ap, ◌∙◌}
use mathlib.Core.Bool.{true, false}
use mathlib.Core.List.{List, [], ◌∷◌}
use borrow.Author.Tests.{le-ltb, lt-leb}
use Rattle.refusal.specs.Refusals.{gives, refuses}
use Rattle.letters.specs.Gauss.{G}
use Rattle.letters.proofs.TestLaws.{and_true, and_false}
use Rattle.complex.specs.Wholes.{both_whole}
use Rattle.complex.specs.declared.Complex.{Complex}
use Rattle.items.specs.Record.{letter_at}
use Rattle.row_entries.specs.Answers.{most_spins}
use Rattle.terms.specs.Keyed.{each, concat_map}
use Rattle.master_equation.specs.Numbers.{halves}
use Rattle.rows.specs.Placing.{row_in}
use Rattle.rows.specs.Calls.{unless_outside, checked_row}
use Rattle.exact_sums.specs.ExactSums.{within, all_small}
use Rattle.exact_sums.proofs.ExactLaws.{small_none, small_append}
use Rattle.term_sets.specs.Complexes.{Term}
use Rattle.noise_sets.specs.Pairs.{NoiseTerm}
use Rattle.outside_sites.specs.Accepted.{Accepted}
use Rattle.outside_sites.specs.SystemItems.{system_items}
use Rattle.exact_rows.specs.ExactRows.{gauss_of, largest_coefficient, exact_commutator_part, exact_noise_part, exact_contributions, whole_terms, unless_not_whole, exact_row_of_terms}
use Rattle.exact_rows.proofs.CoefficientLaws.{gauss_is, halves_within, commutator_small, noise_small}

gauss_within : (c : Complex) → within largest_coefficient (gauss_of c) ≡ true
gauss_within c = ap (within largest_coefficient) (sym (gauss_is c)) ∙ halves_within c

module _ (n r : ℕ) where
  -- ---- every contribution is small

  all_small_lem : {A : Type 0} (f : A → List (ℕ × G)) → ((t : A) → all_small (f t) ≡ true) → (l : List A) → all_small (concat_map f l) ≡ true
  unfolding concat_map
  all_small_lem f h [] = small_none
  all_small_lem f h (t ∷ l) = small_append (f t) (concat_map f l) (h t) (all_small_lem f h l)

  pub contributions_small : (h : List Term) (w : List NoiseTerm) → all_small (exact_contributions n r h w) ≡ true
  unfolding exact_contributions
  contributions_small h w =
      small_append (concat_map (exact_commutator_part n r) h) (concat_map (exact_noise_part n r) w)
      (all_small_lem (exact_commutator_part n r) (λ t. commutator_small (gauss_of t.coefficient) (gauss_within t.coefficient) n (r / 2 ^ n) (r % 2 ^ n) (letter_at t.key)) h)
      (all_small_lem (exact_noise_part n r) (λ t. noise_small (gauss_of t.coefficient) (gauss_within t.coefficient) n (r / 2 ^ n) (r % 2 ^ n) (letter_at t.key.0) (letter_at t.key.1)) w)

  -- ---- 11 after 7, 9 and 8

  module _ (h : List Term) (w : List NoiseTerm) where
    -- what is refused before it stays so
    pub before-whole : {k : ℕ} {s : List ℕ} → refuses k s ≡ checked_row n (2 ^ n * 2 ^ n) r (system_items h w) (row_in halves false (exact_contributions n r h w))
        → refuses k s ≡ exact_row_of_terms n r h w
    unfolding exact_row_of_terms unless_not_whole
    before-whole e = ap (unless_not_whole (whole_terms h w)) e

    -- an accepted call
    module _ (k : Accepted n (2 ^ n * 2 ^ n) r (system_items h w)) where
      checked : checked_row n (2 ^ n * 2 ^ n) r (system_items h w) (row_in halves false (exact_contributions n r h w)) ≡ gives (row_in halves false (exact_contributions n r h w))
      unfolding checked_row unless_outside
      checked = rw (le-ltb most_spins n k.few, lt-leb (2 ^ n * 2 ^ n) r k.below, k.inside) refl

      pub not_whole : whole_terms h w ≡ false → refuses 11 [] ≡ exact_row_of_terms n r h w
      unfolding exact_row_of_terms unless_not_whole
      not_whole e = rw (checked, e)

      pub whole_row : whole_terms h w ≡ true → {l : List (ℕ × G)} → l ≡ row_in halves false (exact_contributions n r h w) → gives l ≡ exact_row_of_terms n r h w
      unfolding exact_row_of_terms unless_not_whole
      whole_row e f = rw (checked, e, f)

-- both tests of 11
module _ (h : List Term) (w : List NoiseTerm) where
  pub first_not_whole : each (λ t ts. both_whole t.coefficient) h ≡ false → whole_terms h w ≡ false
  unfolding whole_terms
  first_not_whole e = rw e

  pub second_not_whole : each (λ t ts. both_whole t.coefficient) w ≡ false → whole_terms h w ≡ false
  unfolding whole_terms
  second_not_whole e = and_false (each (λ t ts. both_whole t.coefficient) h) (each (λ t ts. both_whole t.coefficient) w) e

  pub both_whole_terms : each (λ t ts. both_whole t.coefficient) h ≡ true → each (λ t ts. both_whole t.coefficient) w ≡ true → whole_terms h w ≡ true
  unfolding whole_terms
  both_whole_terms e f = and_true e f
