-- The exact rows of document 01's program `worked`, from the list of calls that makes its system: the listing there, row by row. By computation.
-- Assumes nothing.
use Prim.Native.Nat.{ℕ}
use mathlib.Core.Path.{◌≡◌, refl}
use mathlib.Core.List.{List, [], ◌∷◌, map}
use lib.IntN.{pos, negsuc}
use lib.Ieee.{of_int, of_bits, eq}
use Rattle.refusal.specs.Refusals.{gives}
use Rattle.letters.specs.Tests.{every, first_from}
use Rattle.letters.specs.Gauss.{G, 𝟘, 𝟙, −𝟙, i⁺, i⁻, ◌⊕◌, ◌⊗◌, i^, eqℤ, eq_G}
use Rattle.letters.specs.Sums.{total}
use Rattle.letters.specs.Matrices.{two_by_two, pauli, decoherence, bit}
use Rattle.letters.specs.Single.{cell}
use Rattle.letters.specs.Rows.{column_of, row_power}
use Rattle.complex.specs.Complex.{at_most, part_in_range, in_range, is_zero, is_plus_zero}
use Rattle.complex.specs.Wholes.{both_whole, parts_of}
use Rattle.items.specs.Lists.{support, padded, same_list}
use Rattle.items.specs.Record.{place_valid, in_shape, valid, lookup, letter_at, reach, record_of, same_items, empty_product}
use Rattle.terms.specs.Keyed.{held, has, written, each, concat_map}
use Rattle.condition3.specs.Runs.{run}
use Rattle.terms.specs.Setting.{write, has_room}
use Rattle.terms.specs.Places.{good_term, valid_places}
use Rattle.term_sets.specs.Sets.{filled, is_blank, valid_set}
use Rattle.master_equation.specs.Equation.{𝟚}
use Rattle.master_equation.specs.Contributions.{commutator_terms, noise_terms}
use Rattle.rows.specs.Placing.{placed, place_all, row_of, nonzero, kept_by, row_in}
use Rattle.rows.specs.Calls.{outside, unless_outside, checked_row}
use Rattle.exact_sums.specs.ExactSums.{whole}
use Rattle.hamiltonians.specs.RealAnswers.{set_real}
use Rattle.noise_sets.specs.Pairs.{sides_of}
use Rattle.noise_sets.specs.Answers.{set_pair}
use Rattle.open_system.specs.Grouping.{valid_system, group_answer}
use Rattle.exact_rows.specs.ExactRows.{gauss_of, exact_contributions, whole_terms, unless_not_whole, exact_row_of_terms, exact_row}
use Rattle.condition3.specs.Calls.{called, sets_after}
use Rattle.condition3.specs.Condition3.{system_after}
use Rattle.condition3.proofs.PremisesMet.{worked}

-- rows 0 to 3: each column with its real and imaginary halves
abbrev listing : List (List (ℕ × G))
listing =
    ((0, whole (negsuc 3) (pos 0)) ∷ (3, whole (pos 4) (pos 0)) ∷ [])
    ∷ ((1, whole (negsuc 3) (negsuc 11)) ∷ (2, whole (pos 4) (pos 0)) ∷ [])
    ∷ ((1, whole (pos 4) (pos 0)) ∷ (2, whole (negsuc 3) (pos 12)) ∷ [])
    ∷ ((0, whole (pos 4) (pos 0)) ∷ (3, whole (negsuc 3) (pos 0)) ∷ [])
    ∷ []

pub worked_rows : map (exact_row (system_after worked) 1) (0 ∷ 1 ∷ 2 ∷ 3 ∷ []) ≡ map gives listing
unfolding system_after sets_after run called set_real set_pair group_answer valid_system
    exact_row exact_row_of_terms checked_row unless_outside unless_not_whole outside whole_terms exact_contributions gauss_of parts_of both_whole
    of_int of_bits eq at_most part_in_range in_range is_zero is_plus_zero
    every first_from 𝟘 𝟙 −𝟙 i⁺ i⁻ ◌⊕◌ ◌⊗◌ i^ eqℤ eq_G total two_by_two pauli decoherence bit cell column_of row_power
    padded same_list place_valid in_shape valid lookup letter_at reach record_of same_items support empty_product
    held has written each concat_map write has_room good_term valid_places
    filled is_blank valid_set sides_of
    𝟚 commutator_terms noise_terms placed place_all row_of nonzero kept_by row_in
worked_rows = refl
