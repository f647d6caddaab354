-- Every case of the table holds, by computation. Assumes nothing.
use mathlib.Core.Path.{◌≡◌, refl}
use mathlib.Core.List.{map}
use lib.Ieee.{of_bits, of_int, add, sub, mul, neg, eq}
use Rattle.complex.specs.Complex.{sum_of, product_of, unit_of, unit_of_I, is_zero, at_most, part_in_range, in_range, is_plus_zero}
use Rattle.letters.specs.Tests.{every, first_from}
use Rattle.letters.specs.Gauss.{𝟘, 𝟙, −𝟙, i⁺, i⁻, ◌⊕◌, ◌⊗◌, conj, i^, eqℤ, eq_G}
use Rattle.letters.specs.Sums.{Σ, Π, total}
use Rattle.letters.specs.Matrices.{two_by_two, pauli, decoherence, letters_of, bit, matrix, product, adjoint}
use Rattle.letters.specs.Single.{same, scaled, as_letter, times, conjugated, converted, cell}
use Rattle.letters.specs.Rows.{column_of, row_power}
use Rattle.letters.specs.Answers.{multiply_letters}
use Rattle.items.specs.Lists.{support, padded, same_list}
use Rattle.items.specs.Record.{place_valid, in_shape, valid, lookup, letter_at, reach, record_of, same_items, empty_product}
use Rattle.merging.specs.SiteAnswers.{set_answer}
use Rattle.merging.specs.ProductAnswers.{multiply_answer}
use Rattle.phases.specs.Answers.{conjugate_answer, convert_answer}
use Rattle.row_entries.specs.Answers.{row_answer}
use Rattle.ordering.specs.Orders.{and_then, compare_numbers, compare_lists, pairs, key_of, compare_items, compare_answer}
use Rattle.terms.specs.Keyed.{has, each, concat_map}
use Rattle.terms.specs.Places.{good_term, valid_places}
use Rattle.term_sets.specs.Sets.{filled, is_blank, valid_set}
use Rattle.master_equation.specs.Equation.{δ, 𝟚, commutator, adjoint_product, dissipator}
use Rattle.rows.specs.HalfUnits.{minus_half_unit}
use Rattle.master_equation.specs.Contributions.{operator_terms, commutator_terms, noise_terms}
use Rattle.rows.specs.Placing.{placed, place_all, row_of, nonzero, kept_by, row_in}
use Rattle.master_equation.specs.Sums.{value_at}
use Rattle.rows.specs.Calls.{outside, unless_outside, checked_row}
use Rattle.contributions.specs.TermContributions.{commutator_contributions, noise_contributions}
use Rattle.operator_rows.specs.OperatorRows.{commutator_row_of, hamiltonian_commutator_row}
use Rattle.noise_sets.specs.Pairs.{sides_of}
use Rattle.open_rows.specs.NoiseRows.{noise_row}
use Rattle.marked_cases.specs.Outcomes.{outcome}
use Rattle.marked_cases.specs.Table.{table}

pub every_case : map (λ r. outcome r.0) table ≡ map (λ r. r.1) table
unfolding outcome table
    of_bits of_int add sub mul neg eq sum_of product_of unit_of unit_of_I is_zero at_most part_in_range in_range is_plus_zero
    every first_from 𝟘 𝟙 −𝟙 i⁺ i⁻ ◌⊕◌ ◌⊗◌ conj i^ eqℤ eq_G Σ Π total two_by_two pauli decoherence letters_of bit matrix product adjoint
    same scaled as_letter times conjugated converted cell column_of row_power multiply_letters
    support padded same_list place_valid in_shape valid lookup letter_at reach record_of same_items
    empty_product set_answer multiply_answer conjugate_answer convert_answer row_answer
    and_then compare_numbers compare_lists pairs key_of compare_items compare_answer
    δ 𝟚 commutator adjoint_product dissipator minus_half_unit operator_terms commutator_terms noise_terms
    placed place_all row_of nonzero value_at kept_by row_in outside unless_outside checked_row
    has each concat_map good_term valid_places filled is_blank valid_set
    commutator_contributions commutator_row_of hamiltonian_commutator_row sides_of noise_contributions noise_row
every_case = refl
