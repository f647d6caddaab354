-- Calls on a Hamiltonian: it stays valid, and its terms are the lines that the reference model has after the call.
-- Assumes nothing.
use Prim.Native.Nat.{◌≤◌}
use mathlib.Core.Path.{◌≡◌, refl, sym, ap, ◌∙◌}
use mathlib.Core.Bool.{true, false, not, ◌&&◌, true≢false}
use mathlib.Core.List.{List}
use lib.ListN.{length}
use lib.Ieee.{Float, of_bits, add, eq}
use Rattle.letters.proofs.TestLaws.{and_true, and_left, and_false}
use Rattle.complex.specs.Complex.{plus_zero, sum_of, in_range, part_in_range}
use Rattle.complex.proofs.FloatLaws.{in_range_real, is_zero_real}
use Rattle.items.specs.Record.{valid, same_items}
use Rattle.items.specs.declared.Items.{Items}
use Rattle.items.proofs.SameLaws.{same-equal}
use Rattle.terms.specs.Keyed.{each}
use Rattle.terms.specs.Setting.{most_terms}
use Rattle.terms.proofs.EachLaws.{each_follows}
use Rattle.hamiltonians.specs.Reals.{real_terms}
use Rattle.hamiltonians.specs.Reals as reals
use Rattle.hamiltonians.specs.RealAnswers.{set_real, add_real}
use Rattle.hamiltonians.specs.declared.PauliHamiltonian.{PauliHamiltonian}
use Rattle.hamiltonians.proofs.RealSetLaws.{real_sets}
use Rattle.terms.proofs.ValidSetLaws as valid_sets
use Rattle.hamiltonians.proofs.RealValidLaws.{valid_hamiltonians}
use Rattle.hamiltonians.proofs.RealValidAnswers as real_answers
use Rattle.condition3.specs.ReferenceModel.{Line, real_part, write_line, add_line, unless_full, unless_refused, lawful_term}
use Rattle.condition3.proofs.LineLaws.{lines_of, Faithful}
use Rattle.condition3.proofs.AnswerLaws.{past, either}
use Rattle.condition3.proofs.WrittenLines.{arguments_refused}
use Rattle.condition3.proofs.SetLines.{set_lines, add_lines_lem}

abbrev pub real_lines : PauliHamiltonian → List (Line Items)
real_lines s = lines_of real_terms real_part (reals.held_by s)

real_faithful : Faithful real_terms real_part
unfolding sum_of add of_bits
real_faithful = record { same = same-equal; key_of = λ k a. refl; coefficient_of_lem = λ k a. refl; zero = refl; sum = λ a b. refl; is_zero = λ a. sym (is_zero_real a) }

module _ (s : PauliHamiltonian) (k : Items) (a : Float) (v : reals.valid_set s ≡ true) where
  few : length (reals.held_by s) ≤ most_terms
  few = valid_sets.valid-few valid_hamiltonians s v

  -- the terms are in range
  ranges : each (λ t ts. in_range (real_part t.coefficient)) (reals.held_by s) ≡ true
  ranges = each_follows (λ t ts. reals.good_coefficient t.coefficient) (λ t ts. in_range (real_part t.coefficient))
      (λ t ts e. in_range_real t.coefficient ∙ and_left (part_in_range t.coefficient) (not (eq t.coefficient plus_zero)) e) (reals.held_by s) (valid_sets.valid-coefficients valid_hamiltonians s v)

  -- its arguments are refused, or not
  bad_product : valid k ≡ false → lawful_term k a ≡ false
  unfolding lawful_term
  bad_product e = ap (λ b. b && in_range (real_part a)) e

  bad_value : part_in_range a ≡ false → lawful_term k a ≡ false
  unfolding lawful_term
  bad_value e = and_false (valid k) (in_range (real_part a)) (in_range_real a ∙ e)

  good_arguments : valid k ≡ true → part_in_range a ≡ true → lawful_term k a ≡ true
  unfolding lawful_term
  good_arguments w r = and_true w (in_range_real a ∙ r)

  pub set_real-valid : reals.valid_set (set_real s k a).1 ≡ true
  set_real-valid = either (λ x. reals.valid_set x ≡ true) s (set_real s k a) (real_answers.set_valid s k a) (real_answers.set_refused s k a) v

  pub add_real-valid : reals.valid_set (add_real s k a).1 ≡ true
  add_real-valid = either (λ x. reals.valid_set x ≡ true) s (add_real s k a) (λ o. real_answers.add_valid s k a) (real_answers.add_refused s k a) v

  pub set_real_lines : real_lines (set_real s k a).1 ≡ unless_refused (lawful_term k a) (unless_full (write_line same_items k (real_part a) (real_lines s))) (real_lines s)
  unfolding set_real
  set_real_lines =
      past P (reals.valid_set s) _ _ _ _ (λ e. absurd (true≢false (sym v ∙ e))) (λ u.
      past P (valid k) _ _ _ _ (λ e. sym (arguments_refused (lawful_term k a) (real_lines s) (bad_product e) _)) (λ w.
      set_lines real_terms real_part real_faithful real_sets part_in_range in_range_real s k a few ranges (lawful_term k a) bad_value (good_arguments w) _))
    where
      P : PauliHamiltonian → Type 0
      P x = real_lines x ≡ unless_refused (lawful_term k a) (unless_full (write_line same_items k (real_part a) (real_lines s))) (real_lines s)

  pub add_real_lines : real_lines (add_real s k a).1 ≡ unless_refused (lawful_term k a) (unless_full (add_line same_items k (real_part a) (real_lines s))) (real_lines s)
  unfolding add_real
  add_real_lines =
      past P (reals.valid_set s) _ _ _ _ (λ e. absurd (true≢false (sym v ∙ e))) (λ u.
      past P (valid k) _ _ _ _ (λ e. sym (arguments_refused (lawful_term k a) (real_lines s) (bad_product e) _)) (λ w.
      add_lines_lem real_terms real_part real_faithful real_sets part_in_range in_range_real s k a few ranges (lawful_term k a) bad_value (good_arguments w)))
    where
      P : PauliHamiltonian → Type 0
      P x = real_lines x ≡ unless_refused (lawful_term k a) (unless_full (add_line same_items k (real_part a) (real_lines s))) (real_lines s)
