-- What the entries on noise sets answer is what those on sets of any keys and coefficients do, for pairs of products and complex coefficients.
-- Assumes nothing.
use mathlib.Core.Path.{◌≡◌, ap}
use mathlib.Core.Bool.{not, false, cond}
use mathlib.Core.List.{[]}
use Rattle.refusal.specs.Refusals.{gives, refuses}
use Rattle.complex.specs.Complex.{in_range}
use Rattle.complex.specs.Coefficients.{complexes}
use Rattle.complex.specs.declared.Complex.{Complex}
use Rattle.terms.specs.Entries.{set_in, add_in}
use Rattle.terms.specs.Setting.{coefficient_at}
use Rattle.term_sets.specs.Keys.{pair_keys}
use Rattle.term_sets.specs.Sets.{get_in}
use Rattle.term_writing.specs.WritingAnswers.{set_answer, add_answer}
use Rattle.term_writing.proofs.Instances.{unless_two, then_two}
use Rattle.noise_sets.specs.Pairs.{Key, NoiseSet, pair_terms, held_by, filled, valid_set}
use Rattle.noise_sets.specs.Answers.{valid_key, empty_side, get_pair, set_pair, add_pair}

module _ (s : NoiseSet) (k : Key) where
  pub get_pair_is : get_in pair_keys complexes false s k ≡ get_pair s k
  unfolding get_in get_pair
  get_pair_is =
      ap (cond (not (valid_set s)) (refuses 0 []))
      (then_two (gives (coefficient_at pair_terms k (held_by s))) (valid_key k) (empty_side k) 0 4 [] [])

  pub set_pair_is : (a : Complex) → set_answer pair_keys complexes false s k a ≡ set_pair s k a
  unfolding set_answer set_pair
  set_pair_is a =
      ap (cond (not (valid_set s)) (refuses 0 [], s))
      (unless_two s (set_in pair_terms in_range filled (λ t. t.coefficient) s (held_by s) k a) (valid_key k) (empty_side k) 0 4 [] [])

  pub add_pair_is : (a : Complex) → add_answer pair_keys complexes false s k a ≡ add_pair s k a
  unfolding add_answer add_pair
  add_pair_is a =
      ap (cond (not (valid_set s)) (refuses 0 [], s))
      (unless_two s (add_in pair_terms in_range filled s (held_by s) k a) (valid_key k) (empty_side k) 0 4 [] [])
