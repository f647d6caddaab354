-- The answers on sets of any keys and coefficients, for keys that one test or two tests refuse; and those on products with complex coefficients.
-- Assumes nothing.
use Prim.Native.Nat.{ℕ}
use mathlib.Core.Path.{◌≡◌, refl, ap}
use mathlib.Core.Bool.{Bool, true, false, not, cond}
use mathlib.Core.List.{List, []}
use Rattle.refusal.specs.Refusals.{Said, gives, refuses, done}
use Rattle.complex.specs.Complex.{in_range}
use Rattle.complex.specs.Coefficients.{complexes}
use Rattle.complex.specs.declared.Complex.{Complex}
use Rattle.items.specs.Record.{valid}
use Rattle.items.specs.declared.Items.{Items}
use Rattle.terms.specs.Chains.{and_then}
use Rattle.terms.specs.Entries.{set_in, add_in}
use Rattle.terms.specs.Setting.{coefficient_at}
use Rattle.term_sets.specs.Answers.{get_term}
use Rattle.term_sets.specs.Complexes.{TermSet, complex_terms, held_by, filled, valid_set}
use Rattle.term_sets.specs.Keys.{item_keys}
use Rattle.term_sets.specs.Sets.{get_in}
use Rattle.term_writing.specs.WritingAnswers.{unless_refused, set_answer, add_answer, set_term, add_term}

-- ---- a key that a test b accepts, or b and then not e: else it is refused, and the record s stands as it was

module _ {A R : Type 0} (s : R) (rest : Said A × R) where
  pub unless_one : (b : Bool) (n : ℕ) (l : List ℕ) → unless_refused (cond b done (refuses n l)) s rest ≡ cond (not b) (refuses n l, s) rest
  unless_one true n l = refl
  unless_one false n l = refl

  pub unless_two : (b e : Bool) (n m : ℕ) (l k : List ℕ)
      → unless_refused (cond b (cond e (refuses m k) done) (refuses n l)) s rest ≡ cond (not b) (refuses n l, s) (cond e (refuses m k, s) rest)
  unless_two true true n m l k = refl
  unless_two true false n m l k = refl
  unless_two false e n m l k = refl

module _ {A : Type 0} (rest : Said A) where
  pub then_one : (b : Bool) (n : ℕ) (l : List ℕ) → and_then (cond b done (refuses n l)) (λ u. rest) ≡ cond (not b) (refuses n l) rest
  then_one true n l = refl
  then_one false n l = refl

  pub then_two : (b e : Bool) (n m : ℕ) (l k : List ℕ)
      → and_then (cond b (cond e (refuses m k) done) (refuses n l)) (λ u. rest) ≡ cond (not b) (refuses n l) (cond e (refuses m k) rest)
  then_two true true n m l k = refl
  then_two true false n m l k = refl
  then_two false e n m l k = refl

-- ---- products with complex coefficients

module _ (zeros : Bool) (s : TermSet) (k : Items) where
  pub get_term_is : get_in item_keys complexes zeros s k ≡ get_term zeros s k
  unfolding get_in get_term
  get_term_is = ap (cond (not (valid_set zeros s)) (refuses 0 [])) (then_one (gives (coefficient_at complex_terms k (held_by s))) (valid k) 0 [])

  pub set_term_is : (a : Complex) → set_answer item_keys complexes zeros s k a ≡ set_term zeros s k a
  unfolding set_answer set_term
  set_term_is a =
      ap (cond (not (valid_set zeros s)) (refuses 0 [], s))
      (unless_one s (set_in complex_terms in_range filled (λ t. t.coefficient) s (held_by s) k a) (valid k) 0 [])

  pub add_term_is : (a : Complex) → add_answer item_keys complexes zeros s k a ≡ add_term zeros s k a
  unfolding add_answer add_term
  add_term_is a =
      ap (cond (not (valid_set zeros s)) (refuses 0 [], s))
      (unless_one s (add_in complex_terms in_range filled s (held_by s) k a) (valid k) 0 [])
