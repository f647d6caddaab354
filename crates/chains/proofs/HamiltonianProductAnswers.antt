-- The operators made of Hamiltonians: every accepted answer is a valid operator without zeros, and beside a refusal stands the empty operator.
-- Assumes nothing.
use Prim.Native.Nat.{ℕ}
use mathlib.Core.Path.{◌≡◌}
use mathlib.Core.Bool.{true, false}
use mathlib.Core.List.{List, [], map}
use Rattle.refusal.specs.Refusals.{refuses, done}
use Rattle.letters.specs.Matrices.{letters_of}
use Rattle.letters.specs.declared.Kind.{Kind}
use Rattle.items.specs.Record.{valid}
use Rattle.terms.proofs.KeyedLaws.{All, all_each}
use Rattle.terms.proofs.EachLaws.{all_results}
use Rattle.terms.proofs.AnswerLaws.{Answered, answered_past}
use Rattle.term_sets.specs.Complexes.{TermSet}
use Rattle.term_sets.specs.Complexes as complexes
use Rattle.hamiltonians.specs.Reals.{RealTerm, complex_term, held_by, valid_set}
use Rattle.chains.specs.HamiltonianProducts.{multiply_reals, into_operator}
use Rattle.hamiltonians.specs.declared.PauliHamiltonian.{PauliHamiltonian}
use Rattle.hamiltonians.proofs.RealValidLaws.{valid-products}
use Rattle.chains.proofs.ValidAnswers.{HasValid, zeros_allowed, chain_answer, times-answer}

-- the terms of a valid Hamiltonian with complex coefficients have valid products
complex_products_lem : (s : PauliHamiltonian) → valid_set s ≡ true → All HasValid (map complex_term (held_by s))
complex_products_lem s v =
    all_results (λ (t : RealTerm). valid t.key ≡ true) HasValid complex_term (λ x h. h) (held_by s) (all_each (λ t. valid t.key) (held_by s) (valid-products s v))

module _ (s t : PauliHamiltonian) where
  multiply_answer_lem : Answered (λ x. complexes.valid_set false x ≡ true) (complexes.filled []) (multiply_reals s t)
  unfolding multiply_reals letters_of
  multiply_answer_lem =
      answered_past (valid_set s) _ _ _ (λ v.
      answered_past (valid_set t) _ _ _ (λ w.
      times-answer Kind.Pauli (complexes.filled []) (map complex_term (held_by s)) (map complex_term (held_by t)) (complex_products_lem s v) (complex_products_lem t w)))

  -- an accepted product of two Hamiltonians is a valid operator and holds no zero
  pub multiply_reals-nonzero : (x : TermSet) → multiply_reals s t ≡ (done, x) → complexes.valid_set false x ≡ true
  multiply_reals-nonzero = multiply_answer_lem.holds tt

  -- so number 0 of a `PauliOperator` lets it pass
  pub multiply_reals-valid : (x : TermSet) → multiply_reals s t ≡ (done, x) → complexes.valid_set true x ≡ true
  multiply_reals-valid x e = zeros_allowed x (multiply_reals-nonzero x e)

  -- the empty operator stands beside a refusal
  pub multiply_reals_refused : (n : ℕ) (l : List ℕ) → (multiply_reals s t).0 ≡ refuses n l → (multiply_reals s t).1 ≡ complexes.filled []
  multiply_reals_refused = multiply_answer_lem.kept

module _ (s : PauliHamiltonian) where
  into_answer : Answered (λ x. complexes.valid_set false x ≡ true) (complexes.filled []) (into_operator s)
  unfolding into_operator
  into_answer = answered_past (valid_set s) _ _ _ (λ v. chain_answer (complexes.filled []) _ (complex_products_lem s v))

  -- an accepted operator of a Hamiltonian is valid and holds no zero
  pub into_operator-nonzero : (x : TermSet) → into_operator s ≡ (done, x) → complexes.valid_set false x ≡ true
  into_operator-nonzero = into_answer.holds tt

  -- so number 0 of a `PauliOperator` lets it pass
  pub into_operator-valid : (x : TermSet) → into_operator s ≡ (done, x) → complexes.valid_set true x ≡ true
  into_operator-valid x e = zeros_allowed x (into_operator-nonzero x e)

  -- the empty operator stands beside a refusal
  pub into_operator_refused : (n : ℕ) (l : List ℕ) → (into_operator s).0 ≡ refuses n l → (into_operator s).1 ≡ complexes.filled []
  into_operator_refused = into_answer.kept
