-- The answers of the entries on Hamiltonians: every accepted answer is a valid Hamiltonian, and beside a refusal stands the Hamiltonian given.
-- Assumes nothing.
use Prim.Native.Nat.{ℕ}
use mathlib.Core.Path.{◌≡◌}
use mathlib.Core.Bool.{true}
use mathlib.Core.List.{List}
use lib.Ieee.{Float}
use Rattle.refusal.specs.Refusals.{gives, refuses, done}
use Rattle.complex.specs.declared.Complex.{Complex}
use Rattle.items.specs.Record.{valid}
use Rattle.items.specs.declared.Items.{Items}
use Rattle.terms.proofs.AnswerLaws.{Answered, answered_given, answered_past}
use Rattle.terms.proofs.ValidSetLaws as laws
use Rattle.hamiltonians.specs.Reals.{complex_of, valid_set}
use Rattle.hamiltonians.specs.RealAnswers.{set_real, add_real, conjugate_real}
use Rattle.hamiltonians.specs.declared.PauliHamiltonian.{PauliHamiltonian}
use Rattle.hamiltonians.proofs.RealValidLaws.{valid_hamiltonians}

-- ---- one term

module _ (s : PauliHamiltonian) (k : Items) (a : Float) where
  set_answer_lem : Answered (λ x. valid_set x ≡ true) s (set_real s k a)
  unfolding set_real
  set_answer_lem = answered_past (valid_set s) _ _ _ (λ v. answered_past (valid k) _ _ _ (λ w. laws.set_valid valid_hamiltonians s k a v w (λ t. complex_of t.coefficient)))

  -- what an accepted setting leaves is valid
  pub set_valid : (o : List Complex) (x : PauliHamiltonian) → set_real s k a ≡ (gives o, x) → valid_set x ≡ true
  set_valid = set_answer_lem.holds

  -- the Hamiltonian given stands beside a refusal
  pub set_refused : (n : ℕ) (l : List ℕ) → (set_real s k a).0 ≡ refuses n l → (set_real s k a).1 ≡ s
  set_refused = set_answer_lem.kept

  add_answer : Answered (λ x. valid_set x ≡ true) s (add_real s k a)
  unfolding add_real
  add_answer = answered_past (valid_set s) _ _ _ (λ v. answered_past (valid k) _ _ _ (λ w. laws.add_valid valid_hamiltonians s k a v w))

  -- what an accepted addition leaves is valid
  pub add_valid : (x : PauliHamiltonian) → add_real s k a ≡ (done, x) → valid_set x ≡ true
  add_valid = add_answer.holds tt

  -- the Hamiltonian given stands beside a refusal
  pub add_refused : (n : ℕ) (l : List ℕ) → (add_real s k a).0 ≡ refuses n l → (add_real s k a).1 ≡ s
  add_refused = add_answer.kept

-- ---- the conjugate transpose

module _ (s : PauliHamiltonian) where
  conjugate_answer_lem : Answered (λ x. valid_set x ≡ true) s (conjugate_real s)
  unfolding conjugate_real
  conjugate_answer_lem = answered_past (valid_set s) _ _ _ answered_given

  -- an accepted conjugate is valid
  pub conjugate-valid : (x : PauliHamiltonian) → conjugate_real s ≡ (done, x) → valid_set x ≡ true
  conjugate-valid = conjugate_answer_lem.holds tt

  -- the Hamiltonian given stands beside a refusal
  pub conjugate_refused : (n : ℕ) (l : List ℕ) → (conjugate_real s).0 ≡ refuses n l → (conjugate_real s).1 ≡ s
  conjugate_refused = conjugate_answer_lem.kept
