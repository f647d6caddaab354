-- Which columns a row delivers, over any numbers: those with a contribution, and where zero sums are left out those whose sum is not zero; an open
-- system's row delivers those of both parts.
-- Assumes nothing.
use mathlib.Core.Path.{◌≡◌, refl, ap, ◌∙◌}
use mathlib.Core.Bool.{Bool, true, false, ◌||◌, cond}
use mathlib.Core.List.{List, [], ◌∷◌}
use Prim.Native.Nat.{ℕ}
use lib.Dec.{eqb}
use Rattle.master_equation.specs.Numbers.{Numbers}
use Rattle.rows.specs.Placing.{row_of, nonzero, kept_by, row_in, open_row_in}
use Rattle.master_equation.specs.Sums.{has_column, contributions_to, sum_if_any}
use Rattle.rows.proofs.PlacingLaws.{place_all-columns}
use Rattle.rows.proofs.OrderLaws.{row_numbers}

-- the numbers that are not zero
unfoldable pub without_zeros : {N : Type 0} → (N → Bool) → List N → List N
without_zeros is_zero [] = []
without_zeros is_zero (x ∷ xs) = cond (is_zero x) (without_zeros is_zero xs) (x ∷ without_zeros is_zero xs)

module _ {N : Type 0} (is_zero : N → Bool) where
  step : (c : ℕ) (x : ℕ × N) (l : List (ℕ × N)) (zero here : Bool) → contributions_to c (nonzero is_zero l) ≡ without_zeros is_zero (contributions_to c l)
      → is_zero x.1 ≡ zero → eqb c x.0 ≡ here
      → contributions_to c (cond zero (nonzero is_zero l) (x ∷ nonzero is_zero l)) ≡ without_zeros is_zero (cond here (x.1 ∷ contributions_to c l) (contributions_to c l))
  unfolding contributions_to without_zeros
  step c x l true true e z h = rw z e
  step c x l true false e z h = e
  step c x l false true e z h = rw (h, z) (ap (λ (m : List N). x.1 ∷ m) e)
  step c x l false false e z h = rw h e

  nonzero_numbers : (c : ℕ) (l : List (ℕ × N)) → contributions_to c (nonzero is_zero l) ≡ without_zeros is_zero (contributions_to c l)
  unfolding contributions_to nonzero without_zeros
  nonzero_numbers c [] = refl
  nonzero_numbers c (x ∷ l) = step c x l (is_zero x.1) (eqb c x.0) (nonzero_numbers c l) refl refl

-- the rows that contracts name, over any numbers A
module _ {C N : Type 0} (A : Numbers C N) (c : ℕ) where
  -- a row with zero sums has a column exactly where there are contributions to it, with their ordered sum
  pub kept_columns : (es : List (ℕ × N)) → contributions_to c (row_in A true es) ≡ sum_if_any A.sum (contributions_to c es)
  unfolding row_in kept_by
  kept_columns es = row_numbers A.sum c es

  -- a row without them has a column exactly where that sum is there and not zero
  pub commutator-columns : (es : List (ℕ × N)) → contributions_to c (row_in A false es) ≡ without_zeros A.is_zero (sum_if_any A.sum (contributions_to c es))
  unfolding row_in kept_by
  commutator-columns es = nonzero_numbers A.is_zero c (row_of A.sum es) ∙ ap (without_zeros A.is_zero) (row_numbers A.sum c es)

  -- an open system's row has the columns of both parts
  pub open_columns : (es fs : List (ℕ × N)) → has_column c (open_row_in A es fs) ≡ (has_column c (row_in A false es) || has_column c (row_in A true fs))
  unfolding open_row_in
  open_columns es fs = place_all-columns A.sum c (row_in A true fs) (row_in A false es)
