-- What a set of terms is made of: its terms, their keys and coefficients, and how coefficients add up.
-- The sets of the program are such kinds over f64, and the theorems on matrices are about one over Gaussian integers.
use Rattle.std.specs.Prelude.{ℕ, Bool}

-- K is the type of keys, N that of coefficients
pub record Terms (K N : Type 0) : Type 1 where
  pub Term : Type 0
  pub term : K → N → Term
  pub key : Term → K
  pub coefficient : Term → N
  -- whether two keys are the same
  pub same : K → K → Bool
  -- the coefficient zero, the sum of two, and whether one counts as zero
  pub zero : N
  pub sum : N → N → N
  pub is_zero : N → Bool

-- products, conjugates and powers of i of coefficients, for the chains of additions
pub record Products (N : Type 0) : Type 0 where
  pub product : N → N → N
  pub conjugate : N → N
  pub unit : ℕ → N
