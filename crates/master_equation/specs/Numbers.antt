-- The numbers of a row, for any arithmetic; and whole numbers, counted in halves.
use Rattle.std.specs.Prelude.{Bool, ℕ}
use Rattle.letters.specs.Gauss.{G, 𝟘, −𝟙, ◌⊕◌, ◌⊗◌, i^, eq_G}
use Rattle.master_equation.specs.Equation.{𝟚}

-- N are a row's numbers and C the coefficients of terms
pub record Numbers (C N : Type 0) : Type 0 where
  -- i^k times a coefficient, and i^k times -1/2 times a coefficient
  pub scaled : ℕ → C → N
  pub minus_half : ℕ → C → N
  pub sum : N → N → N
  pub is_zero : N → Bool

-- whole numbers, counted in halves
abbrev pub halves : Numbers G G
halves =
    record {
      scaled = λ k c. 𝟚 ⊗ i^ k ⊗ c;
      minus_half = λ k c. −𝟙 ⊗ i^ k ⊗ c;
      sum = ◌⊕◌;
      is_zero = λ x. eq_G x 𝟘;
    }
