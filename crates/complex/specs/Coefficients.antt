-- What the definitions on sets take of coefficients: real numbers, and complex ones.
use Rattle.std.specs.Prelude.{◌≡◌, Bool, true, ◌&&◌, Float}
use Rattle.std.specs.Float.{binary64}
use Rattle.std.specs.Float.Ieee.{add, eq}
use Rattle.complex.specs.Complex.{plus_zero, part_in_range, is_plus_zero, sum_of, is_zero, in_range}
use Rattle.complex.specs.declared.Complex.{Complex}

pub record Coefficients (N : Type 0) : Type 0 where
  -- zero, +0 in its floats; the sum of two, rounded once in each part
  pub zero : N
  pub sum : N → N → N
  -- whether one counts as zero, +0 and -0 alike
  pub is_zero : N → Bool
  -- the opposite of number 5
  pub in_range : N → Bool
  -- whether its floats are +0
  pub is_plus_zero : N → Bool

-- zero and no other coefficient is +0
pub record PlusZeroLaws {N : Type 0} (c : Coefficients N) : Type 0 where
  pub passes : c.is_plus_zero c.zero ≡ true
  pub only : (x : N) → c.is_plus_zero x ≡ true → x ≡ c.zero

-- real coefficients
abbrev pub reals : Coefficients Float
reals =
    record {
      zero = plus_zero;
      sum = add binary64;
      is_zero = λ x. eq x plus_zero;
      in_range = part_in_range;
      is_plus_zero = is_plus_zero;
    }

-- zero in both parts
abbrev pub zero_complex : Complex
zero_complex = record { re = plus_zero; im = plus_zero }

-- complex coefficients
abbrev pub complexes : Coefficients Complex
complexes =
    record {
      zero = zero_complex;
      sum = sum_of;
      is_zero = is_zero;
      in_range = in_range;
      is_plus_zero = λ z. is_plus_zero z.re && is_plus_zero z.im;
    }

-- a real number as a complex one, its second part +0
abbrev pub complex_of : Float → Complex
complex_of x = record { re = x; im = plus_zero }
