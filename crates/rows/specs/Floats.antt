-- The numbers of a row in f64, each operation rounded once; and whole numbers as f64.
use Rattle.std.specs.Float.{binary64}
use Rattle.std.specs.Float.Ieee.{of_int}
use Rattle.complex.specs.Complex.{sum_of, product_of, unit_of_I, is_zero}
use Rattle.complex.specs.declared.Complex.{Complex}
use Rattle.letters.specs.Gauss.{G}
use Rattle.rows.specs.HalfUnits.{minus_half_unit}
use Rattle.master_equation.specs.Numbers.{Numbers}

-- f64: each contribution is one complex product
abbrev pub floats : Numbers Complex Complex
floats =
    record {
      scaled = λ k c. product_of c (unit_of_I k);
      minus_half = λ k c. product_of c (minus_half_unit k);
      sum = sum_of;
      is_zero = is_zero;
    }

-- a Gaussian integer as two f64
abbrev pub in_floats : G → Complex
in_floats z = record { re = of_int binary64 z.re; im = of_int binary64 z.im }
