-- -1/2 times a power of i, in f64.
use Rattle.std.specs.Prelude.{ℕ, Float}
use Rattle.std.specs.Float.{binary64}
use Rattle.std.specs.Float.Ieee.{of_bits, mul}
use Rattle.complex.specs.Complex.{unit_of_I}
use Rattle.complex.specs.declared.Complex.{Complex}

-- -1/2 i^k as two floats: both parts of i^k, which are 0, 1 or -1, times -1/2 exactly
abbrev pub minus_half_float : Float
minus_half_float = of_bits binary64 13826050856027422720

unfoldable pub minus_half_unit : ℕ → Complex
minus_half_unit k = record { re = mul binary64 minus_half_float (unit_of_I k).re; im = mul binary64 minus_half_float (unit_of_I k).im }
