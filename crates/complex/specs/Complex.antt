-- Complex numbers of two f64, and the size that a coefficient may have, from document 01. Definitions only.
-- `add`, `sub`, `mul` and `neg` are those of IEEE 754, and each rounds once.
use Rattle.std.specs.Prelude.{ℕ, zero, suc, ◌*◌, ◌^◌, ◌%◌, Bool, false, not, ◌&&◌, leb, eqb, pos, negsuc, Float}
use Rattle.std.specs.Float.{nan, inf, fin, binary64}
use Rattle.std.specs.Float.Ieee.{of_bits, add, sub, mul, neg, eq, up, down}
use Rattle.complex.specs.declared.Complex.{Complex}

-- +0: "anything but zeros (+0 in floats)"
abbrev pub plus_zero : Float
plus_zero = of_bits binary64 0

-- 1 and -1, the parts of the "units of i"
abbrev pub plus_one : Float
plus_one = of_bits binary64 4607182418800017408

abbrev pub minus_one : Float
minus_one = of_bits binary64 13830554455654793216

-- "plus the given one, each part rounded once"
unfoldable pub sum_of : Complex → Complex → Complex
sum_of x y = record { re = add binary64 x.re y.re; im = add binary64 x.im y.im }

-- "(a+bi)(c+di) is (ac-bd) + (ad+bc)i, each operation rounded once"
unfoldable pub product_of : Complex → Complex → Complex
product_of x y = record {
  re = sub binary64 (mul binary64 x.re y.re) (mul binary64 x.im y.im);
  im = add binary64 (mul binary64 x.re y.im) (mul binary64 x.im y.re);
}

-- "(conjugate of right, times left)": the imaginary part is negated
unfoldable pub conjugate_of : Complex → Complex
conjugate_of z = record { re = z.re; im = neg z.im }

-- "if it is zero in both parts", "+0 and -0 alike"
unfoldable pub is_zero : Complex → Bool
is_zero z = eq z.re plus_zero && eq z.im plus_zero

-- not NaN, not infinite and not "over" 2 ^ k in size; 2 ^ e is the fraction up e / down e
unfoldable pub at_most : ℕ → Float → Bool
at_most k nan = false
at_most k (inf s) = false
at_most k (fin s m e) = leb (m * up e) (2 ^ k * down e)

-- the power of 2 in number 5's limit: "over 2^300"
abbrev pub limit_power : ℕ
limit_power = 300

-- the opposite of number 5 for one part: "NaN, infinite or over 2^300 in a part"
unfoldable pub part_in_range : Float → Bool
unfolding at_most
part_in_range x = at_most limit_power x

-- the opposite of number 5: "coefficient given or finally held that is NaN, infinite or over 2^300 in a part"
unfoldable pub in_range : Complex → Bool
unfolding part_in_range
in_range z = part_in_range z.re && part_in_range z.im

-- 1, i, -1 and -i: "units of i are exact"
unfoldable pub unit_of : ℕ → Complex
unit_of zero = record { re = plus_one; im = plus_zero }
unit_of (suc zero) = record { re = plus_zero; im = plus_one }
unit_of (suc (suc zero)) = record { re = minus_one; im = plus_zero }
unit_of (suc (suc (suc n))) = record { re = plus_zero; im = minus_one }

-- i to a power, which counts modulo 4
unfoldable pub unit_of_I : ℕ → Complex
unfolding unit_of
unit_of_I power = unit_of (power % 4)

-- "zeros (+0 in floats)": the value +0 and no other
unfoldable pub is_plus_zero : Float → Bool
is_plus_zero nan = false
is_plus_zero (inf s) = false
is_plus_zero (fin s m (pos n)) = not s && (eqb m 0 && eqb n 0)
is_plus_zero (fin s m (negsuc n)) = false
