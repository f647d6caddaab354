-- Worked cases of the definitions, each computed. Assumes nothing.
use mathlib.Core.Path.{◌≡◌, refl}
use mathlib.Core.Bool.{true, false}
use mathlib.Core.Option.{none, some}
use lib.IntN.{pos, negsuc}
use lib.Ieee.{Float, nan, inf, fin, of_bits, add, sub, mul, neg, eq}
use Rattle.complex.specs.Complex.{at_most, part_in_range, in_range, is_zero, product_of, sum_of, conjugate_of, plus_zero}
use Rattle.complex.specs.Wholes.{whole_fraction, parts_in, whole_of, is_whole, parts_of, both_whole}

-- 2^300
abbrev limit : Float
limit = fin false 1 (pos 300)

-- ---- the range of a part

nan_out : part_in_range nan ≡ false
unfolding part_in_range at_most
nan_out = refl

infinite_out : part_in_range (inf false) ≡ false
unfolding part_in_range at_most
infinite_out = refl

minus_infinite_out : part_in_range (inf true) ≡ false
unfolding part_in_range at_most
minus_infinite_out = refl

-- 2^301, document 01's example for number 5
double_out : part_in_range (fin false 1 (pos 301)) ≡ false
unfolding part_in_range at_most
double_out = refl

minus_double_out : part_in_range (fin true 1 (pos 301)) ≡ false
unfolding part_in_range at_most
minus_double_out = refl

-- the f64 above 2^300: 2^300 + 2^248
next_out : part_in_range (fin false 4503599627370497 (pos 248)) ≡ false
unfolding part_in_range at_most
next_out = refl

-- 2^300 and -2^300
limit_in : part_in_range limit ≡ true
unfolding part_in_range at_most
limit_in = refl

minus_limit_in : part_in_range (fin true 1 (pos 300)) ≡ true
unfolding part_in_range at_most
minus_limit_in = refl

half_in : part_in_range (fin false 1 (negsuc 0)) ≡ true
unfolding part_in_range at_most
half_in = refl

-- ---- complex numbers

-- (1 + 2i)(3 + 4i) = -5 + 10i
product_case : product_of (record { re = fin false 1 (pos 0); im = fin false 1 (pos 1) }) (record { re = fin false 3 (pos 0); im = fin false 1 (pos 2) })
    ≡ record { re = fin true 5 (pos 0); im = fin false 5 (pos 1) }
unfolding product_of add sub mul neg
product_case = refl

-- (1 + 2i) + (3 + 4i) = 4 + 6i
sum_case : sum_of (record { re = fin false 1 (pos 0); im = fin false 1 (pos 1) }) (record { re = fin false 3 (pos 0); im = fin false 1 (pos 2) })
    ≡ record { re = fin false 1 (pos 2); im = fin false 3 (pos 1) }
unfolding sum_of add
sum_case = refl

-- the conjugate of 1 + 2i
conjugate_case : conjugate_of (record { re = fin false 1 (pos 0); im = fin false 1 (pos 1) })
    ≡ record { re = fin false 1 (pos 0); im = fin true 1 (pos 1) }
unfolding conjugate_of neg
conjugate_case = refl

-- +0 and -0 are zero, the smallest f64 is not, and a NaN is not
zeros_case : is_zero (record { re = fin false 0 (pos 0); im = fin true 0 (pos 0) }) ≡ true
unfolding is_zero eq of_bits
zeros_case = refl

smallest_case : is_zero (record { re = plus_zero; im = fin false 1 (negsuc 1073) }) ≡ false
unfolding is_zero eq of_bits
smallest_case = refl

nan_case : is_zero (record { re = plus_zero; im = nan }) ≡ false
unfolding is_zero eq of_bits
nan_case = refl

-- both parts count
part_out_case : in_range (record { re = plus_zero; im = fin false 1 (pos 301) }) ≡ false
unfolding in_range part_in_range at_most of_bits
part_out_case = refl

-- ---- whole parts

-- document 01's example for number 11
half_refused : whole_of (fin false 1 (negsuc 0)) ≡ none
unfolding whole_of parts_in whole_fraction
half_refused = refl

minus_three_whole : whole_of (fin true 3 (pos 0)) ≡ some (negsuc 2)
unfolding whole_of parts_in whole_fraction
minus_three_whole = refl

-- 2^40 and -2^40
most_whole : whole_of (fin false 1 (pos 40)) ≡ some (pos 1099511627776)
unfolding whole_of parts_in whole_fraction
most_whole = refl

minus_most_whole : whole_of (fin true 1 (pos 40)) ≡ some (negsuc 1099511627775)
unfolding whole_of parts_in whole_fraction
minus_most_whole = refl

-- 2^40 + 1, 2^41 and -2^41
next_refused : whole_of (fin false 1099511627777 (pos 0)) ≡ none
unfolding whole_of parts_in whole_fraction
next_refused = refl

twice_refused : whole_of (fin false 1 (pos 41)) ≡ none
unfolding whole_of parts_in whole_fraction
twice_refused = refl

minus_twice_refused : whole_of (fin true 1 (pos 41)) ≡ none
unfolding whole_of parts_in whole_fraction
minus_twice_refused = refl

-- -0 is the whole number 0
minus_zero-whole : whole_of (fin true 0 (pos 0)) ≡ some (pos 0)
unfolding whole_of parts_in whole_fraction
minus_zero-whole = refl

nan_refused : whole_of nan ≡ none
unfolding whole_of parts_in
nan_refused = refl

infinite_refused : whole_of (inf false) ≡ none
unfolding whole_of parts_in
infinite_refused = refl

minus_infinite_refused : whole_of (inf true) ≡ none
unfolding whole_of parts_in
minus_infinite_refused = refl

-- 2 + i/2: both parts count
half_part_refused : both_whole (record { re = fin false 1 (pos 1); im = fin false 1 (negsuc 0) }) ≡ false
unfolding both_whole is_whole whole_of parts_in whole_fraction
half_part_refused = refl

no_parts : parts_of nan ≡ pos 0
unfolding parts_of whole_of parts_in
no_parts = refl
