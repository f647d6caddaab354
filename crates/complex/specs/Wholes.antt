-- Whether an f64 counts as whole, and which whole number it is: document 01, "Exact row" and number 11. Definitions only.
use Rattle.std.specs.Prelude as prelude
use Rattle.std.specs.Prelude.{Some, None, ℕ, ◌*◌, ◌/◌, ◌%◌, ◌^◌, Bool, true, false, ◌&&◌, cond, leb, eqb, ℤ, pos, neg_ℤ, Float}
use Rattle.std.proofs.Math.Option.{Option, none, some, get_or}
use Rattle.std.specs.Float.{nan, inf, fin}
use Rattle.std.specs.Float.Ieee.{up, down}
use Rattle.complex.specs.declared.Complex.{Complex}

-- "whole": a multiple of 1 / 2 ^ grain_power
abbrev pub grain_power : ℕ
grain_power = 0

-- "over 2^40": more than 2 ^ most_parts_power such parts
abbrev pub most_parts_power : ℕ
most_parts_power = 40

-- a whole number of this size with this sign; zero has none
abbrev pub signed : Bool → ℕ → ℤ
signed s n = cond s (neg_ℤ (pos n)) (pos n)

-- the fraction a / b with a sign, where it is a whole number not over 2 ^ most
unfoldable pub whole_fraction : ℕ → Bool → ℕ → ℕ → Option ℤ
whole_fraction most s a b = cond (eqb (a % b) 0 && leb (a / b) (2 ^ most)) (some (signed s (a / b))) none

-- how many parts of 1 / 2 ^ grain a float is, by its value m * 2 ^ e, where 2 ^ e is the fraction up e / down e
unfoldable pub parts_in : ℕ → ℕ → Float → Option ℤ
unfolding whole_fraction
parts_in grain most nan = none
parts_in grain most (inf s) = none
parts_in grain most (fin s m e) = whole_fraction most s (2 ^ grain * (m * up e)) (down e)

-- the opposite of number 11 for one part, with the number that counts: "a part not whole or over 2^40"
unfoldable pub whole_of : Float → Option ℤ
unfolding parts_in
whole_of x = parts_in grain_power most_parts_power x

abbrev pub is_some : Option ℤ → Bool
is_some none = false
is_some (some z) = true

-- whether number 11 lets a part pass
unfoldable pub is_whole : Float → Bool
unfolding whole_of
is_whole x = is_some (whole_of x)

-- the whole number that a part is, 0 where it is none
unfoldable pub parts_of : Float → ℤ
unfolding whole_of
parts_of x = get_or (whole_of x) (pos 0)

-- whether number 11 lets a coefficient pass
unfoldable pub both_whole : Complex → Bool
unfolding is_whole
both_whole z = is_whole z.re && is_whole z.im

-- what `whole_part` answers
abbrev pub said_whole : prelude.Option ℤ → Option ℤ
said_whole (Some z) = some z
said_whole None = none
