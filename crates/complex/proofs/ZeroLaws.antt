-- +0 as a test: the one value that `is_plus_zero` passes, and the one whose bits are 0.
-- Assumes nothing.
use mathlib.Core.Path.{◌≡◌, refl, sym, ap, ◌∙◌}
use mathlib.Core.Bool.{Bool, true, false, not, true≢false}
use lib.Dec.{T, eqb}
use lib.Ieee.{Float, nan, inf, fin, binary64, eq, of_bits, to_bits, fits, is_nan}
use lib.Ieee.Bits.{of_bits-to_bits}
use borrow.Author.Tests.{eqb-true}
use Rattle.complex.specs.Complex.{plus_zero, is_plus_zero}
use Rattle.complex.specs.PlusZero.{plus_zero_only, plus_zero_passes}

-- a value that compares with 0 is a number
pub compared_number : (x y : Float) → eq x y ≡ true → T (not (is_nan x))
unfolding eq is_nan
compared_number nan y e = absurd (true≢false (sym e))
compared_number (inf s) y e = tt
compared_number (fin s m d) y e = tt

-- the bits are 0 exactly at +0
pub bits_zero : (x : Float) → T (fits binary64 x) → eqb (to_bits binary64 x) 0 ≡ is_plus_zero x
unfolding to_bits of_bits
bits_zero x f = go (eqb (to_bits binary64 x) 0) refl (is_plus_zero x) refl
  where
    go : (t : Bool) → eqb (to_bits binary64 x) 0 ≡ t → (u : Bool) → is_plus_zero x ≡ u → eqb (to_bits binary64 x) 0 ≡ is_plus_zero x
    go true e u g =
        let q : x ≡ plus_zero = sym (of_bits-to_bits binary64 x f) ∙ ap (of_bits binary64) (eqb-true (to_bits binary64 x) 0 e) in
        e ∙ sym (ap is_plus_zero q ∙ plus_zero_passes)
    go false e false g = e ∙ sym g
    go false e true g = absurd (true≢false (sym (ap (λ (y : Float). eqb (to_bits binary64 y) 0) (plus_zero_only x g)) ∙ e))

-- a value that does not equal 0 is not +0
pub plus_zero_no : (x : Float) → eq x plus_zero ≡ false → is_plus_zero x ≡ false
unfolding eq of_bits
plus_zero_no x e = go (is_plus_zero x) refl
  where
    go : (u : Bool) → is_plus_zero x ≡ u → is_plus_zero x ≡ false
    go false g = g
    go true g = absurd (true≢false (sym (ap (λ (y : Float). eq y plus_zero) (plus_zero_only x g)) ∙ e))
