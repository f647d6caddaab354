-- The laws of +0 that the kinds of coefficients bring along: proved here, since an `impl` cites them.
use Prim.Native.Nat.{zero, suc}
use native.Mathlib.Omega.{arith}
use mathlib.Core.Path.{◌≡◌, refl, sym, ap}
use mathlib.Core.Bool.{Bool, true, false, ◌&&◌, true≢false}
use lib.Dec.{eqb}
use lib.IntN.{pos, negsuc}
use lib.Ieee.{Float, nan, inf, fin, of_bits}
use borrow.Author.Tests.{eqb-true}
use Rattle.complex.specs.Complex.{plus_zero, is_plus_zero}
use Rattle.complex.specs.Coefficients.{PlusZeroLaws, reals, complexes, zero_complex}
use Rattle.complex.specs.declared.Complex.{Complex}

-- +0 is the one value that passes
pub plus_zero_only : (x : Float) → is_plus_zero x ≡ true → x ≡ plus_zero
unfolding is_plus_zero of_bits
plus_zero_only nan e = absurd (true≢false (sym e))
plus_zero_only (inf s) e = absurd (true≢false (sym e))
plus_zero_only (fin true m (pos n)) e = absurd (true≢false (sym e))
plus_zero_only (fin s m (negsuc n)) e = absurd (true≢false (sym e))
plus_zero_only (fin false zero (pos zero)) e = refl
plus_zero_only (fin false zero (pos (suc n))) e = let h = eqb-true (suc n) 0 e in absurd (omega arith)
plus_zero_only (fin false (suc m) (pos n)) e = go (eqb (suc m) 0) refl e
  where
    go : (b : Bool) → eqb (suc m) 0 ≡ b → (b && eqb n 0) ≡ true → fin false (suc m) (pos n) ≡ plus_zero
    go true h e = let k = eqb-true (suc m) 0 h in absurd (omega arith)
    go false h e = absurd (true≢false (sym e))

pub plus_zero_passes : is_plus_zero plus_zero ≡ true
unfolding is_plus_zero of_bits
plus_zero_passes = refl

abbrev pub real_plus_zero : PlusZeroLaws reals
real_plus_zero = record { passes = plus_zero_passes; only = plus_zero_only }

left : (x y : Bool) → (x && y) ≡ true → x ≡ true
left true y e = refl
left false y e = e

right : (x y : Bool) → (x && y) ≡ true → y ≡ true
right true y e = e
right false y e = absurd (true≢false (sym e))

pub zero_only : (a : Complex) → (is_plus_zero a.re && is_plus_zero a.im) ≡ true → a ≡ zero_complex
zero_only a e =
    let r = plus_zero_only a.re (left (is_plus_zero a.re) (is_plus_zero a.im) e) in
    let i = plus_zero_only a.im (right (is_plus_zero a.re) (is_plus_zero a.im) e) in
    λ j. record { re = r j; im = i j }

abbrev pub complex_plus_zero : PlusZeroLaws complexes
complex_plus_zero = record { passes = ap (λ (b : Bool). b && b) plus_zero_passes; only = zero_only }
