-- Laws of the size test: two comparisons decide it.
-- Then the range and the zero test of a real number. Assumes nothing.
use Prim.Native.Nat.{ℕ, ◌+◌, ◌*◌, ◌^◌, ◌<◌}
use native.Mathlib.Nat.{mul-one, one-mul, mul-pos}
use native.Mathlib.Omega.{arith}
use mathlib.Core.Path.{◌≡◌, refl, sym, ◌∙◌}
use mathlib.Core.Bool.{Bool, true, false, ◌&&◌, ◌||◌, and-true, true≢false}
use lib.Dec.{leb, ltb, eqb}
use lib.IntN.{ℤ, pos}
use lib.Pow.{pow_pos}
use lib.Ieee.{Float, nan, inf, fin, le, lt, eq, up, down, of_bits}
use lib.Ieee.Fits.{down_pos}
use borrow.Author.Tests.{lt-ltb, le-leb, lt-leb, ltb-true, ltb-false, eqb-true, eqb-false}
use Rattle.complex.specs.Complex.{at_most, part_in_range, in_range, is_zero, plus_zero}

-- a ≤ b as `<` or `=`, by any test of equality
le_split : (a b : ℕ) (t : Bool) → (t ≡ true → a ≡ b) → (t ≡ false → a ≡ b → ⊥) → (ltb a b || (t && true)) ≡ leb a b
le_split a b t same other = go (ltb a b) refl t same other
  where
    go : (u : Bool) → ltb a b ≡ u → (t : Bool) → (t ≡ true → a ≡ b) → (t ≡ false → a ≡ b → ⊥) → (u || (t && true)) ≡ leb a b
    go true e t same other = rw (le-leb a b (omega (arith, ltb-true a b e)))
    go false e true same other = rw (le-leb a b (omega (arith, same refl)))
    go false e false same other =
        let h = ltb-false a b e in
        let n = other refl in
        rw (lt-leb a b (omega arith))

module _ (k : ℕ) where
  -- 0 < 2 ^ k, as the comparisons compute it
  power_pos : (d : ℤ) → 0 < 1 * 2 ^ k * down d
  power_pos d = mul-pos (mul-pos (omega arith) (pow_pos k)) (down_pos d)

  -- m 2 ^ d ≤ 2 ^ k, as `le` computes it
  at_most_split : (m : ℕ) (d : ℤ) → (ltb (m * up d * 1) (1 * 2 ^ k * down d) || (eqb (m * up d * 1) (1 * 2 ^ k * down d) && true)) ≡ leb (m * up d * 1) (1 * 2 ^ k * down d)
  at_most_split m d =
      let x = m * up d * 1 in
      let y = 1 * 2 ^ k * down d in
      le_split x y (eqb x y) (eqb-true x y) (eqb-false x y)

  -- x > 2 ^ k, or a NaN, is not of size at most 2 ^ k
  pub above_power : (x : Float) → le x (fin false 1 (pos k)) ≡ false → at_most k x ≡ false
  unfolding le lt eq at_most
  above_power nan e = refl
  above_power (inf s) e = refl
  above_power (fin false m d) e =
      rw (← mul-one (m * up d), ← one-mul (2 ^ k)) (sym (at_most_split m d) ∙ e)
  above_power (fin true m d) e =
      let p = power_pos d in
      absurd (true≢false (rw (lt-ltb 0 (m * up d * 1 + 1 * 2 ^ k * down d) (omega arith)) at e))

  -- where x ≤ 2 ^ k, its size is at most 2 ^ k exactly if -2 ^ k ≤ x
  pub between_powers : (x : Float) → le x (fin false 1 (pos k)) ≡ true → le (fin true 1 (pos k)) x ≡ at_most k x
  unfolding le lt eq at_most
  between_powers nan e = refl
  between_powers (inf true) e = refl
  between_powers (inf false) e = sym e
  between_powers (fin false m d) e =
      let p = power_pos d in
      rw (lt-ltb 0 (1 * 2 ^ k * down d + m * up d * 1) (omega arith), ← mul-one (m * up d), ← one-mul (2 ^ k)) (sym e ∙ at_most_split m d)
  between_powers (fin true m d) e =
      let x = m * up d * 1 in
      let y = 1 * 2 ^ k * down d in
      le_split x y (eqb y x) (λ e. sym (eqb-true y x e)) (λ e q. eqb-false y x e (sym q)) ∙ rw (mul-one (m * up d), one-mul (2 ^ k))

-- a real number, with the imaginary part +0, is in range where that number is
pub in_range_real : (x : Float) → in_range (record { re = x; im = plus_zero }) ≡ part_in_range x
unfolding in_range part_in_range at_most of_bits
in_range_real x = and-true (part_in_range x)

-- a real number is zero where its real part is
pub is_zero_real : (x : Float) → is_zero (record { re = x; im = plus_zero }) ≡ eq x plus_zero
unfolding is_zero eq of_bits
is_zero_real x = and-true (eq x plus_zero)
