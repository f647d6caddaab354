-- Whole numbers in 64 bits: negatives and sums that do not wrap around, their sizes, both parts within a size, and zero.
-- Assumes nothing.
use Prim.Native.Nat.{ℕ, zero, suc, ◌+◌, ◌^◌, ◌≤◌, ◌<◌}
use native.Mathlib.Nat.{le_refl}
use native.Mathlib.Omega.{arith}
use mathlib.Core.Path.{◌≡◌, refl, sym, ap, ap₂, ◌∙◌}
use mathlib.Core.Bool.{Bool, true, false, ◌&&◌, true≢false}
use lib.Dec.{leb, ltb, leb-suc-suc}
use lib.IntN.{ℤ, pos, negsuc, neg_ℤ, nat_abs, sub_ℕ, ◌+ℤ◌, pos-ne-negsuc}
use lib.Signed.{mag, le_z, lt_z}
use borrow.Author.Tests.{leb-true, le-leb, lt-leb, ltb-true, ltb-false, lt-ltb, le-ltb, ne_eqb}
use Rattle.std.specs.Int.{w64, cast_signed, cast_unsigned, int_wrapping_add, int_wrapping_neg}
use Rattle.std.specs.Ordering.{int_eq}
use Rattle.std.proofs.lemmas.Int.{to_z-of_z, fits_signed_from_abs, wrapping_add_is, wrapping_neg_is, int_wrap_fits}
use Rattle.letters.specs.Gauss.{G, 𝟘, ◌⊕◌, ⊝, eqℤ, eq_G}
use Rattle.letters.proofs.TestLaws.{and_true, and_left, and_right}
use Rattle.master_equation.specs.Numbers.{halves}
use Rattle.exact_sums.specs.ExactSums.{whole, within}
use Rattle.exact_sums.specs.Wrapped.{wrapped, sum_of, minus_of}
use Rattle.exact_sums.specs.declared.Halves.{Halves}

-- ---- sizes

pub abs_neg : (z : ℤ) → nat_abs (neg_ℤ z) ≡ nat_abs z
abs_neg (pos zero) = refl
abs_neg (pos (suc n)) = refl
abs_neg (negsuc n) = refl

abs_difference : (a b : ℕ) → nat_abs (sub_ℕ a b) ≤ a + b
abs_difference a b = go (ltb a b) refl
  where
    go : (t : Bool) → ltb a b ≡ t → nat_abs (sub_ℕ a b) ≤ a + b
    go true e = let h : a < b = ltb-true a b e in rw e (omega arith)
    go false e = let h : b ≤ a = ltb-false a b e in rw e (omega arith)

pub abs_sum : (x y : ℤ) → nat_abs (x +ℤ y) ≤ nat_abs x + nat_abs y
abs_sum (pos a) (pos b) = le_refl (a + b)
abs_sum (pos a) (negsuc b) = abs_difference a (suc b)
abs_sum (negsuc a) (pos b) = omega (arith, abs_difference b (suc a))
abs_sum (negsuc a) (negsuc b) = omega arith

-- ---- the test of a size l

pub below-within : (x l : ℤ) → lt_z x (pos 0) ≡ true → pos (nat_abs l) ≡ l → le_z (neg_ℤ l) x ≡ leb (nat_abs x) (nat_abs l)
below-within (pos a) l h e = absurd (omega (arith, ltb-true a 0 h))
below-within (negsuc k) (pos zero) h e = sym (lt-leb (suc k) 0 (omega arith))
below-within (negsuc k) (pos (suc j)) h e = sym (leb-suc-suc k j)
below-within (negsuc k) (negsuc j) h e = absurd (pos-ne-negsuc (suc j) j e)

pub above_within : (x l : ℤ) → lt_z x (pos 0) ≡ false → pos (nat_abs l) ≡ l → le_z x l ≡ leb (nat_abs x) (nat_abs l)
above_within (pos a) (pos m) h e = refl
above_within (pos a) (negsuc j) h e = absurd (pos-ne-negsuc (suc j) j e)
above_within (negsuc k) l h e = absurd (true≢false h)

-- ---- both parts within a size

module _ (m : ℕ) (z : G) where
  pub within-re : within m z ≡ true → nat_abs z.re ≤ m
  unfolding within
  within-re e = leb-true (nat_abs z.re) m (and_left (leb (nat_abs z.re) m) (leb (nat_abs z.im) m) e)

  pub within-im : within m z ≡ true → nat_abs z.im ≤ m
  unfolding within
  within-im e = leb-true (nat_abs z.im) m (and_right (leb (nat_abs z.re) m) (leb (nat_abs z.im) m) e)

  pub within_both : nat_abs z.re ≤ m → nat_abs z.im ≤ m → within m z ≡ true
  unfolding within
  within_both h k = and_true (le-leb (nat_abs z.re) m h) (le-leb (nat_abs z.im) m k)

-- both parts tested by the limit l, the first passed or not: u, v and w are x, y and l as read back
module _ (l x y : ℤ) {w : ℤ} (b : w ≡ l) where
  test : {z u : ℤ} {p : Bool} → u ≡ z → p ≡ leb (nat_abs u) (nat_abs w) → p ≡ leb (nat_abs z) (nat_abs l)
  test a f = f ∙ ap₂ (λ (u w : ℤ). leb (nat_abs u) (nat_abs w)) a b

  first : {t : Bool} {u : ℤ} {p : Bool} → u ≡ x → p ≡ leb (nat_abs u) (nat_abs w) → p ≡ t → within (nat_abs l) (whole x y) ≡ t && leb (nat_abs y) (nat_abs l)
  unfolding within
  first a f e = ap (λ (t : Bool). t && leb (nat_abs y) (nat_abs l)) (sym (test a f) ∙ e)

  pub tested_both : {u v : ℤ} {p q : Bool} → u ≡ x → v ≡ y → p ≡ leb (nat_abs u) (nat_abs w) → p ≡ true → q ≡ leb (nat_abs v) (nat_abs w) → q ≡ within (nat_abs l) (whole x y)
  tested_both a d f e g = test d g ∙ sym (first a f e)

  pub tested_first : {u : ℤ} {p : Bool} → u ≡ x → p ≡ leb (nat_abs u) (nat_abs w) → p ≡ false → false ≡ within (nat_abs l) (whole x y)
  tested_first a f e = sym (first a f e)

-- ---- what does not wrap around

-- what is read back from the bits of a number that fits
pub read : (z : ℤ) → mag z < 2 ^ 63 → cast_signed w64 (cast_unsigned w64 z) ≡ z
read z h = to_z-of_z w64 z (record { sfits = h })

pub negated : (x : ℤ) → nat_abs x < 2 ^ 63 → int_wrapping_neg w64 x ≡ neg_ℤ x
negated x h =
    wrapping_neg_is w64 x (fits_signed_from_abs w64 x h) ∙ int_wrap_fits w64 (neg_ℤ x) (fits_signed_from_abs w64 (neg_ℤ x) (omega (arith, abs_neg x)))

added : (x y : ℤ) → nat_abs x + nat_abs y < 2 ^ 63 → int_wrapping_add w64 x y ≡ x +ℤ y
added x y h =
    wrapping_add_is w64 x y (fits_signed_from_abs w64 x (omega arith)) (fits_signed_from_abs w64 y (omega arith))
    ∙ int_wrap_fits w64 (x +ℤ y) (fits_signed_from_abs w64 (x +ℤ y) (omega (arith, abs_sum x y)))

-- the whole number that the code's is
abbrev pub number : Halves → G
number z = whole z.re z.im

pub minus_exact : (z : Halves) → nat_abs z.re < 2 ^ 63 → nat_abs z.im < 2 ^ 63 → number (minus_of z) ≡ ⊝ (number z)
unfolding ⊝
minus_exact z h k = ap₂ whole (negated z.re h) (negated z.im k)

pub sum_exact : (x y : Halves) → nat_abs x.re + nat_abs y.re < 2 ^ 63 → nat_abs x.im + nat_abs y.im < 2 ^ 63 → number (sum_of x y) ≡ number x ⊕ number y
unfolding ◌⊕◌
sum_exact x y h k = ap₂ whole (added x.re y.re h) (added x.im y.im k)

zero_part : (x : ℤ) → int_eq x (pos 0) ≡ eqℤ x (pos 0)
unfolding eqℤ
zero_part (pos zero) = refl
zero_part (pos (suc n)) = rw (le-ltb (suc n) 0 (omega arith), lt-ltb 0 (suc n) (omega arith), ne_eqb (suc n) 0 (λ e. omega arith))
zero_part (negsuc n) = refl

pub zero_exact : (z : Halves) → wrapped.is_zero z ≡ halves.is_zero (number z)
unfolding eq_G 𝟘
zero_exact z = ap₂ ◌&&◌ (zero_part z.re) (zero_part z.im)
