-- The size of a number below 0, from the number after it; a number that isn't below 0.
-- Assumes nothing.
use Prim.Native.Nat.{ℕ, zero, suc, ◌+◌, ◌≤◌}
use mathlib.Core.Path.{◌≡◌, refl, ap, ◌∙◌}
use mathlib.Core.Bool.{true, false, true≢false}
use native.Mathlib.Omega.{arith}
use lib.Dec.{T}
use lib.IntN.{ℤ, pos, negsuc, neg_ℤ, nat_abs, ◌+ℤ◌, ◌-ℤ◌, +ℤ_idl, neg_ℤ-neg_ℤ}
use lib.Signed.{mag, lt_z, non_neg}
use borrow.Author.Tests.{lt-ltb, ltb-true}

-- the number after -(k + 1) is -k
pub number-after : (z : ℤ) → lt_z z (pos 0) ≡ true → z +ℤ pos 1 ≡ neg_ℤ (pos (mag z))
number-after (pos n) h = absurd (omega (arith, ltb-true n 0 h))
number-after (negsuc zero) h = refl
number-after (negsuc (suc k)) h = rw (lt-ltb 1 (suc (suc k)) (omega arith)) (ap negsuc (omega arith))

pub negated_twice : (k : ℕ) → pos 0 -ℤ neg_ℤ (pos k) ≡ pos k
negated_twice k = +ℤ_idl _ ∙ neg_ℤ-neg_ℤ (pos k)

pub mag_negated : (k : ℕ) → mag (neg_ℤ (pos k)) ≤ k
mag_negated zero = omega arith
mag_negated (suc k) = omega arith

pub size_below : (z : ℤ) → lt_z z (pos 0) ≡ true → mag z + 1 ≡ nat_abs z
size_below (pos n) h = absurd (omega (arith, ltb-true n 0 h))
size_below (negsuc k) h = omega arith

pub size_above : (z : ℤ) → lt_z z (pos 0) ≡ false → T (non_neg z) × (mag z ≡ nat_abs z)
size_above (pos n) h = (tt, refl)
size_above (negsuc k) h = absurd (true≢false h)
