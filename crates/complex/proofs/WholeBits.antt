-- The parts of a float from the fields of its bit pattern, for any grain and limit that the fields can count. Assumes nothing.
use Prim.Native.Nat.{ℕ, zero, suc, ◌+◌, ◌-◌, ◌*◌, ◌/◌, ◌%◌, ◌^◌, ◌≤◌, ◌<◌}
use native.Mathlib.Nat.{one-mul, mul_assoc, mul_comm, mul-le-mul, mul-pos, zero-mul, mod-eq_of_lt, le-div_iff_mul-le, le_refl, le_trans, lt_of_lt_of_le, lt_irrefl}
use native.Mathlib.Omega.{arith}
use mathlib.Core.Path.{◌≡◌, refl, sym, ap, ◌∙◌, subst}
use mathlib.Core.Bool.{Bool, true, false, not, cond, and-false, true≢false}
use mathlib.Core.Option.{none, some, map}
use lib.Dec.{T, leb, eqb}
use lib.IntN.{pos, neg_ℤ}
use lib.Pow.{pow_pos, pow-lt, pow_mono, pow-add, shl_lt, field}
use lib.Ieee.{Float, nan, inf, fin, binary64, neg, eq, ne, is_nan, odd, of_fields, of_bits, to_bits, fits}
use lib.Ieee.Bits.{of_bits-to_bits}
use lib.Ieee.Exact.{odd_sign}
use borrow.Author.Tests.{lt-leb, le-leb, leb-true, leb-false, eq-eqb, ne_eqb}
use Rattle.complex.specs.Wholes.{signed, whole_fraction, parts_in, whole_of}
use Rattle.complex.proofs.WholeLaws.{fraction_same, fraction_zero, parts_value, whole_neg}

-- ---- a fraction by its rest and its size

pub fraction_whole : (most : ℕ) (s : Bool) (a b : ℕ) → a % b ≡ 0 → leb (a / b) (2 ^ most) ≡ true → whole_fraction most s a b ≡ some (signed s (a / b))
unfolding whole_fraction
fraction_whole most s a b h k = rw (eq-eqb (a % b) 0 h, k)

pub fraction_rest : (most : ℕ) (s : Bool) (a b : ℕ) → (a % b ≡ 0 → ⊥) → whole_fraction most s a b ≡ none
unfolding whole_fraction
fraction_rest most s a b h = rw (ne_eqb (a % b) 0 h)

pub fraction_over : (most : ℕ) (s : Bool) (a b : ℕ) → leb (a / b) (2 ^ most) ≡ false → whole_fraction most s a b ≡ none
unfolding whole_fraction
fraction_over most s a b h = rw (h, and-false (eqb (a % b) 0))

-- ---- the sign bit

odd_neg : (d q k l : ℕ) → odd d true q k l ≡ neg (odd d false q k l)
unfolding odd neg
odd_neg d zero k l = refl
odd_neg d (suc q) k l = refl

fields_neg : (f t : ℕ) → of_fields binary64 true f t ≡ neg (of_fields binary64 false f t)
unfolding of_fields neg
fields_neg zero t = odd_neg 53 t 0 1074
fields_neg (suc x) t = go (eqb (suc x) 2047) (eqb t 0)
  where
    go : (a b : Bool) → cond a (cond b (inf true) nan) (odd 53 true (2 ^ 52 + t) x 1074) ≡ neg (cond a (cond b (inf false) nan) (odd 53 false (2 ^ 52 + t) x 1074))
    go true true = refl
    go true false = refl
    go false b = odd_neg 53 (2 ^ 52 + t) x 1074

-- ---- fractions m * 2 ^ p over 2 ^ 1074, the smallest float

below_one : (most d m p : ℕ) → 0 < m → m < 2 ^ d → d + p ≤ 1074 → whole_fraction most false (m * 2 ^ p) (2 ^ 1074) ≡ none
below_one most d m p h k l =
    let r : m * 2 ^ p % 2 ^ 1074 ≡ m * 2 ^ p = mod-eq_of_lt (lt_of_lt_of_le (shl_lt d p k) (pow_mono {i = d + p} {j = 1074} l)) in
    fraction_rest most false (m * 2 ^ p) (2 ^ 1074) (λ z. lt_irrefl 0 (rw (sym r ∙ z) at (mul-pos h (pow_pos p))))

over_limit : (most d m p : ℕ) → 2 ^ d ≤ m → 1074 + most < d + p → whole_fraction most false (m * 2 ^ p) (2 ^ 1074) ≡ none
over_limit most d m p h k =
    let b : 2 ^ suc most * 2 ^ 1074 ≤ m * 2 ^ p =
    le_trans (rw (← pow-add 2 (suc most) 1074, ← pow-add 2 d p) (pow_mono {i = suc most + 1074} {j = d + p} (omega arith))) (mul-le-mul {n₁ = 2 ^ d} {m₁ = 2 ^ p} {n₂ = m} {m₂ = 2 ^ p} h (le_refl (2 ^ p))) in
    fraction_over most false (m * 2 ^ p) (2 ^ 1074) (lt-leb (m * 2 ^ p / 2 ^ 1074) (2 ^ most) (lt_of_lt_of_le (pow-lt {i = most} {j = suc most} (omega arith)) ((le-div_iff_mul-le (pow_pos 1074)).1 b)))

cancelled : (most m p : ℕ) → p ≤ 1074 → whole_fraction most false (m * 2 ^ p) (2 ^ 1074) ≡ whole_fraction most false m (2 ^ (1074 - p))
cancelled most m p h =
    let j : p + (1074 - p) ≡ 1074 = omega arith in
    fraction_same most false (m * 2 ^ p) (2 ^ 1074) m (2 ^ (1074 - p)) (pow_pos 1074) (pow_pos (1074 - p))
    (mul_assoc m (2 ^ p) (2 ^ (1074 - p)) ∙ ap (λ (y : ℕ). m * y) (sym (pow-add 2 p (1074 - p)) ∙ ap (λ (y : ℕ). 2 ^ y) j))

-- ---- the exponent field f and the digits t

module _ (grain most : ℕ) (fine : grain ≤ 1022) (few : most ≤ 52) where
  -- the parts of m * 2 ^ x of the smallest float
  odd_parts : (m x : ℕ) → parts_in grain most (odd 53 false m x 1074) ≡ whole_fraction most false (m * 2 ^ (x + grain)) (2 ^ 1074)
  odd_parts m x =
      let g : 2 ^ grain * (m * 2 ^ x) ≡ m * 2 ^ (x + grain) =
      mul_comm (2 ^ grain) (m * 2 ^ x) ∙ mul_assoc m (2 ^ x) (2 ^ grain) ∙ ap (λ (y : ℕ). m * y) (sym (pow-add 2 x grain)) in
      parts_value grain most (odd 53 false m x 1074) false (m * 2 ^ x) (2 ^ 1074) (pow_pos 1074) (odd_sign 53 false m x 1074) ∙ ap (λ (y : ℕ). whole_fraction most false y (2 ^ 1074)) g

  -- a field of 0 is 0, or too small to be whole
  pub fields_zero : parts_in grain most (of_fields binary64 false 0 0) ≡ some (pos 0)
  unfolding of_fields
  fields_zero = odd_parts 0 0 ∙ rw zero-mul (fraction_zero most false (2 ^ 1074) (pow_pos 1074))

  pub fields_tiny : (t : ℕ) → 0 < t → t < 2 ^ 52 → parts_in grain most (of_fields binary64 false 0 t) ≡ none
  unfolding of_fields
  fields_tiny t p h = odd_parts t 0 ∙ below_one most 52 t (0 + grain) p h (omega arith)

  -- another field: 2 ^ 52 + t at 2 ^ (f - 1), but for infinities and NaNs
  fields_finite : (x t : ℕ) → suc x < 2047 → parts_in grain most (of_fields binary64 false (suc x) t) ≡ whole_fraction most false ((2 ^ 52 + t) * 2 ^ (x + grain)) (2 ^ 1074)
  unfolding of_fields
  fields_finite x t h = rw (ne_eqb (suc x) 2047 (omega arith)) (odd_parts (2 ^ 52 + t) x)

  -- below 1
  pub fields_low : (f t : ℕ) → 0 < f → f + grain < 1023 → t < 2 ^ 52 → parts_in grain most (of_fields binary64 false f t) ≡ none
  fields_low zero t p h k = absurd (omega arith)
  fields_low (suc x) t p h k = fields_finite x t (omega arith) ∙ below_one most 53 (2 ^ 52 + t) (x + grain) (omega arith) (omega arith) (omega arith)

  -- twice the limit or more
  pub fields_high : (f t : ℕ) → 1023 + most < f + grain → parts_in grain most (of_fields binary64 false f t) ≡ none
  unfolding of_fields parts_in
  fields_high zero t h = absurd (omega arith)
  fields_high (suc x) t h = go (eqb (suc x) 2047) (eqb t 0)
    where
      go : (a b : Bool) → parts_in grain most (cond a (cond b (inf false) nan) (odd 53 false (2 ^ 52 + t) x 1074)) ≡ none
      go true true = refl
      go true false = refl
      go false b = odd_parts (2 ^ 52 + t) x ∙ over_limit most 52 (2 ^ 52 + t) (x + grain) (omega arith) (omega arith)

  -- between these
  pub fields_middle : (f t : ℕ) → 0 < f → 1023 ≤ f + grain → f + grain ≤ 1023 + most
      → parts_in grain most (of_fields binary64 false f t) ≡ whole_fraction most false (2 ^ 52 + t) (2 ^ (1075 - (f + grain)))
  fields_middle zero t p h k = absurd (omega arith)
  fields_middle (suc x) t p h k =
      let j : 1074 - (x + grain) ≡ 1075 - (suc x + grain) = omega arith in
      fields_finite x t (omega arith) ∙ cancelled most (2 ^ 52 + t) (x + grain) (omega arith) ∙ ap (λ (y : ℕ). whole_fraction most false (2 ^ 52 + t) (2 ^ y)) j

-- ---- the bits

bits_fields : (x : Float) → T (fits binary64 x)
    → x ≡ of_fields binary64 (leb (2 ^ 63) (to_bits binary64 x)) (to_bits binary64 x / 2 ^ 52 % 2 ^ 11) (to_bits binary64 x % 2 ^ 52)
unfolding of_bits
bits_fields x f =
    let b = to_bits binary64 x in
    sym (of_bits-to_bits binary64 x f) ∙ ap (λ (k : ℕ). of_fields binary64 (leb (2 ^ 63) b) k (b % 2 ^ 52)) (field b 11 52)

pub bits_positive : (x : Float) → T (fits binary64 x) → to_bits binary64 x < 2 ^ 63
    → whole_of x ≡ whole_of (of_fields binary64 false (to_bits binary64 x / 2 ^ 52 % 2 ^ 11) (to_bits binary64 x % 2 ^ 52))
bits_positive x f h = ap whole_of (bits_fields x f ∙ rw (lt-leb (2 ^ 63) (to_bits binary64 x) h))

pub bits_negative : (x : Float) → T (fits binary64 x) → 2 ^ 63 ≤ to_bits binary64 x
    → whole_of x ≡ map neg_ℤ (whole_of (of_fields binary64 false (to_bits binary64 x / 2 ^ 52 % 2 ^ 11) (to_bits binary64 x % 2 ^ 52)))
bits_negative x f h =
    let b = to_bits binary64 x in
    ap whole_of (bits_fields x f ∙ rw (le-leb (2 ^ 63) b h) (fields_neg (b / 2 ^ 52 % 2 ^ 11) (b % 2 ^ 52))) ∙ whole_neg (of_fields binary64 false (b / 2 ^ 52 % 2 ^ 11) (b % 2 ^ 52))

pub bits_none : (x : Float) → T (fits binary64 x)
    → whole_of (of_fields binary64 false (to_bits binary64 x / 2 ^ 52 % 2 ^ 11) (to_bits binary64 x % 2 ^ 52)) ≡ none → whole_of x ≡ none
bits_none x f e = go (leb (2 ^ 63) (to_bits binary64 x)) refl
  where
    go : (s : Bool) → leb (2 ^ 63) (to_bits binary64 x) ≡ s → whole_of x ≡ none
    go true h = bits_negative x f (leb-true (2 ^ 63) (to_bits binary64 x) h) ∙ ap (map neg_ℤ) e
    go false h = bits_positive x f (leb-false (2 ^ 63) (to_bits binary64 x) h) ∙ e

-- ---- what the code works out

-- a power of 2 made by a shift
pub shifted_unit : (k : ℕ) → k < 64 → 1 * 2 ^ k % 2 ^ 64 ≡ 2 ^ k
shifted_unit k h = rw (one-mul (2 ^ k)) (mod-eq_of_lt (pow-lt {i = k} {j = 64} h))

pub unit_positive : (k : ℕ) → k < 64 → 0 < 1 * 2 ^ k % 2 ^ 64
unit_positive k h = rw (shifted_unit k h) (pow_pos k)

-- a NaN has no parts
pub nan_none : (x : Float) → is_nan x ≡ true → whole_of x ≡ none
unfolding is_nan whole_of parts_in
nan_none nan e = refl
nan_none (inf s) e = absurd (true≢false (sym e))
nan_none (fin s m d) e = absurd (true≢false (sym e))

-- a float that is itself is a number
pub itself_number : (x : Float) → ne x x ≡ false → T (not (is_nan x))
unfolding ne eq is_nan
itself_number nan e = subst T e tt
itself_number (inf s) e = tt
itself_number (fin s m d) e = tt
