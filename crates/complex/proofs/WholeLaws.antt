-- Laws of whole parts: a fraction is whole however it is written, a part is not over the limit, and whole parts are equal
-- as numbers exactly if they are the same whole number. No law asks that a float fits its format. Assumes nothing.
use Prim.Native.Nat.{ℕ, zero, suc, ◌*◌, ◌/◌, ◌%◌, ◌^◌, ◌≤◌, ◌<◌}
use native.Mathlib.Nat.{mul_assoc, mul_comm, mul-zero, mul_right_comm, mul-mod_left, div-add-mod', eq_of_mul-eq-mul_right, le_trans, zero-mul}
use native.Mathlib.Omega.{arith}
use mathlib.Core.Path.{◌≡◌, refl, sym, ap, ◌∙◌}
use mathlib.Core.Bool.{Bool, true, false, not, ◌&&◌, ◌||◌, beq, cond, true≢false}
use mathlib.Core.Option.{Option, none, some, map, get_or}
use lib.Dec.{leb, eqb}
use lib.IntN.{ℤ, pos, negsuc, neg_ℤ, nat_abs, neg_ℤ-neg_ℤ}
use lib.Signed.{mag}
use lib.Pow.{pow_pos}
use lib.Ieee.{Float, nan, inf, fin, up, down, neg, eq, level, of_bits}
use lib.Ieee.Fits.{down_pos}
use lib.Ieee.Exact.{HasValue}
use lib.Ieee.Nearest.{div_same}
use borrow.Author.Tests.{le-leb, eq-eqb, ne_eqb, leb-true, eqb-true, eqb-false}
use Rattle.std.specs.Prelude as prelude
use Rattle.std.specs.Prelude.{Some, None}
use Rattle.complex.specs.Complex.{plus_zero}
use Rattle.complex.specs.Wholes.{grain_power, most_parts_power, signed, whole_fraction, parts_in, whole_of, is_some, is_whole, parts_of, said_whole}

-- ---- one fraction in two ways

rest_none : (a b c d : ℕ) → 0 < b → a * d ≡ c * b → a % b ≡ 0 → c % d ≡ 0
rest_none a b c d hb e z =
    let h : a / b * b ≡ a = omega (arith, div-add-mod' a b) in
    let k : c ≡ a / b * d = eq_of_mul-eq-mul_right b hb c (a / b * d) (sym e ∙ ap (λ (x : ℕ). x * d) (sym h) ∙ mul_right_comm (a / b) b d) in
    ap (λ (x : ℕ). x % d) k ∙ mul-mod_left (a / b) d

rest-same : (a b c d : ℕ) → 0 < b → 0 < d → a * d ≡ c * b → eqb (a % b) 0 ≡ eqb (c % d) 0
rest-same a b c d hb hd e = go (eqb (a % b) 0) refl
  where
    go : (t : Bool) → eqb (a % b) 0 ≡ t → eqb (a % b) 0 ≡ eqb (c % d) 0
    go true z = z ∙ sym (eq-eqb (c % d) 0 (rest_none a b c d hb e (eqb-true (a % b) 0 z)))
    go false z = z ∙ sym (ne_eqb (c % d) 0 (λ w. eqb-false (a % b) 0 z (rest_none c d a b hd (sym e) w)))

-- a / b and c / d are whole together
pub fraction_same : (most : ℕ) (s : Bool) (a b c d : ℕ) → 0 < b → 0 < d → a * d ≡ c * b → whole_fraction most s a b ≡ whole_fraction most s c d
unfolding whole_fraction
fraction_same most s a b c d hb hd e = rw (rest-same a b c d hb hd e, div_same a b c d hb hd e)

-- zero has one whole number for both signs
pub fraction_zero : (most : ℕ) (s : Bool) (b : ℕ) → 0 < b → whole_fraction most s 0 b ≡ some (pos 0)
unfolding whole_fraction
fraction_zero most s b h = fraction_same most s 0 b 0 1 h (omega arith) (sym (zero-mul b)) ∙ rw (le-leb 0 (2 ^ most) (omega arith)) (go s)
  where
    go : (s : Bool) → some (signed s 0) ≡ some (pos 0)
    go true = refl
    go false = refl

-- what a whole fraction is: a is n times b, with n not over the limit
pub record Fraction (most : ℕ) (s : Bool) (a b : ℕ) (z : ℤ) : Type 0 where
  pub times : a / b * b ≡ a
  pub small : a / b ≤ 2 ^ most
  pub value : z ≡ signed s (a / b)

pub fraction_is : (most : ℕ) (s : Bool) (a b : ℕ) (z : ℤ) → whole_fraction most s a b ≡ some z → Fraction most s a b z
unfolding whole_fraction
fraction_is most s a b z e = go (eqb (a % b) 0) refl (leb (a / b) (2 ^ most)) refl e
  where
    go : (t : Bool) → eqb (a % b) 0 ≡ t → (u : Bool) → leb (a / b) (2 ^ most) ≡ u → cond (t && u) (some (signed s (a / b))) none ≡ some z → Fraction most s a b z
    go true f true g q =
        let h = eqb-true (a % b) 0 f in
        record { times = omega (arith, div-add-mod' a b); small = leb-true (a / b) (2 ^ most) g; value = cc }
    go true f false g q = cc
    go false f u g q = cc

-- ---- floats, for any grain and limit

signed_size : (s : Bool) (n : ℕ) → nat_abs (signed s n) ≡ n
signed_size false n = refl
signed_size true zero = refl
signed_size true (suc n) = refl

-- two whole numbers given by size and sign
signed_level : (s : Bool) (m : ℕ) (t : Bool) (n : ℕ) → signed s m ≡ signed t n → (m ≡ n) × ((beq s t || eqb m 0) ≡ true)
signed_level s m t n e =
    let h : m ≡ n = sym (signed_size s m) ∙ ap nat_abs e ∙ signed_size t n in
    (h, go s t m n h e)
  where
    go : (s t : Bool) (m n : ℕ) → m ≡ n → signed s m ≡ signed t n → (beq s t || eqb m 0) ≡ true
    go false false m n h e = refl
    go true true m n h e = refl
    go false true zero n h e = refl
    go true false zero n h e = refl
    go false true (suc m) zero h e = absurd (omega arith)
    go true false (suc m) zero h e = absurd (omega arith)
    go false true (suc m) (suc n) h e = cc
    go true false (suc m) (suc n) h e = cc

-- a product that is zero, without its second factor
left_zero : (a d : ℕ) → 0 < d → a * d ≡ 0 → a ≡ 0
left_zero a d h e = eq_of_mul-eq-mul_right d h a 0 (e ∙ sym (zero-mul d))

module _ (grain most : ℕ) where
  -- a float of value a / c has as many parts as 2 ^ grain * a / c is
  pub parts_value : (v : Float) (s : Bool) (a c : ℕ) → 0 < c → HasValue v s a c → parts_in grain most v ≡ whole_fraction most s (2 ^ grain * a) c
  unfolding parts_in
  parts_value nan s a c h v = absurd v
  parts_value (inf t) s a c h v = absurd v
  parts_value (fin t m e) s a c h v =
      let k : 2 ^ grain * (m * up e) * c ≡ 2 ^ grain * a * down e =
      mul_assoc (2 ^ grain) (m * up e) c ∙ ap (λ (x : ℕ). 2 ^ grain * x) v.1 ∙ sym (mul_assoc (2 ^ grain) a (down e)) in
      rw (fraction_same most t (2 ^ grain * (m * up e)) (down e) (2 ^ grain * a) c (down_pos e) h k, v.0)

  -- -x has as many parts as x, negated
  pub parts_neg : (x : Float) → parts_in grain most (neg x) ≡ map neg_ℤ (parts_in grain most x)
  unfolding parts_in whole_fraction neg
  parts_neg nan = refl
  parts_neg (inf s) = refl
  parts_neg (fin s m e) = go s (2 ^ grain * (m * up e) / down e) (eqb (2 ^ grain * (m * up e) % down e) 0 && leb (2 ^ grain * (m * up e) / down e) (2 ^ most))
    where
      go : (s : Bool) (n : ℕ) (t : Bool) → cond t (some (signed (not s) n)) none ≡ map neg_ℤ (cond t (some (signed s n)) none)
      go s n false = refl
      go false n true = refl
      go true n true = ap some (sym (neg_ℤ-neg_ℤ (pos n)))

  -- not over the limit
  pub parts_most : (x : Float) (z : ℤ) → parts_in grain most x ≡ some z → nat_abs z ≤ 2 ^ most
  unfolding parts_in
  parts_most nan z e = cc
  parts_most (inf s) z e = cc
  parts_most (fin s m e) z h =
      let f = fraction_is most s (2 ^ grain * (m * up e)) (down e) z h in
      rw (f.value, signed_size s (2 ^ grain * (m * up e) / down e)) f.small

  -- fractions that compare as equal, a / b and c / d, have the same parts
  level_parts : (s : Bool) (a b : ℕ) (t : Bool) (c d : ℕ) → 0 < b → 0 < d → level s (a * d) t (c * b) ≡ true
      → whole_fraction most s (2 ^ grain * a) b ≡ whole_fraction most t (2 ^ grain * c) d
  level_parts s a b t c d hb hd e = go (eqb (a * d) (c * b)) refl s t (eqb (a * d) 0) refl e
    where
      same : (s : Bool) → a * d ≡ c * b → whole_fraction most s (2 ^ grain * a) b ≡ whole_fraction most s (2 ^ grain * c) d
      same s h =
          fraction_same most s (2 ^ grain * a) b (2 ^ grain * c) d hb hd (mul_assoc (2 ^ grain) a d ∙ ap (λ (x : ℕ). 2 ^ grain * x) h ∙ sym (mul_assoc (2 ^ grain) c b))

      none_left : (s : Bool) (k n : ℕ) → 0 < n → k ≡ 0 → whole_fraction most s (2 ^ grain * k) n ≡ some (pos 0)
      none_left s k n hn h = rw (h, mul-zero (2 ^ grain)) (fraction_zero most s n hn)

      zeros : (s t : Bool) → a * d ≡ c * b → a * d ≡ 0 → whole_fraction most s (2 ^ grain * a) b ≡ whole_fraction most t (2 ^ grain * c) d
      zeros s t h z = none_left s a b hb (left_zero a d hd z) ∙ sym (none_left t c d hd (left_zero c b hb (sym h ∙ z)))

      go : (q : Bool) → eqb (a * d) (c * b) ≡ q → (s t z : Bool) → eqb (a * d) 0 ≡ z → (q && (beq s t || z)) ≡ true → whole_fraction most s (2 ^ grain * a) b ≡ whole_fraction most t (2 ^ grain * c) d
      go false f s t z g h = absurd (true≢false (sym h))
      go true f false false z g h = same false (eqb-true (a * d) (c * b) f)
      go true f true true z g h = same true (eqb-true (a * d) (c * b) f)
      go true f false true true g h = zeros false true (eqb-true (a * d) (c * b) f) (eqb-true (a * d) 0 g)
      go true f true false true g h = zeros true false (eqb-true (a * d) (c * b) f) (eqb-true (a * d) 0 g)
      go true f false true false g h = absurd (true≢false (sym h))
      go true f true false false g h = absurd (true≢false (sym h))

  -- equal as numbers: the same parts, or both not whole
  pub equal-parts : (x y : Float) → eq x y ≡ true → parts_in grain most x ≡ parts_in grain most y
  unfolding parts_in eq
  equal-parts nan y h = absurd (true≢false (sym h))
  equal-parts (inf s) nan h = absurd (true≢false (sym h))
  equal-parts (inf s) (inf t) h = refl
  equal-parts (inf s) (fin t n d) h = absurd (true≢false (sym h))
  equal-parts (fin s m e) nan h = absurd (true≢false (sym h))
  equal-parts (fin s m e) (inf t) h = absurd (true≢false (sym h))
  equal-parts (fin s m e) (fin t n d) h = level_parts s (m * up e) (down e) t (n * up d) (down d) (down_pos e) (down_pos d) h

  -- fractions with the same parts compare as equal
  parts_level : (s : Bool) (a b : ℕ) (t : Bool) (c d : ℕ) (z : ℤ) → whole_fraction most s (2 ^ grain * a) b ≡ some z → whole_fraction most t (2 ^ grain * c) d ≡ some z
      → level s (a * d) t (c * b) ≡ true
  parts_level s a b t c d z e f =
      let p = fraction_is most s (2 ^ grain * a) b z e in
      let q = fraction_is most t (2 ^ grain * c) d z f in
      let m = 2 ^ grain * a / b in
      let n = 2 ^ grain * c / d in
      let l = signed_level s m t n (sym p.value ∙ q.value) in
      let left : a * d * 2 ^ grain ≡ m * (b * d) = scaled a b d p.times in
      let right : c * b * 2 ^ grain ≡ n * (b * d) = scaled c d b q.times ∙ ap (λ (x : ℕ). n * x) (mul_comm d b) in
      let h : a * d ≡ c * b = eq_of_mul-eq-mul_right (2 ^ grain) (pow_pos grain) (a * d) (c * b) (left ∙ ap (λ (x : ℕ). x * (b * d)) l.0 ∙ sym right) in
      rw (eq-eqb (a * d) (c * b) h) (go (eqb m 0) refl s t left l.1)
    where
      scaled : (a b d : ℕ) → 2 ^ grain * a / b * b ≡ 2 ^ grain * a → a * d * 2 ^ grain ≡ 2 ^ grain * a / b * (b * d)
      scaled a b d h = mul_comm (a * d) (2 ^ grain) ∙ sym (mul_assoc (2 ^ grain) a d) ∙ ap (λ (x : ℕ). x * d) (sym h) ∙ mul_assoc (2 ^ grain * a / b) b d

      zero_left : eqb (2 ^ grain * a / b) 0 ≡ true → a * d * 2 ^ grain ≡ 2 ^ grain * a / b * (b * d) → eqb (a * d) 0 ≡ true
      zero_left g l = eq-eqb (a * d) 0 (left_zero (a * d) (2 ^ grain) (pow_pos grain) (l ∙ rw (eqb-true (2 ^ grain * a / b) 0 g) (zero-mul (b * d))))

      go : (q : Bool) → eqb (2 ^ grain * a / b) 0 ≡ q → (s t : Bool) → a * d * 2 ^ grain ≡ 2 ^ grain * a / b * (b * d) → (beq s t || q) ≡ true → (beq s t || eqb (a * d) 0) ≡ true
      go q g false false l h = refl
      go q g true true l h = refl
      go true g false true l h = zero_left g l
      go true g true false l h = zero_left g l
      go false g false true l h = absurd (true≢false (sym h))
      go false g true false l h = absurd (true≢false (sym h))

  -- the same parts: equal as numbers
  pub parts-equal : (x y : Float) (z : ℤ) → parts_in grain most x ≡ some z → parts_in grain most y ≡ some z → eq x y ≡ true
  unfolding parts_in eq
  parts-equal nan y z h k = cc
  parts-equal (inf s) y z h k = cc
  parts-equal (fin s m e) nan z h k = cc
  parts-equal (fin s m e) (inf t) z h k = cc
  parts-equal (fin s m e) (fin t n d) z h k = parts_level s (m * up e) (down e) t (n * up d) (down d) z h k

-- ---- at the grain and the limit of number 11

-- an answer, read as a test and as a number
pub some_whole : (x : Float) (z : ℤ) → whole_of x ≡ some z → is_whole x ≡ true
unfolding is_whole
some_whole x z e = rw e

pub some_parts : (x : Float) (z : ℤ) → whole_of x ≡ some z → parts_of x ≡ z
unfolding parts_of
some_parts x z e = rw e

pub none_whole : (x : Float) → whole_of x ≡ none → is_whole x ≡ false
unfolding is_whole
none_whole x e = rw e

-- and the test back as an answer
pub whole_some : (x : Float) → is_whole x ≡ true → whole_of x ≡ some (parts_of x)
unfolding is_whole parts_of
whole_some x h = go (whole_of x) h
  where
    go : (o : Option ℤ) → is_some o ≡ true → o ≡ some (get_or o (pos 0))
    go none h = absurd (true≢false (sym h))
    go (some z) h = refl

-- the number is not over the limit
pub whole_abs : (x : Float) (z : ℤ) → whole_of x ≡ some z → nat_abs z ≤ 2 ^ most_parts_power
unfolding whole_of
whole_abs x z e = parts_most grain_power most_parts_power x z e

pub mag_abs : (z : ℤ) → mag z ≤ nat_abs z
mag_abs (pos n) = omega arith
mag_abs (negsuc n) = omega arith

pub whole_size : (x : Float) (z : ℤ) → whole_of x ≡ some z → mag z ≤ 2 ^ most_parts_power
whole_size x z e = le_trans (mag_abs z) (whole_abs x z e)

-- nor is it where there is none
pub parts_abs : (x : Float) → nat_abs (parts_of x) ≤ 2 ^ most_parts_power
unfolding parts_of
parts_abs x = go (whole_of x) refl
  where
    go : (o : Option ℤ) → whole_of x ≡ o → nat_abs (get_or o (pos 0)) ≤ 2 ^ most_parts_power
    go none e = omega arith
    go (some z) e = whole_abs x z e

-- floats that are equal as numbers pass together, with one number
pub equal-whole : (x y : Float) → eq x y ≡ true → whole_of x ≡ whole_of y
unfolding whole_of
equal-whole x y e = equal-parts grain_power most_parts_power x y e

-- whole parts are equal as numbers exactly if they are one whole number
pub whole-equal : (x y : Float) → is_whole x ≡ true → is_whole y ≡ true → (eq x y ≡ true → parts_of x ≡ parts_of y) × (parts_of x ≡ parts_of y → eq x y ≡ true)
unfolding parts_of whole_of
whole-equal x y h k = (
  (λ e. rw (equal-whole x y e)),
  (λ e. parts-equal grain_power most_parts_power x y (parts_of x) (whole_some x h) (whole_some y k ∙ ap some (sym e))),
)

-- +0 is whole, with 0 parts
pub zero-whole : is_whole plus_zero ≡ true
unfolding is_whole whole_of parts_in whole_fraction of_bits
zero-whole = refl

pub zero-parts : parts_of plus_zero ≡ pos 0
unfolding parts_of whole_of parts_in whole_fraction of_bits
zero-parts = refl

-- -x is whole where x is, with the number negated
pub whole_neg : (x : Float) → whole_of (neg x) ≡ map neg_ℤ (whole_of x)
unfolding whole_of
whole_neg x = parts_neg grain_power most_parts_power x

-- what `whole_part` says fixes its answer
pub whole_known : (r q : prelude.Option ℤ) → said_whole r ≡ said_whole q → r ≡ q
whole_known (Some y) (Some z) e = cc
whole_known None None e = refl
whole_known (Some y) None e = cc
whole_known None (Some z) e = cc
