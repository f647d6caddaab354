-- The masks of a record: the pass over the places, and, of a valid record, the masks site by site. Assumes nothing.
use mathlib.Core.Path.{◌≡◌, refl, sym, ap, ap₂, ◌∙◌}
use mathlib.Core.Bool.{Bool, true, false, ◌&&◌}
use mathlib.Core.List.{List}
use Prim.Native.Nat.{ℕ, zero, suc, ◌+◌, ◌-◌, ◌*◌, ◌/◌, ◌%◌, ◌^◌, ◌≤◌, ◌<◌, min}
use native.Mathlib.Nat.{mod-eq_of_lt, le_antisymm, min-eq_left, add_comm, add-mul, mul-le-mul_right, mul_right_comm}
use native.Mathlib.Numerals.{add-one}
use native.Mathlib.Omega.{arith}
use lib.Dec.{ltb, leb}
use lib.Pow.{pow_mono, shl_lt, split, high, low}
use lib.Bits.{bit_xor, xor_comm, xor_shifted, xor_block}
use borrow.Author.Tests.{ltb-true, ltb-false, leb-true}
use Rattle.letters.specs.Tests.{every}
use Rattle.letters.specs.Sums.{total}
use Rattle.letters.proofs.TestLaws.{and_left, and_right, every-at}
use Rattle.letters.proofs.BitLaws.{binary_lt}
use Rattle.items.specs.Lists.{at}
use Rattle.items.specs.Record.{capacity, valid, letter_at, reach}
use Rattle.items.specs.Masks.{letter_bits, masks_in, masks_of, flip_of, sign_of}
use Rattle.items.specs.declared.Items.{Items}
use Rattle.items.proofs.RecordLaws.{valid-at, valid_shape, letter_code, letter_here, letter-beyond, reach_none, reach_last, site_below-reach, reach_most}
use Rattle.items.proofs.Cursor.{Cursor, cursor_none, cursor_gap, cursor_end, cursor_pass, total-above, total_site}

-- ---- the pass

-- x holds the bits of the first i places
pub record Masked (sites letters : List ℕ) (n i x : ℕ) : Type 0 where
  pub few : n ≤ capacity
  pub within : i ≤ n
  pub masks : x ≡ masks_in sites letters i

module _ {sites letters : List ℕ} {n : ℕ} where
  pub masked_none : n ≤ capacity → Masked sites letters n 0 0
  unfolding masks_in
  masked_none few = record { few = few; within = omega arith; masks = refl }

  pub masked_more : {i x b : ℕ} → Masked sites letters n i x → i < n → b ≡ letter_bits (at letters i % 4) * 2 ^ (at sites i % 32) → Masked sites letters n (i + 1) (bit_xor x b)
  unfolding masks_in
  masked_more {i} m h e = record { few = m.few; within = omega arith; masks = rw add-one (ap₂ bit_xor m.masks e) }

pub masked_done : (p : Items) {n i x : ℕ} → n ≡ min p.count capacity → Masked p.sites p.letters n i x → n ≤ i → x ≡ masks_of p
unfolding masks_of
masked_done p e m h = m.masks ∙ ap (masks_in p.sites p.letters) (le_antisymm m.within h ∙ e)

-- ---- the masks of a valid record, site by site

-- the two bits of a letter
abbrev pub flip_bit : ℕ → ℕ
flip_bit l = letter_bits l % 2 ^ 32

abbrev pub sign_bit : ℕ → ℕ
sign_bit l = letter_bits l / 2 ^ 32

bits_single : every 4 (λ l. ltb (flip_bit l) 2 && ltb (sign_bit l) 2) ≡ true
unfolding letter_bits every
bits_single = refl

pub flip_lt : (l : ℕ) → l < 4 → flip_bit l < 2
flip_lt l h = ltb-true _ _ (and_left (ltb (flip_bit l) 2) (ltb (sign_bit l) 2) (every-at 4 (λ l. ltb (flip_bit l) 2 && ltb (sign_bit l) 2) bits_single l h))

pub sign_lt : (l : ℕ) → l < 4 → sign_bit l < 2
sign_lt l h = ltb-true _ _ (and_right (ltb (flip_bit l) 2) (ltb (sign_bit l) 2) (every-at 4 (λ l. ltb (flip_bit l) 2 && ltb (sign_bit l) 2) bits_single l h))

-- a letter has a bit in one half at least
bits_there : every 4 (λ l. leb l (3 * (flip_bit l + sign_bit l))) ≡ true
unfolding letter_bits every
bits_there = refl

bits_of-letter : (l : ℕ) → l < 4 → l ≤ 3 * (flip_bit l + sign_bit l)
bits_of-letter l h = leb-true _ _ (every-at 4 (λ l. leb l (3 * (flip_bit l + sign_bit l))) bits_there l h)

-- a bit at the place n or above doesn't fit below 2^n
bit_below : (x s n : ℕ) → n ≤ s → x * 2 ^ s < 2 ^ n → x ≡ 0
bit_below zero s n h l = refl
bit_below (suc x) s n h l =
    let one : 1 * 2 ^ s ≤ suc x * 2 ^ s = mul-le-mul_right (2 ^ s) (omega arith) in
    let most : 2 ^ n ≤ 2 ^ s = pow_mono h in
    absurd (omega arith)

-- the masks of a lettering over n spins
abbrev pub flips : (ℕ → ℕ) → ℕ → ℕ
flips f n = total (λ s. flip_bit (f s) * 2 ^ s) n

abbrev pub signs : (ℕ → ℕ) → ℕ → ℕ
signs f n = total (λ s. sign_bit (f s) * 2 ^ s) n

-- a bit at a place above all of a mask's
add_bit : (m b s x : ℕ) → m < 2 ^ b → b ≤ s → bit_xor m (x * 2 ^ s) ≡ m + x * 2 ^ s
add_bit m b s x h l =
    let most : 2 ^ b ≤ 2 ^ s = pow_mono l in
    xor_comm m (x * 2 ^ s) ∙ xor_shifted x s m (omega arith) ∙ add_comm (x * 2 ^ s) m

-- a letter's bits at its site, half by half
bits_placed : (l s : ℕ) → letter_bits l * 2 ^ s ≡ sign_bit l * 2 ^ s * 2 ^ 32 + flip_bit l * 2 ^ s
bits_placed l s =
    ap (λ (x : ℕ). x * 2 ^ s) (sym (split (letter_bits l) 32))
    ∙ add-mul (sign_bit l * 2 ^ 32) (flip_bit l) (2 ^ s)
    ∙ ap (λ (x : ℕ). x + flip_bit l * 2 ^ s) (mul_right_comm (sign_bit l) (2 ^ 32) (2 ^ s))

-- one more place of two masks below b
add_place : (S F l b s : ℕ) → l < 4 → S < 2 ^ b → F < 2 ^ b → b ≤ s → s < 32
    → bit_xor (S * 2 ^ 32 + F) (letter_bits l * 2 ^ s) ≡ (S + sign_bit l * 2 ^ s) * 2 ^ 32 + (F + flip_bit l * 2 ^ s)
add_place S F l b s hl hS hF hb hs =
    let most : 2 ^ b ≤ 2 ^ 32 = pow_mono {j = 32} (omega arith) in
    let new : flip_bit l * 2 ^ s < 2 ^ 32 = shl_fits in
    ap (bit_xor (S * 2 ^ 32 + F)) (bits_placed l s)
    ∙ xor_block 32 S (sign_bit l * 2 ^ s) F (flip_bit l * 2 ^ s) (omega arith) new
    ∙ ap₂ (λ x y. x * 2 ^ 32 + y) (add_bit S b s (sign_bit l) hS hb) (add_bit F b s (flip_bit l) hF hb)
  where
    shl_fits : flip_bit l * 2 ^ s < 2 ^ 32
    shl_fits =
        let placed : flip_bit l * 2 ^ s < 2 ^ (1 + s) = shl_lt 1 s (flip_lt l hl) in
        let most : 2 ^ (1 + s) ≤ 2 ^ 32 = pow_mono {j = 32} (omega arith) in
        omega arith

module _ (p : Items) (v : valid p ≡ true) where
  pub letter_lt : (s : ℕ) → letter_at p s < 4
  letter_lt s = omega (arith, letter_code p v s)

  pub flips_lt : (n : ℕ) → flips (letter_at p) n < 2 ^ n
  flips_lt n = binary_lt n (λ s. flip_bit (letter_at p s)) (λ s h. flip_lt (letter_at p s) (letter_lt s))

  signs_lt : (n : ℕ) → signs (letter_at p) n < 2 ^ n
  signs_lt n = binary_lt n (λ s. sign_bit (letter_at p s)) (λ s h. sign_lt (letter_at p s) (letter_lt s))

  -- the identity has no bits
  flip_free : (s : ℕ) → letter_at p s ≡ 0 → flip_bit (letter_at p s) * 2 ^ s ≡ 0
  unfolding letter_bits
  flip_free s e = rw e (omega arith)

  sign_free : (s : ℕ) → letter_at p s ≡ 0 → sign_bit (letter_at p s) * 2 ^ s ≡ 0
  unfolding letter_bits
  sign_free s e = rw e (omega arith)

  -- after i places: the masks of the sites below a bound
  record Placed (i : ℕ) : Type 0 where
    pub bound : ℕ
    pub low : bound ≤ reach p
    pub cursor : Cursor p i bound
    pub masks : masks_in p.sites p.letters i ≡ signs (letter_at p) bound * 2 ^ 32 + flips (letter_at p) bound

  placed_none : Placed 0
  unfolding masks_in total
  placed_none = record { bound = 0; low = omega arith; cursor = cursor_none p; masks = refl }

  placed_more : {i : ℕ} → Placed i → i < p.count → Placed (i + 1)
  unfolding masks_in
  placed_more {i} h l =
      let s = at p.sites i in
      let b = h.bound in
      let site : s % 32 ≡ s = mod-eq_of_lt (omega (arith, (valid-at p v i l).site_most)) in
      let letter : at p.letters i % 4 ≡ letter_at p s = mod-eq_of_lt (omega (arith, (valid-at p v i l).letter_most)) ∙ sym (letter_here p v i l) in
      let from : b ≤ s = h.cursor.after i (omega arith) l in
      let gap : (t : ℕ) → b ≤ t → t < s → letter_at p t ≡ 0 = λ t a m. cursor_gap p v h.cursor t a (λ q. m) in
      let F : flips (letter_at p) (suc s) ≡ flips (letter_at p) b + flip_bit (letter_at p s) * 2 ^ s = total_site _ b s from (λ t a m. flip_free t (gap t a m)) in
      let S : signs (letter_at p) (suc s) ≡ signs (letter_at p) b + sign_bit (letter_at p s) * 2 ^ s = total_site _ b s from (λ t a m. sign_free t (gap t a m)) in
      record {
        bound = suc s;
        low = site_below-reach p v i l;
        cursor = cursor_pass p v h.cursor l;
        masks = rw (add-one i, site, letter, h.masks, F, S)
            (add_place (signs (letter_at p) b) (flips (letter_at p) b) (letter_at p s) b s (letter_lt s) (signs_lt b) (flips_lt b) from (omega (arith, (valid-at p v i l).site_most)));
      }

  placed : (i : ℕ) → i ≤ p.count → Placed i
  placed zero l = placed_none
  placed (suc i) l = rw (← add-one i) (placed_more (placed i (omega arith)) (omega arith))

  -- all places: the masks over any spins that hold the product
  pub masks_placed : (n : ℕ) → reach p ≤ n → masks_of p ≡ signs (letter_at p) n * 2 ^ 32 + flips (letter_at p) n
  unfolding masks_of
  masks_placed n in-n =
      let h = placed p.count (omega arith) in
      let all : min p.count capacity ≡ p.count = min-eq_left (valid_shape p v).count_most in
      let free : (t : ℕ) → h.bound ≤ t → letter_at p t ≡ 0 = λ t a. cursor_end p v h.cursor (omega arith) t a in
      let F : flips (letter_at p) n ≡ flips (letter_at p) h.bound = total-above _ h.bound n (omega arith) (λ t a b. flip_free t (free t a)) in
      let S : signs (letter_at p) n ≡ signs (letter_at p) h.bound = total-above _ h.bound n (omega arith) (λ t a b. sign_free t (free t a)) in
      rw (all, F, S) h.masks

  -- the flips fit the low half
  flips_low : (n : ℕ) → reach p ≤ n → flips (letter_at p) n < 2 ^ 32
  flips_low n in-n =
      let same : flips (letter_at p) n ≡ flips (letter_at p) (reach p) = total-above _ (reach p) n in-n (λ t a b. flip_free t (letter-beyond p v t a)) in
      let most : 2 ^ reach p ≤ 2 ^ 31 = pow_mono {j = 31} (omega (arith, reach_most p v)) in
      omega (arith, flips_lt (reach p))

  pub flips_masked : (n : ℕ) → reach p ≤ n → flip_of (masks_of p) ≡ flips (letter_at p) n
  unfolding flip_of
  flips_masked n in-n = ap (λ (x : ℕ). x % 2 ^ 32) (masks_placed n in-n) ∙ low (signs (letter_at p) n) 32 (flips_low n in-n)

  pub signs_masked : (n : ℕ) → reach p ≤ n → sign_of (masks_of p) ≡ signs (letter_at p) n
  unfolding sign_of
  signs_masked n in-n = ap (λ (x : ℕ). x / 2 ^ 32) (masks_placed n in-n) ∙ high (signs (letter_at p) n) 32 (flips_low n in-n)

  -- both masks below 2^n: every site is below n, since the last one has a bit in one of them
  pub reach_masked : (n : ℕ) → flip_of (masks_of p) < 2 ^ n → sign_of (masks_of p) < 2 ^ n → reach p ≤ n
  unfolding total
  reach_masked n hf hs = by_count p.count refl
    where
      by_site : (s : ℕ) → reach p ≡ suc s → 0 < letter_at p s → (high : Bool) → ltb s n ≡ high → reach p ≤ n
      by_site s e there true h = omega (arith, ltb-true s n h)
      by_site s e there false h =
          let F : flips (letter_at p) s + flip_bit (letter_at p s) * 2 ^ s < 2 ^ n = rw (← flips_masked (suc s) (omega arith)) hf in
          let S : signs (letter_at p) s + sign_bit (letter_at p s) * 2 ^ s < 2 ^ n = rw (← signs_masked (suc s) (omega arith)) hs in
          let above : n ≤ s = ltb-false s n h in
          absurd (omega (arith, bit_below (flip_bit (letter_at p s)) s n above (omega arith), bit_below (sign_bit (letter_at p s)) s n above (omega arith), bits_of-letter (letter_at p s) (letter_lt s)))

      by_count : (k : ℕ) → p.count ≡ k → reach p ≤ n
      by_count zero e = rw (reach_none p e) (omega arith)
      by_count (suc k) e =
          let l : k < p.count = omega arith in
          let last : p.count - 1 ≡ k = omega arith in
          let s = at p.sites k in
          by_site s (reach_last p (omega arith) ∙ ap (λ (i : ℕ). suc (at p.sites i)) last) (rw (letter_here p v k l) (valid-at p v k l).letter_there) (ltb s n) refl
