-- The entry of a row by the masks: bit by bit that of the letters' cells, so of a valid record that of its letters; its power is below 4.
-- Assumes nothing.
use mathlib.Core.Path.{◌≡◌, refl, sym, ap, ap₂, ◌∙◌}
use mathlib.Core.Bool.{true}
use Prim.Native.Nat.{ℕ, zero, suc, ◌+◌, ◌*◌, ◌/◌, ◌%◌, ◌^◌, ◌≤◌, ◌<◌}
use native.Mathlib.Nat.{lt_of_le_of_lt, mul-le-mul, mod-lt, mod-one, mod-eq_of_lt, add_comm, mul-zero, mul-add}
use native.Mathlib.Omega.{arith}
use lib.Dec.{eqb}
use lib.Pow.{pow_pos}
use lib.Bits.{bit_and, bit_xor, xor_zero_r, xor_block, and_le_l, and_zero_r, and_block, and_lt, xor_lt}
use lib.Count.{ones_in, ones, ones_cat, ones-le}
use borrow.Author.Tests.{eqb-true}
use Rattle.letters.specs.Tests.{every, first_from}
use Rattle.letters.specs.Gauss.{𝟘, 𝟙, −𝟙, i⁺, i⁻, ◌⊗◌, i^, eqℤ, eq_G}
use Rattle.letters.specs.Sums.{total}
use Rattle.letters.specs.Matrices.{Letters, two_by_two, pauli, decoherence, letters_of, bit}
use Rattle.letters.specs.Single.{cell}
use Rattle.letters.specs.Rows.{column_of, row_power}
use Rattle.letters.specs.declared.Kind.{Kind}
use Rattle.letters.specs.declared.Kind.TheVariants.{Pauli, Decoherence}
use Rattle.letters.proofs.TestLaws.{every-at}
use Rattle.letters.proofs.BitLaws.{bit_lt, binary_lt, low_suc}
use Rattle.items.specs.Record.{valid, letter_at, reach}
use Rattle.items.specs.Masks.{letter_bits, masks_of}
use Rattle.row_entries.specs.MaskEntries.{power_of_Y, entry_from_masks}
use Rattle.items.specs.declared.Items.{Items}
use Rattle.items.proofs.MaskLaws.{flip_bit, sign_bit, flip_lt, sign_lt, flips, signs, letter_lt, flips_masked, signs_masked}

-- ---- the cells of the letters by their bits

-- the power of i of the bits x turned over, the bits z of a sign and the row r, for one letter or many
abbrev power_by : Letters → ℕ → ℕ → ℕ → ℕ
power_by M x z r = power_of_Y M * ones (bit_and x z) + 2 * ones (bit_and r z)

cell_found : (kind : Kind) → every 8 (λ k. eqb (cell (letters_of kind) (k / 2) (k % 2)) (2 * (power_by (letters_of kind) (flip_bit (k / 2)) (sign_bit (k / 2)) (k % 2) % 4) + bit_xor (k % 2) (flip_bit (k / 2)))) ≡ true
unfolding power_of_Y letter_bits ones ones_in cell every first_from eq_G eqℤ two_by_two pauli decoherence letters_of i^ 𝟘 𝟙 −𝟙 i⁺ i⁻ ◌⊗◌
cell_found Pauli = refl
cell_found Decoherence = refl

-- the cell of a letter's row
cell_by_bits : (kind : Kind) (l x : ℕ) → l < 4 → x < 2 → cell (letters_of kind) l x ≡ 2 * (power_by (letters_of kind) (flip_bit l) (sign_bit l) x % 4) + bit_xor x (flip_bit l)
cell_by_bits kind l x hl hx =
    let M = letters_of kind in
    let el : (2 * l + x) / 2 ≡ l = omega arith in
    let ex : (2 * l + x) % 2 ≡ x = omega arith in
    ap₂ (cell M) (sym el) (sym ex)
    ∙ eqb-true _ _ (every-at 8 (λ k. eqb (cell M (k / 2) (k % 2)) (2 * (power_by M (flip_bit (k / 2)) (sign_bit (k / 2)) (k % 2) % 4) + bit_xor (k % 2) (flip_bit (k / 2)))) (cell_found kind) (2 * l + x) (omega arith))
    ∙ ap₂ (λ a b. 2 * (power_by M (flip_bit a) (sign_bit a) b % 4) + bit_xor b (flip_bit a)) el ex

-- its column and its power
cell_column : (kind : Kind) (l x : ℕ) → l < 4 → x < 2 → cell (letters_of kind) l x % 2 ≡ bit_xor x (flip_bit l)
cell_column kind l x hl hx = go _ _ _ (cell_by_bits kind l x hl hx) (xor_lt 1 x (flip_bit l) hx (flip_lt l hl))
  where
    go : (c k b : ℕ) → c ≡ 2 * k + b → b < 2 → c % 2 ≡ b
    go c k b e h = omega arith

cell_power : (kind : Kind) (l x : ℕ) → l < 4 → x < 2 → cell (letters_of kind) l x / 2 ≡ power_by (letters_of kind) (flip_bit l) (sign_bit l) x % 4
cell_power kind l x hl hx = go _ _ _ (cell_by_bits kind l x hl hx) (xor_lt 1 x (flip_bit l) hx (flip_lt l hl))
  where
    go : (c k b : ℕ) → c ≡ 2 * k + b → b < 2 → c / 2 ≡ k
    go c k b e h = omega arith

-- ---- the entry of a lettering's row by its masks

-- the bits in common of two numbers with one bit more each
ones_more : (n a b x y : ℕ) → a < 2 ^ n → b < 2 ^ n → ones (bit_and (a + x * 2 ^ n) (b + y * 2 ^ n)) ≡ ones (bit_and a b) + ones (bit_and x y)
ones_more n a b x y ha hb =
    ap ones (ap₂ bit_and (add_comm a (x * 2 ^ n)) (add_comm b (y * 2 ^ n)) ∙ and_block n x y a b ha hb)
    ∙ ones_cat n (bit_and x y) (bit_and a b) (and_lt n a b ha hb)
    ∙ add_comm (ones (bit_and x y)) (ones (bit_and a b))

module _ (kind : Kind) (f : ℕ → ℕ) (code : (s : ℕ) → f s < 4) (r : ℕ) where
  column_masked : (n : ℕ) → column_of (letters_of kind) n f r ≡ bit_xor (r % 2 ^ n) (flips f n)
  unfolding column_of total
  column_masked zero = sym (xor_zero_r (r % 1) ∙ mod-one r)
  column_masked (suc n) =
      let x = flip_bit (f n) in
      ap₂ (λ a b. a + b * 2 ^ n) (column_masked n) (cell_column kind (f n) (bit n r) (code n) (bit_lt n r))
      ∙ add_comm (bit_xor (r % 2 ^ n) (flips f n)) (bit_xor (bit n r) x * 2 ^ n)
      ∙ sym (xor_block n (bit n r) x (r % 2 ^ n) (flips f n) (mod-lt r (pow_pos n)) (binary_lt n (λ s. flip_bit (f s)) (λ s h. flip_lt (f s) (code s))))
      ∙ ap₂ bit_xor (add_comm (bit n r * 2 ^ n) (r % 2 ^ n) ∙ sym (low_suc n r)) (add_comm (x * 2 ^ n) (flips f n))

  power_masked : (n : ℕ) → row_power (letters_of kind) n f r ≡ power_by (letters_of kind) (flips f n) (signs f n) (r % 2 ^ n) % 4
  unfolding row_power total ones ones_in
  power_masked zero = rw (and_zero_r (r % 1), mul-zero (power_of_Y (letters_of kind))) refl
  power_masked (suc n) =
      let M = letters_of kind in
      let x = flip_bit (f n) in
      let z = sign_bit (f n) in
      let F : flips f n < 2 ^ n = binary_lt n (λ s. flip_bit (f s)) (λ s h. flip_lt (f s) (code s)) in
      let S : signs f n < 2 ^ n = binary_lt n (λ s. sign_bit (f s)) (λ s h. sign_lt (f s) (code s)) in
      step (power_of_Y M) _ _ _ _ _ _ (power_masked n) (cell_power kind (f n) (bit n r) (code n) (bit_lt n r))
      ∙ ap₂ (λ a b. (power_of_Y M * a + 2 * b) % 4)
      (sym (ones_more n (flips f n) (signs f n) x z F S))
      (sym (ones_more n (r % 2 ^ n) (signs f n) (bit n r) z (mod-lt r (pow_pos n)) S) ∙ ap (λ a. ones (bit_and a (signs f n + z * 2 ^ n))) (sym (low_suc n r)))
    where
      sums : (t k a b c d : ℕ) → t % 4 ≡ (a + b) % 4 → k ≡ (c + d) % 4 → (t + k) % 4 ≡ (a + c + (b + d)) % 4
      sums t k a b c d e g = omega arith

      step : (T t k a b c d : ℕ) → t % 4 ≡ (T * a + 2 * b) % 4 → k ≡ (T * c + 2 * d) % 4 → (t + k) % 4 ≡ (T * (a + c) + 2 * (b + d)) % 4
      step T t k a b c d e g = sums t k _ _ _ _ e g ∙ ap₂ (λ p q. (p + q) % 4) (sym (mul-add T a c)) (sym (mul-add 2 b d))

-- ---- the entry of a record's row

-- the power of i of Y, by kind
pub power_of_y_pauli : power_of_Y pauli ≡ 3
unfolding power_of_Y cell first_from eq_G eqℤ two_by_two pauli i^ 𝟘 𝟙 −𝟙 i⁺ i⁻ ◌⊗◌
power_of_y_pauli = refl

pub power_of_y_decoherence : power_of_Y decoherence ≡ 0
unfolding power_of_Y cell first_from eq_G eqℤ two_by_two decoherence i^ 𝟘 𝟙 −𝟙 i⁺ i⁻ ◌⊗◌
power_of_y_decoherence = refl

power_of_y_most : (kind : Kind) → power_of_Y (letters_of kind) ≤ 3
unfolding letters_of
power_of_y_most Pauli = rw power_of_y_pauli (omega arith)
power_of_y_most Decoherence = rw power_of_y_decoherence (omega arith)

-- the counts of the code fit: of the letters Y, and of the signs
pub ys_few : (kind : Kind) (m : ℕ) → power_of_Y (letters_of kind) * ones (bit_and (m % 2 ^ 32) (m / 2 ^ 32)) ≤ 96
ys_few kind m =
    let low : m % 2 ^ 32 < 2 ^ 32 = mod-lt m (omega arith) in
    let most : power_of_Y (letters_of kind) * ones (bit_and (m % 2 ^ 32) (m / 2 ^ 32)) ≤ 3 * 32 =
    mul-le-mul (power_of_y_most kind) (ones-le 32 _ (lt_of_le_of_lt (and_le_l (m % 2 ^ 32) (m / 2 ^ 32)) low)) in
    most

pub signs_few : (r m : ℕ) → r < 2 ^ 64 → ones (bit_and r (m / 2 ^ 32)) ≤ 64
signs_few r m h = ones-le 64 _ (lt_of_le_of_lt (and_le_l r (m / 2 ^ 32)) h)

-- the power is below 4
pub from_masks_power_lt : (M : Letters) (m r : ℕ) → (entry_from_masks M m r).1 < 4
unfolding entry_from_masks
from_masks_power_lt M m r = mod-lt _ (omega arith)

-- of a valid record it is that of its letters
pub from_masks_inside : (kind : Kind) (p : Items) → valid p ≡ true → (r n : ℕ) → reach p ≤ n → r < 2 ^ n
    → entry_from_masks (letters_of kind) (masks_of p) r ≡ (column_of (letters_of kind) n (letter_at p) r, row_power (letters_of kind) n (letter_at p) r)
unfolding entry_from_masks
from_masks_inside kind p v r n in-n row_n =
    let f = letter_at p in
    let code : (s : ℕ) → f s < 4 = letter_lt p v in
    let row : r % 2 ^ n ≡ r = mod-eq_of_lt row_n in
    rw (flips_masked p v n in-n, signs_masked p v n in-n, column_masked kind f code r n, power_masked kind f code r n, row)
