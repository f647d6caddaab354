-- Valid records with the same masks are the same: the masks of a valid record have two bits of each letter at its site, and these tell the letters apart.
-- Assumes nothing.
use mathlib.Core.Path.{◌≡◌, refl, sym, ap, ap₂, ◌∙◌}
use mathlib.Core.Bool.{Bool, true, false, cond}
use mathlib.Core.Logic.{⊎_elim}
use Prim.Native.Nat.{ℕ, zero, suc, ◌+◌, ◌*◌, ◌^◌, ◌<◌}
use native.Mathlib.Nat.{eq-or-lt_of_le}
use native.Mathlib.Omega.{arith}
use lib.Dec.{eqb, ltb}
use borrow.Author.Tests.{eqb-true, eq-eqb, ltb-true, ltb-false}
use Rattle.letters.specs.Tests.{every}
use Rattle.letters.specs.Sums.{total}
use Rattle.letters.proofs.TestLaws.{and_left, and_right, every-at}
use Rattle.letters.proofs.BitLaws.{binary_lt, eqb_parts}
use Rattle.items.specs.Record.{capacity, valid, letter_at}
use Rattle.items.specs.Masks.{letter_bits, masks_of, flip_of, sign_of}
use Rattle.items.specs.declared.Items.{Items}
use Rattle.items.proofs.RecordLaws.{letter-beyond, reach_most}
use Rattle.items.proofs.Canonical.{extensional}
use Rattle.items.proofs.MaskLaws.{flip_bit, sign_bit, flip_lt, sign_lt, flips, signs, letter_lt, flips_masked, signs_masked}

-- equal numbers made of n bits have the same bits
bits_same : (n : ℕ) (d e : ℕ → ℕ) → ((s : ℕ) → d s < 2) → ((s : ℕ) → e s < 2) → total (λ s. d s * 2 ^ s) n ≡ total (λ s. e s * 2 ^ s) n → (s : ℕ) → s < n → d s ≡ e s
unfolding total
bits_same zero d e hd he q s l = absurd (omega arith)
bits_same (suc n) d e hd he q s l =
    let a = total (λ s. d s * 2 ^ s) n in
    let c = total (λ s. e s * 2 ^ s) n in
    let t = sym (eqb_parts (2 ^ n) a (d n) c (e n) (binary_lt n d (λ s h. hd s)) (binary_lt n e (λ s h. he s))) ∙ eq-eqb (a + d n * 2 ^ n) (c + e n * 2 ^ n) q in
    let low : a ≡ c = eqb-true a c (and_left (eqb a c) (eqb (d n) (e n)) t) in
    let high : d n ≡ e n = eqb-true (d n) (e n) (and_right (eqb a c) (eqb (d n) (e n)) t) in
    ⊎_elim (λ (w : s ≡ n). ap d w ∙ high ∙ ap e (sym w)) (λ (w : s < n). bits_same n d e hd he low s w) (eq-or-lt_of_le (omega arith))

-- the letter of two bits
abbrev letter_of : ℕ → ℕ → ℕ
letter_of x z = cond (eqb z 0) x (cond (eqb x 0) 3 2)

letters_found : every 4 (λ l. eqb (letter_of (flip_bit l) (sign_bit l)) l) ≡ true
unfolding letter_bits every
letters_found = refl

letter_of_lem : (l : ℕ) → l < 4 → letter_of (flip_bit l) (sign_bit l) ≡ l
letter_of_lem l h = eqb-true _ _ (every-at 4 (λ l. eqb (letter_of (flip_bit l) (sign_bit l)) l) letters_found l h)

pub masks_same : (p q : Items) → valid p ≡ true → valid q ≡ true → masks_of p ≡ masks_of q → p ≡ q
masks_same p q v w e =
    let F : flips (letter_at p) capacity ≡ flips (letter_at q) capacity = sym (flips_masked p v capacity (reach_most p v)) ∙ ap flip_of e ∙ flips_masked q w capacity (reach_most q w) in
    let S : signs (letter_at p) capacity ≡ signs (letter_at q) capacity = sym (signs_masked p v capacity (reach_most p v)) ∙ ap sign_of e ∙ signs_masked q w capacity (reach_most q w) in
    let flip = bits_same capacity (λ s. flip_bit (letter_at p s)) (λ s. flip_bit (letter_at q s)) (λ s. flip_lt (letter_at p s) (letter_lt p v s)) (λ s. flip_lt (letter_at q s) (letter_lt q w s)) F in
    let sign = bits_same capacity (λ s. sign_bit (letter_at p s)) (λ s. sign_bit (letter_at q s)) (λ s. sign_lt (letter_at p s) (letter_lt p v s)) (λ s. sign_lt (letter_at q s) (letter_lt q w s)) S in
    extensional p q v w (λ s. go s (flip s) (sign s) (ltb s capacity) refl)
  where
    go : (s : ℕ) → (s < capacity → flip_bit (letter_at p s) ≡ flip_bit (letter_at q s)) → (s < capacity → sign_bit (letter_at p s) ≡ sign_bit (letter_at q s))
        → (t : Bool) → ltb s capacity ≡ t → letter_at p s ≡ letter_at q s
    go s flip sign true t =
        let h = ltb-true s capacity t in
        sym (letter_of_lem (letter_at p s) (letter_lt p v s)) ∙ ap₂ letter_of (flip h) (sign h) ∙ letter_of_lem (letter_at q s) (letter_lt q w s)
    go s flip sign false t =
        let h = ltb-false s capacity t in
        letter-beyond p v s (omega (arith, reach_most p v)) ∙ sym (letter-beyond q w s (omega (arith, reach_most q w)))
