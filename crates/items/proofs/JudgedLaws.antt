-- Laws of judging a record in one pass: a letter's bits at a site, one place more, a place that fails, and the end.
-- Assumes nothing.
use mathlib.Core.Path.{◌≡◌, refl, sym, ap, ◌∙◌}
use mathlib.Core.Bool.{Bool, true, false, ◌&&◌, cond}
use Rattle.std.specs.Prelude.{None, Some}
use Prim.Native.Nat.{ℕ, zero, suc, ◌+◌, ◌-◌, ◌*◌, ◌/◌, ◌%◌, ◌^◌, ◌≤◌, ◌<◌}
use native.Mathlib.Nat.{min-eq_left, le_antisymm}
use native.Mathlib.Numerals.{add-one}
use native.Mathlib.Omega.{arith}
use lib.Bits.{bit_xor}
use lib.Dec.{leb, ltb, leb-zero}
use lib.Pow.{shl_exact}
use borrow.Author.Tests.{lt-ltb, le-ltb}
use Rattle.letters.specs.Tests.{every}
use Rattle.letters.proofs.TestLaws.{every_more}
use Rattle.items.specs.Lists.{at}
use Rattle.items.specs.Record.{capacity, highest_site, place_valid, valid}
use Rattle.items.specs.Masks.{letter_bits, masks_in, masks_of}
use Rattle.items.specs.Verdicts.{judged}
use Rattle.items.specs.declared.Items.{Items}
use Rattle.items.proofs.RecordLaws.{place_invalid}

-- ---- a letter's bits

-- they take 33 places
letter_bits_fit : (l : ℕ) → l < 4 → letter_bits l < 2 ^ 33
unfolding letter_bits
letter_bits_fit zero h = omega arith
letter_bits_fit (suc zero) h = omega arith
letter_bits_fit (suc (suc zero)) h = omega arith
letter_bits_fit (suc (suc (suc zero))) h = omega arith
letter_bits_fit (suc (suc (suc (suc l)))) h = absurd (omega arith)

-- as code finds them
letter_bits_found : (l : ℕ) → l < 4 → (l + l / 2) % 2 + 4294967296 * (l / 2) ≡ letter_bits l
unfolding letter_bits
letter_bits_found zero h = refl
letter_bits_found (suc zero) h = refl
letter_bits_found (suc (suc zero)) h = refl
letter_bits_found (suc (suc (suc zero))) h = refl
letter_bits_found (suc (suc (suc (suc l)))) h = absurd (omega arith)

-- a shift to one of 32 sites loses nothing
pub shifted_bits : (l s : ℕ) → l < 4 → s < 32 → (((l + l / 2) % 2 + 4294967296 * (l / 2)) * 2 ^ s) % 2 ^ 64 ≡ letter_bits l * 2 ^ s
shifted_bits l s h m = ap (λ (x : ℕ). (x * 2 ^ s) % 2 ^ 64) (letter_bits_found l h) ∙ shl_exact 33 s 64 (letter_bits_fit l h) (omega arith)

-- ---- the pass

-- what is asked of the next place's site and letter
abbrev next : ℕ → ℕ → ℕ → Bool
next low site letter = leb site highest_site && leb 1 letter && leb letter 3 && leb low site

-- the places below i pass, m has their bits, and the next site is to be low or above it
pub record Judging (p : Items) (i low m : ℕ) : Type 0 where
  pub few : p.count ≤ capacity
  pub within : i ≤ p.count
  pub passed : every i (place_valid p.count p.sites p.letters) ≡ true
  pub above : (s : ℕ) → cond (ltb i 1) true (ltb (at p.sites (i - 1)) s) ≡ leb low s
  pub bits : m ≡ masks_in p.sites p.letters i

pub judging_none : (p : Items) → p.count ≤ capacity → Judging p 0 0 0
unfolding every masks_in
judging_none p few = record { few = few; within = omega arith; passed = refl; above = λ s. sym (leb-zero s); bits = refl }

module _ {p : Items} {i low m : ℕ} (j : Judging p i low m) (h : i < p.count) where
  -- the test of a place is that of its site and its letter
  place_next : place_valid p.count p.sites p.letters i ≡ next low (at p.sites i) (at p.letters i)
  unfolding place_valid
  place_next = rw (lt-ltb i p.count h, j.above (at p.sites i))

  pub judging_failed : {t : Bool} → t ≡ next low (at p.sites i) (at p.letters i) → t ≡ false → false ≡ valid p
  judging_failed e f = place_invalid p i (omega (arith, j.few)) (place_next ∙ sym e ∙ f)

  pub judging_more : {t : Bool} {x : ℕ} → t ≡ next low (at p.sites i) (at p.letters i) → t ≡ true → x ≡ letter_bits (at p.letters i % 4) * 2 ^ (at p.sites i % 32)
      → Judging p (i + 1) (at p.sites i + 1) (bit_xor m x)
  unfolding masks_in
  judging_more e f b =
      record {
        few = j.few;
        within = omega arith;
        passed = every_more i (place_valid p.count p.sites p.letters) j.passed (place_next ∙ sym e ∙ f);
        above = λ s. let last : i + 1 - 1 ≡ i = omega arith in rw (le-ltb (i + 1) 1 (omega arith), last, add-one (at p.sites i));
        bits = rw (add-one i, j.bits, b);
      }

pub judging_masks : {p : Items} {i low m : ℕ} → Judging p i low m → p.count ≤ i → m ≡ masks_of p
unfolding masks_of
judging_masks {p} {i} j h = j.bits ∙ ap (masks_in p.sites p.letters) (le_antisymm j.within h ∙ sym (min-eq_left j.few))

-- ---- the verdict

-- number 0 refuses the record, or lets it pass
pub refused_verdict : (p : Items) → false ≡ valid p → None ≡ judged p
refused_verdict p e = rw (sym e)

pub passed_verdict : (p : Items) {m : ℕ} → true ≡ valid p → m ≡ masks_of p → Some m ≡ judged p
passed_verdict p e f = rw (sym e) (ap Some f)
