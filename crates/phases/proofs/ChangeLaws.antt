-- Conjugation and conversion keep the letters of a product, and the powers of i add up place by place.
-- Assumes nothing.
use Rattle.std.proofs.Common.{◌≡◌, true, ℕ, suc, ◌+◌, ◌%◌, ◌≤◌, ◌<◌, Result, Ok, refl, sym, ap, ap₂, ◌∙◌, arith}
use Rattle.std.specs.Result.{IsOk}
use borrow.Author.Tests.{le-ltb}
use Rattle.refusal.specs.Refusals.{gives, done}
use Rattle.refusal.specs.declared.Refusal.{Refusal}
use Rattle.refusal.proofs.RefusalLaws.{said_ok, said_value}
use Rattle.letters.specs.Sums.{total}
use Rattle.letters.specs.Matrices.{letters_of}
use Rattle.letters.specs.Single.{letter_of, power_of, conjugated, converted}
use Rattle.letters.specs.Answers.{other, decoded, said_letter, conjugate_letter, convert_letter, highest_letter}
use Rattle.letters.specs.declared.Kind.{Kind}
use Rattle.letters.specs.declared.Scaled.{Scaled}
use Rattle.letters.proofs.TableLaws.{closed, converts}
use Rattle.letters.proofs.Codes.{conjugated_plain, converted_plain}
use Rattle.items.specs.Lists.{at}
use Rattle.items.specs.Record.{valid, letter_at, reach, record_of}
use Rattle.items.specs.declared.Items.{Items}
use Rattle.items.proofs.RecordLaws.{valid-at, letter_code, letter_here, letter-beyond}
use Rattle.items.proofs.Canonical.{record_ext, canonical}
use Rattle.items.proofs.Cursor.{Cursor, cursor_none, cursor_gap, cursor_end, cursor_pass, total_site, total_any}
use Rattle.phases.specs.Answers.{conjugate_answer, convert_answer}

-- ---- one letter

-- a change of letters that keeps each letter, gives one of sixteen codes, and gives the identity no power
pub record Keeping (change : ℕ → ℕ) : Type 0 where
  pub letter : (l : ℕ) → l < 4 → letter_of (change l) ≡ l
  pub code : (l : ℕ) → l < 4 → change l < 16
  pub none : power_of (change 0) ≡ 0

pub conjugate_keeps : (kind : Kind) → Keeping (conjugated (letters_of kind))
conjugate_keeps kind =
    record {
      letter = (closed kind).conjugated-letter;
      code = (closed kind).conjugated_lt;
      none = sym (conjugated_plain kind 0 (omega arith) (λ e. omega arith)).1;
    }

pub convert_keeps : (kind : Kind) → Keeping (converted (letters_of kind) (letters_of (other kind)))
convert_keeps kind =
    record {
      letter = (converts kind (other kind)).converted-letter;
      code = (converts kind (other kind)).converted_lt;
      none = sym (converted_plain kind 0 (omega arith) (λ e. omega arith)).1;
    }

-- a letter's power is below 4
pub power_lt : {change : ℕ → ℕ} → Keeping change → (l : ℕ) → l < 4 → power_of (change l) < 4
power_lt k l h = omega (arith, k.code l h)

-- ---- the answer on one letter

-- a letter below 4 is not refused, and its power is that of the change
module _ (kind : Kind) (l : ℕ) (h : l < 4) (x : Result Scaled Refusal) where
  conjugate_said : said_letter x ≡ conjugate_letter (letters_of kind) l → said_letter x ≡ decoded (conjugated (letters_of kind) l)
  unfolding conjugate_letter
  conjugate_said e = e ∙ rw (le-ltb highest_letter l (omega arith)) refl

  convert_said : said_letter x ≡ convert_letter (letters_of kind) (letters_of (other kind)) l
      → said_letter x ≡ decoded (converted (letters_of kind) (letters_of (other kind)) l)
  unfolding convert_letter
  convert_said e = e ∙ rw (le-ltb highest_letter l (omega arith)) refl

  pub conjugate_ok : said_letter x ≡ conjugate_letter (letters_of kind) l → IsOk x
  conjugate_ok e = said_ok (λ y. (y.letter, y.power)) x _ (conjugate_said e)

  pub convert_ok : said_letter x ≡ convert_letter (letters_of kind) (letters_of (other kind)) l → IsOk x
  convert_ok e = said_ok (λ y. (y.letter, y.power)) x _ (convert_said e)

  pub conjugate_says : (y : Scaled) (r : ℕ) → said_letter x ≡ conjugate_letter (letters_of kind) l → x ≡ Ok y → r ≡ y.power
      → r ≡ power_of (conjugated (letters_of kind) l)
  conjugate_says y r e q p = p ∙ ap (λ (u : ℕ × ℕ). u.1) (said_value (λ z. (z.letter, z.power)) x y _ q (conjugate_said e))

  pub convert_says : (y : Scaled) (r : ℕ) → said_letter x ≡ convert_letter (letters_of kind) (letters_of (other kind)) l → x ≡ Ok y → r ≡ y.power
      → r ≡ power_of (converted (letters_of kind) (letters_of (other kind)) l)
  convert_says y r e q p = p ∙ ap (λ (u : ℕ × ℕ). u.1) (said_value (λ z. (z.letter, z.power)) x y _ q (convert_said e))

pub ruleset unwrapped = (conjugate_ok, convert_ok)

pub ruleset powers_told = (conjugate_says, convert_says)

-- ---- all letters

-- the letter at a place
pub letter_lt : (p : Items) → valid p ≡ true → (i : ℕ) → i < p.count → at p.letters i < 4
letter_lt p v i l = omega (arith, (valid-at p v i l).letter_most)

-- the power of the first i places, which are those below some site
pub record Powers (power : ℕ → ℕ) (p : Items) (i sum : ℕ) : Type 0 where
  pub bound : ℕ
  pub cursor : Cursor p i bound
  pub added : sum ≡ total (λ s. power (letter_at p s)) bound % 4

pub powers_none : (power : ℕ → ℕ) (p : Items) → Powers power p 0 0
unfolding total
powers_none power p = record { bound = 0; cursor = cursor_none p; added = refl }

module _ (power : ℕ → ℕ) (p : Items) (v : valid p ≡ true) (none : power 0 ≡ 0) where
  -- a free site gives none
  free_none : (s : ℕ) → letter_at p s ≡ 0 → power (letter_at p s) ≡ 0
  free_none s e = ap power e ∙ none

  -- one place more
  pub powers_more : {i sum k : ℕ} → Powers power p i sum → i < p.count → k ≡ power (at p.letters i) → Powers power p (i + 1) ((sum + k) % 4)
  powers_more {i} {sum} {k} h l e =
      let s = at p.sites i in
      let here : k ≡ power (letter_at p s) = e ∙ ap power (sym (letter_here p v i l)) in
      let site : total (λ t. power (letter_at p t)) (suc s) ≡ total (λ t. power (letter_at p t)) h.bound + power (letter_at p s) =
      total_site (λ t. power (letter_at p t)) h.bound s (h.cursor.after i (omega arith) l)
      (λ t a b. free_none t (cursor_gap p v h.cursor t a (λ m. b))) in
      record { bound = suc s; cursor = cursor_pass p v h.cursor l; added = step sum k _ _ _ h.added here site }
    where
      step : (sum k t u w : ℕ) → sum ≡ t % 4 → k ≡ u → w ≡ t + u → (sum + k) % 4 ≡ w % 4
      step sum k t u w a b c = omega arith

  -- all places
  pub powers_done : {i sum : ℕ} → Powers power p i sum → p.count ≤ i → sum ≡ total (λ s. power (letter_at p s)) (reach p) % 4
  powers_done {i} {sum} h l =
      h.added
      ∙ ap (λ t. t % 4)
      (total_any (λ s. power (letter_at p s)) h.bound (reach p)
      (λ s a. free_none s (cursor_end p v h.cursor l s a))
      (λ s a. free_none s (letter-beyond p v s a)))

-- the record of the changed letters is the product itself
pub changed_record : (change : ℕ → ℕ) → Keeping change → (p : Items) → valid p ≡ true → record_of (λ s. letter_of (change (letter_at p s))) (reach p) ≡ p
changed_record change k p v =
    record_ext (λ s. letter_of (change (letter_at p s))) (letter_at p) (reach p)
    (λ s h. k.letter (letter_at p s) (omega (arith, letter_code p v s)))
    ∙ canonical p v

-- so the record of an answer on a valid product is the product
pub conjugate_record : (kind : Kind) (p : Items) → valid p ≡ true → (conjugate_answer (letters_of kind) p).1.1 ≡ p
unfolding conjugate_answer
conjugate_record kind p v = rw v (changed_record (conjugated (letters_of kind)) (conjugate_keeps kind) p v)

pub convert_record : (kind : Kind) (p : Items) → valid p ≡ true → (convert_answer (letters_of kind) (letters_of (other kind)) p).1.1 ≡ p
unfolding convert_answer
convert_record kind p v = rw v (changed_record (converted (letters_of kind) (letters_of (other kind))) (convert_keeps kind) p v)

-- ---- the answers

pub conjugate_done : (kind : Kind) (p : Items) (power : ℕ) → valid p ≡ true
    → power ≡ total (λ s. power_of (conjugated (letters_of kind) (letter_at p s))) (reach p) % 4 → (done, (power, p)) ≡ conjugate_answer (letters_of kind) p
unfolding conjugate_answer
conjugate_done kind p power v e =
    rw v (ap₂ (λ k q. (done, (k, q))) e (sym (changed_record (conjugated (letters_of kind)) (conjugate_keeps kind) p v)))

pub convert_done : (kind : Kind) (p : Items) (power : ℕ) → valid p ≡ true
    → power ≡ total (λ s. power_of (converted (letters_of kind) (letters_of (other kind)) (letter_at p s))) (reach p) % 4
    → (done, (power, p)) ≡ convert_answer (letters_of kind) (letters_of (other kind)) p
unfolding convert_answer
convert_done kind p power v e =
    rw v (ap₂ (λ k q. (done, (k, q))) e (sym (changed_record (converted (letters_of kind) (letters_of (other kind))) (convert_keeps kind) p v)))
