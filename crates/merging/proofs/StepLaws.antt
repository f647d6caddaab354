-- One step of bringing two products together: the next site of each, the places that it looks at, and the answer of `Kind::multiply` on two codes.
-- Assumes nothing.
use Rattle.std.proofs.Common.{◌≡◌, true, ℕ, suc, ◌+◌, ◌≤◌, ◌<◌, List, Result, Ok, refl, ap, ◌∙◌, arith}
use Rattle.std.specs.Result.{IsOk}
use native.Mathlib.Decide.{dec_lt}
use borrow.Author.Tests.{lt-ltb, le-ltb}
use Rattle.refusal.specs.Refusals.{gives}
use Rattle.refusal.specs.declared.Refusal.{Refusal}
use Rattle.refusal.proofs.RefusalLaws.{said_ok, said_value}
use Rattle.letters.specs.Matrices.{Letters}
use Rattle.letters.specs.Single.{letter_of, power_of, times}
use Rattle.letters.specs.Answers.{said_letter, multiply_letters, highest_letter}
use Rattle.letters.specs.declared.Scaled.{Scaled}
use Rattle.items.specs.Lists.{at}
use Rattle.items.specs.Record.{highest_site, valid}
use Rattle.merging.specs.Places.{next_site}
use Rattle.items.specs.declared.Items.{Items}
use Rattle.items.proofs.RecordLaws.{valid-at}

-- ---- the next site

-- the site of a place of a record, and a number above every site past its last place
abbrev pub next : Items → ℕ → ℕ
next p i = next_site p.count p.sites i

-- the site of a place, and the number past the last place
pub next_in : (count : ℕ) (sites : List ℕ) (i : ℕ) → i < count → next_site count sites i ≡ at sites i
unfolding next_site
next_in count sites i h = rw (lt-ltb i count h)

pub next_out : (count : ℕ) (sites : List ℕ) (i : ℕ) → count ≤ i → next_site count sites i ≡ suc highest_site
unfolding next_site
next_out count sites i h = rw (le-ltb i count h)

-- ---- the places of a step, from the next sites a of p and b of q, where a place is left

module _ (p q : Items) (v : valid p ≡ true) (w : valid q ≡ true) (i j : ℕ) {a b : ℕ} (e : a ≡ next p i) (d : b ≡ next q j)
    (h : i + j < p.count + q.count) where
  -- one that is not the higher has a place
  pub left_there : a ≤ b → i < p.count
  left_there l =
      elim (dec_lt i p.count) [
        | yes m ↦ m
        | no m ↦
            (let n : j < q.count = omega arith in
            absurd (omega (arith, next_out p.count p.sites i (omega arith), next_in q.count q.sites j n, (valid-at q w j n).site_most)))
      ]

  pub right_there : b ≤ a → j < q.count
  right_there l =
      elim (dec_lt j q.count) [
        | yes m ↦ m
        | no m ↦
            (let n : i < p.count = omega arith in
            absurd (omega (arith, next_out q.count q.sites j (omega arith), next_in p.count p.sites i n, (valid-at p v i n).site_most)))
      ]

-- ---- the answer on two codes

-- of two codes below 4 `multiply` gives the product
module _ (M : Letters) (l r : ℕ) (h : l < 4) (k : r < 4) (x : Result Scaled Refusal) (e : said_letter x ≡ multiply_letters M l r) where
  multiplied : said_letter x ≡ gives (letter_of (times M l r), power_of (times M l r))
  unfolding multiply_letters
  multiplied = e ∙ rw (le-ltb highest_letter l (omega arith), le-ltb highest_letter r (omega arith)) refl

  pub shared_ok : IsOk x
  shared_ok = said_ok (λ y. (y.letter, y.power)) x _ multiplied

  pub shared_value : (y : Scaled) → x ≡ Ok y → (y.letter ≡ letter_of (times M l r)) × (y.power ≡ power_of (times M l r))
  shared_value y q =
      let p = said_value (λ z. (z.letter, z.power)) x y _ q multiplied in
      (ap (λ (u : ℕ × ℕ). u.0) p, ap (λ (u : ℕ × ℕ). u.1) p)
