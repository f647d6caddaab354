-- A record that has the letters of a lettering place by place, in ascending order, is the record of that lettering;
-- and a lettering with one site set.
-- Assumes nothing.
use mathlib.Core.Path.{◌≡◌, sym, ap, ◌∙◌, subst}
use mathlib.Core.Bool.{true}
use Prim.Native.Nat.{ℕ, suc, ◌-◌, ◌≤◌, ◌<◌}
use native.Mathlib.Decide.{ℕ_discrete, dec_lt}
use native.Mathlib.Omega.{arith}
use lib.ListN.{length}
use borrow.Author.Tests.{eq-eqb, ne_eqb}
use Rattle.letters.specs.Answers.{highest_letter}
use Rattle.letters.proofs.TestLaws.{every_intro}
use Rattle.items.specs.Lists.{at}
use Rattle.items.specs.Record.{capacity, highest_site, place_valid, valid, letter_at, reach, record_of, update}
use Rattle.items.specs.declared.Items.{Items}
use Rattle.items.proofs.RecordLaws.{place_in, place_out, all_valid, letter_here, letter_free, letter-beyond}
use Rattle.items.proofs.Canonical.{record_ext, canonical}
use Rattle.merging.proofs.PushLaws.{record_any}

-- ---- a lettering with one site set

-- the letter on the site itself
pub update_here : (f : ℕ → ℕ) (s a t : ℕ) → t ≡ s → update f s a t ≡ a
update_here f s a t e = rw (eq-eqb t s e)

-- and on any other
pub update_other : (f : ℕ → ℕ) (s a t : ℕ) → (t ≡ s → ⊥) → update f s a t ≡ f t
update_other f s a t n = rw (ne_eqb t s n)

-- letters of at most the highest
pub update_code : (f : ℕ → ℕ) (s a : ℕ) → ((t : ℕ) → f t ≤ highest_letter) → a ≤ highest_letter → (t : ℕ) → update f s a t ≤ highest_letter
update_code f s a h l t =
    elim (ℕ_discrete t s) [
      | yes e ↦ subst (λ (x : ℕ). x ≤ highest_letter) (sym (update_here f s a t e)) l
      | no n ↦ subst (λ (x : ℕ). x ≤ highest_letter) (sym (update_other f s a t n)) (h t)
    ]

-- free where f is, on every other site
pub update_free : (f : ℕ → ℕ) (s a t : ℕ) → (t ≡ s → a ≡ 0) → f t ≡ 0 → update f s a t ≡ 0
update_free f s a t h z =
    elim (ℕ_discrete t s) [
      | yes e ↦ update_here f s a t e ∙ h e
      | no n ↦ update_other f s a t n ∙ z
    ]

-- ---- a record, place by place

-- what holds of two numbers holds of those that are equal to them
pub cast : {a a' b b' : ℕ} (Q : ℕ → ℕ → Type 0) → a ≡ a' → b ≡ b' → Q a' b' → Q a b
cast {a} {a'} {b} {b'} Q e f q = subst (λ (x : ℕ). Q x b) (sym e) (subst (Q a') (sym f) q)

-- each place of r has a site with its letter in f, the sites ascend, zeros stand past the count, and each letter of f has a place
pub record Holds (f : ℕ → ℕ) (r : Items) : Type 0 where
  pub sites_long : length r.sites ≡ capacity
  pub letters_long : length r.letters ≡ capacity
  pub count_most : r.count ≤ capacity
  pub site_most : (k : ℕ) → k < r.count → at r.sites k ≤ highest_site
  pub letter : (k : ℕ) → k < r.count → at r.letters k ≡ f (at r.sites k)
  pub there : (k : ℕ) → k < r.count → 0 < at r.letters k
  pub ascends : (k : ℕ) → suc k < r.count → at r.sites k < at r.sites (suc k)
  pub past : (k : ℕ) → r.count ≤ k → k < capacity → (at r.sites k ≡ 0) × (at r.letters k ≡ 0)
  pub found : (s : ℕ) → 0 < f s → (k : ℕ) × (k < r.count) × (at r.sites k ≡ s)

module _ {f : ℕ → ℕ} {r : Items} (h : Holds f r) (codes : (s : ℕ) → f s ≤ highest_letter) where
  -- number 0 lets it pass
  holds_valid : valid r ≡ true
  holds_valid =
      all_valid r h.sites_long h.letters_long h.count_most
      (every_intro capacity (place_valid r.count r.sites r.letters)
      (λ k m. elim (dec_lt k r.count) [
        | yes l ↦
            place_in r.count r.sites r.letters k l (h.site_most k l) (h.there k l)
            (subst (λ (x : ℕ). x ≤ highest_letter) (sym (h.letter k l)) (codes (at r.sites k)))
            (λ a. let e : suc (k - 1) ≡ k = omega arith in
            subst (λ (j : ℕ). at r.sites (k - 1) < at r.sites j) e (h.ascends (k - 1) (omega arith)))
        | no l ↦
            (let z = h.past k (omega arith) m in place_out r.count r.sites r.letters k (omega arith) z.0 z.1)
      ]))

  -- its letters are those of f
  holds_letters : (s : ℕ) → letter_at r s ≡ f s
  holds_letters s =
      elim (dec_lt 0 (f s)) [
        | yes l ↦
            (let k = h.found s l in
            ap (letter_at r) (sym k.2) ∙ letter_here r holds_valid k.0 k.1 ∙ h.letter k.0 k.1 ∙ ap f k.2)
        | no l ↦
            letter_free r s (λ k m e. omega (arith, h.there k m, h.letter k m, ap f e))
            ∙ (let z : 0 ≡ f s = omega arith in z)
      ]

  -- so it is the record of f, over any span that f keeps
  pub holds_record : (span : ℕ) → ((s : ℕ) → span ≤ s → f s ≡ 0) → r ≡ record_of f span
  holds_record span z =
      sym (canonical r holds_valid) ∙ record_ext (letter_at r) f (reach r) (λ s l. holds_letters s)
      ∙ record_any f (reach r) span (λ s l. sym (holds_letters s) ∙ letter-beyond r holds_valid s l) z
