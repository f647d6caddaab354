-- A pass over the places of a product, lowest site first: what is known between two places, and running totals.
-- Assumes nothing.
use mathlib.Core.Path.{◌≡◌, sym, ap}
use mathlib.Core.Bool.{true}
use mathlib.Core.Logic.{⊎_elim}
use Prim.Native.Nat.{ℕ, zero, suc, ◌+◌, ◌≤◌, ◌<◌}
use native.Mathlib.Decide.{dec_lt}
use native.Mathlib.Nat.{eq-or-lt_of_le}
use native.Mathlib.Omega.{arith}
use Rattle.letters.specs.Sums.{total}
use Rattle.items.specs.Lists.{at}
use Rattle.items.specs.Record.{valid, letter_at}
use Rattle.items.specs.declared.Items.{Items}
use Rattle.items.proofs.RecordLaws.{ascending, letter_free}

-- the places below i have sites below b, and those from i on have sites from b on
pub record Cursor (p : Items) (i b : ℕ) : Type 0 where
  pub within : i ≤ p.count
  pub before : (k : ℕ) → k < i → at p.sites k < b
  pub after : (k : ℕ) → i ≤ k → k < p.count → b ≤ at p.sites k

pub cursor_none : (p : Items) → Cursor p 0 0
cursor_none p = record { within = omega arith; before = λ k l. absurd (omega arith); after = λ k l m. omega arith }

module _ (p : Items) (v : valid p ≡ true) where
  -- sites from a place on
  sites_from : (i k : ℕ) → i ≤ k → k < p.count → at p.sites i ≤ at p.sites k
  sites_from i k l m =
      ⊎_elim (λ e. let h : at p.sites i ≡ at p.sites k = ap (at p.sites) e in omega arith) (λ q. omega (arith, ascending p v i k q m)) (eq-or-lt_of_le l)

  -- free sites below the next place's
  pub cursor_gap : {i b : ℕ} → Cursor p i b → (t : ℕ) → b ≤ t → (i < p.count → t < at p.sites i) → letter_at p t ≡ 0
  cursor_gap {i} {b} c t l h =
      letter_free p t
      (λ k m e. elim (dec_lt k i) [
        | yes q ↦ omega (arith, c.before k q)
        | no q ↦ (let n : i ≤ k = omega arith in omega (arith, h (omega arith), sites_from i k n m))
      ])

  -- no place is left
  pub cursor_end : {i b : ℕ} → Cursor p i b → p.count ≤ i → (t : ℕ) → b ≤ t → letter_at p t ≡ 0
  cursor_end c h t l = cursor_gap c t l (λ m. absurd (omega arith))

  -- past the next place
  pub cursor_pass : {i b : ℕ} → Cursor p i b → i < p.count → Cursor p (i + 1) (suc (at p.sites i))
  cursor_pass {i} {b} c h =
      record {
        within = omega arith;
        before = λ k l. elim (dec_lt k i) [
          | yes q ↦ omega (arith, ascending p v k i q h)
          | no q ↦ (let e : k ≡ i = omega arith in let s : at p.sites k ≡ at p.sites i = ap (at p.sites) e in omega arith)
        ];
        after = λ k l m. ascending p v i k (omega arith) m;
      }

  -- past a site that is below the next place's
  pub cursor_stay : {i b : ℕ} → Cursor p i b → (s : ℕ) → b ≤ suc s → (i < p.count → s < at p.sites i) → Cursor p i (suc s)
  cursor_stay {i} {b} c s l h =
      record {
        within = c.within;
        before = λ k m. omega (arith, c.before k m);
        after = λ k m n. omega (arith, h (omega arith), sites_from i k m n);
      }

-- ---- running totals

-- numbers that are zero from a to b add nothing
pub total-above : (f : ℕ → ℕ) (a b : ℕ) → a ≤ b → ((s : ℕ) → a ≤ s → s < b → f s ≡ 0) → total f b ≡ total f a
unfolding total
total-above f a zero l h = let e : 0 ≡ a = omega arith in ap (total f) e
total-above f a (suc b) l h =
    ⊎_elim
    (λ q. ap (total f) (sym q))
    (λ q. let z : f b ≡ 0 = h b (omega arith) (omega arith) in
    let r : total f b ≡ total f a = total-above f a b (omega arith) (λ s m n. h s m (omega arith)) in omega arith)
    (eq-or-lt_of_le l)

-- numbers that are zero from a on, and from b on, have one total
pub total_any : (f : ℕ → ℕ) (a b : ℕ) → ((s : ℕ) → a ≤ s → f s ≡ 0) → ((s : ℕ) → b ≤ s → f s ≡ 0) → total f a ≡ total f b
total_any f a b h k =
    elim (dec_lt a b) [
      | yes l ↦ sym (total-above f a b (omega arith) (λ s m n. h s m))
      | no l ↦ total-above f b a (omega arith) (λ s m n. k s m)
    ]

-- a site more, after free ones
pub total_site : (f : ℕ → ℕ) (b s : ℕ) → b ≤ s → ((t : ℕ) → b ≤ t → t < s → f t ≡ 0) → total f (suc s) ≡ total f b + f s
unfolding total
total_site f b s l h = ap (λ (x : ℕ). x + f s) (total-above f b s l h)
