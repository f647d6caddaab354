-- The place of a site in a valid record: lower sites stand before it, the others from it on. A record that has a free site has a place left.
-- Assumes nothing.
use mathlib.Core.Path.{◌≡◌, sym, ap, ◌∙◌, subst}
use mathlib.Core.List.{[], ◌∷◌}
use mathlib.Core.Bool.{Bool, true, false, cond}
use mathlib.Core.Logic.{⊎_elim}
use Prim.Native.Nat.{ℕ, zero, suc, ◌+◌, ◌≤◌, ◌<◌}
use native.Mathlib.Nat.{eq-or-lt_of_le}
use native.Mathlib.Numerals.{add-one}
use native.Mathlib.Omega.{arith}
use lib.Dec.{ltb, leb}
use lib.ListN.{length, length-append}
use borrow.Author.Tests.{le-leb, leb-true, leb-false}
use Rattle.letters.specs.Tests.{first_from}
use Rattle.letters.proofs.TestLaws.{first_holds, first_before}
use Rattle.items.specs.Lists.{at, support}
use Rattle.items.specs.Record.{capacity, highest_site, valid, letter_at, record_of}
use Rattle.items.specs.declared.Items.{Items}
use Rattle.items.proofs.ListLaws.{below_cases, support_out, length-support}
use Rattle.items.proofs.RecordLaws.{ascending, reach_most}
use Rattle.items.proofs.Canonical.{canonical_span}
use Rattle.items.proofs.Cursor.{Cursor, cursor_gap}
use Rattle.merging.specs.Places.{place_of}
use Rattle.items.proofs.ScanLaws.{Scan, scan_found, scan_done, first_within}

-- ---- the place of a site

-- the site at place i is not below s
abbrev pub reaches : Items → ℕ → ℕ → Bool
reaches p s i = leb s (at p.sites i)

-- the first such place, and that there is none
pub place_found : (p : Items) (s : ℕ) {i : ℕ} → Scan (reaches p s) p.count i → i < p.count → s ≤ at p.sites i → i ≡ place_of p s
unfolding place_of
place_found p s {i} h l m = scan_found h l (le-leb s (at p.sites i) m)

pub place_none : (p : Items) (s : ℕ) {i : ℕ} → Scan (reaches p s) p.count i → p.count ≤ i → i ≡ place_of p s
unfolding place_of
place_none p s h l = scan_done h l

module _ (p : Items) (v : valid p ≡ true) where
  -- lower sites stand before the place, the others from it on
  pub place_cursor : {s n : ℕ} → n ≡ place_of p s → Cursor p n s
  unfolding place_of
  place_cursor {s} {n} e =
      let first = first_from (reaches p s) p.count 0 in
      let least : n < p.count → s ≤ at p.sites n =
      λ l. subst (λ (k : ℕ). s ≤ at p.sites k) (sym e) (leb-true s (at p.sites first) (first_holds (reaches p s) p.count 0 (omega arith))) in
      record {
        within = omega (arith, first_within (reaches p s) p.count 0);
        before = λ k l. leb-false s (at p.sites k) (first_before (reaches p s) p.count 0 k (omega arith) (omega arith));
        after = λ k l m. ⊎_elim
            (λ q. omega (arith, least (omega arith), ap (at p.sites) q))
            (λ q. omega (arith, least (omega arith), ascending p v n k q m))
            (eq-or-lt_of_le l);
      }

  -- a site that is not at its place is free
  pub place_free : {s n : ℕ} → n ≡ place_of p s → (n < p.count → at p.sites n ≡ s → ⊥) → letter_at p s ≡ 0
  place_free {s} {n} e q =
      let c = place_cursor e in
      cursor_gap p v c s (omega arith) (λ m. omega (arith, c.after n (omega arith) m, q m))

-- ---- a place left

-- a support has a number less where f is 0 at one of them
length-support_free : (f : ℕ → ℕ) (n s : ℕ) → s < n → f s ≡ 0 → length (support f n) < n
unfolding support
length-support_free f zero s l e = absurd (omega arith)
length-support_free f (suc n) s l e =
    ⊎_elim
    (λ q. let z : length (support f (suc n)) ≡ length (support f n) =
    ap length (sym (ap (support f) (add-one n)) ∙ support_out f n (omega (arith, ap f q))) in
    omega (arith, length-support f n))
    (λ q. rw length-append (go (ltb 0 (f n)) (length-support_free f n s q e)))
    (below_cases s n l)
  where
    go : (b : Bool) → length (support f n) < n → length (support f n) + length (cond b (n ∷ []) []) < suc n
    go true h = omega arith
    go false h = omega arith

-- a letter more has a place
pub free_room : (p : Items) → valid p ≡ true → (s : ℕ) → s ≤ highest_site → letter_at p s ≡ 0 → p.count < capacity
unfolding record_of
free_room p v s low free =
    let c : length (support (letter_at p) capacity) ≡ p.count = ap (λ (q : Items). q.count) (canonical_span p v capacity (reach_most p v)) in
    omega (arith, length-support_free (letter_at p) capacity s (omega arith) free)
