-- Searches among the places of a record: what `position` finds is the first place at which its test passes.
-- Assumes nothing.
use Rattle.std.proofs.Common.{◌≡◌, true, ℕ, ◌≤◌, ◌<◌, List, length, take, Option, Some, None, MatchOption, unwrap_or, sym, ap, ◌∙◌, subst, arith, get_or-take}
use Rattle.std.proofs.lemmas.List.{length-take-le}
use Rattle.std.specs.List.{AllWithin, HoldsAt}
use lib.Dec.{leb}
use borrow.Author.Tests.{lt-leb}
use Rattle.items.specs.Lists.{at}
use Rattle.items.specs.Record.{valid, letter_at}
use Rattle.items.specs.declared.Items.{Items}
use Rattle.items.proofs.RecordLaws.{valid_shape, valid-at, letter_here, letter_free}
use Rattle.items.proofs.ScanLaws.{Scan}
use Rattle.merging.specs.Places.{place_of}
use Rattle.merging.proofs.PlaceLaws.{reaches, place_found, place_none}

-- what a search says of a list: the first element that is Yes, after elements that are No, or that all are No
abbrev pub Searched : (ℕ → Type 0) → (ℕ → Type 0) → List ℕ → Option ℕ → Type 0
Searched Yes No l r =
    MatchOption r (AllWithin No l 0 (length l)) (λ i. (i < length l) × HoldsAt Yes l i × AllWithin No l 0 i)

module _ (p : Items) (v : valid p ≡ true) where
  -- the places are a part of the array
  places_fit : p.count ≤ length p.sites
  places_fit = let shape = valid_shape p v in omega (arith, shape.sites_long, shape.count_most)

  pub places_long : length (take p.count p.sites) ≡ p.count
  places_long = length-take-le p.count p.sites places_fit

  -- what holds of an element of that part holds of the place's site
  pub site_at : (Q : ℕ → Type 0) (k : ℕ) → k < p.count → Q (at (take p.count p.sites) k) → Q (at p.sites k)
  site_at Q k l h = subst Q (get_or-take p.count p.sites k 0 l) h

  -- the first place whose site is not below s
  pub place_searched : (s : ℕ) (r : Option ℕ) → Searched (λ x. s ≤ x) (λ x. x < s) (take p.count p.sites) r
      → unwrap_or r p.count ≡ place_of p s
  place_searched s None all =
      let long = places_long in
      let scan : Scan (reaches p s) p.count p.count = record {
        within = omega arith;
        fails = λ k l. lt-leb s (at p.sites k) (site_at (λ x. x < s) k l (all k 0 (omega arith) (omega arith)));
      } in
      place_none p s scan (omega arith)
  place_searched s (Some i) f =
      let long = places_long in
      let l : i < p.count = omega (arith, f.0) in
      let scan : Scan (reaches p s) p.count i = record {
        within = omega arith;
        fails = λ k m. lt-leb s (at p.sites k) (site_at (λ x. x < s) k (omega arith) (f.2 k 0 (omega arith) m));
      } in
      place_found p s scan l (site_at (λ x. s ≤ x) i l (f.1 0))

  -- the letter on a site
  pub letter_searched : (s : ℕ) (r : Option ℕ) → Searched (λ x. x ≡ s) (λ x. x ≡ s → ⊥) (take p.count p.sites) r
      → MatchOption r (letter_at p s ≡ 0) (λ i. (i < p.count) × (at p.letters i ≡ letter_at p s) × (0 < at p.letters i))
  letter_searched s None all =
      let long = places_long in
      letter_free p s (λ k l. site_at (λ x. x ≡ s → ⊥) k l (all k 0 (omega arith) (omega arith)))
  letter_searched s (Some i) f =
      let long = places_long in
      let l : i < p.count = omega (arith, f.0) in
      let e : at p.sites i ≡ s = site_at (λ x. x ≡ s) i l (f.1 0) in
      (l, sym (letter_here p v i l) ∙ ap (letter_at p) e, omega (arith, (valid-at p v i l).letter_there))
