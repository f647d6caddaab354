-- A valid record is the record of its letters, and the record of letters that fit is valid and has them:
-- so valid records and letterings are one, and two valid records with the same letters are equal.
-- Assumes nothing.
use mathlib.Core.Path.{◌≡◌, refl, sym, ap, ◌∙◌, subst}
use mathlib.Core.List.{List, [], ◌∷◌, ◌++◌, map}
use mathlib.Core.Bool.{true}
use mathlib.Core.Logic.{⊎_elim}
use Prim.Native.Nat.{ℕ, zero, suc, ◌+◌, ◌-◌, ◌≤◌, ◌<◌, max}
use native.Mathlib.Nat.{not-suc-le-zero, le-max_left, le-max_right}
use native.Mathlib.Decide.{ℕ_discrete, dec_lt}
use native.Mathlib.Omega.{arith}
use lib.ListN.{length, take, length-map}
use lib.Seq.{take-suc, length-take-le, get_or-take, ext_get_or}
use borrow.Author.Tests.{eq-eqb, ne_eqb}
use Rattle.letters.proofs.TestLaws.{bool_ext, every_intro}
use Rattle.letters.specs.Answers.{highest_letter}
use Rattle.items.specs.Lists.{at, support, padded}
use Rattle.items.specs.Record.{capacity, highest_site, place_valid, valid, lookup, letter_at, reach, record_of, same_items, empty_product}
use Rattle.items.specs.declared.Items.{Items}
use Rattle.items.proofs.ListLaws.{below_cases, support_in, support_ext, map-support_ext, support-above, length-support, supported, support_place, length-padded, padded_in, padded_out, padded-take, get_d_map}
use Rattle.items.proofs.RecordLaws.{place_in, place_out, all_valid, valid_shape, valid-at, valid_past, ascending, lookup_absent, lookup_here, lookup-before, lookup_ext, letter_here, letter-beyond, site_below-reach, reach_none}
use Rattle.items.proofs.SameLaws.{same_self, same-equal}

-- ---- the record of a lettering: its span, and letterings that agree

-- a support below the capacity's span fits
pub fits_span : (f : ℕ → ℕ) (span : ℕ) → span ≤ capacity → length (support f span) ≤ capacity
fits_span f span h = omega (arith, length-support f span)

-- letterings that agree below the span
pub record_ext : (f g : ℕ → ℕ) (span : ℕ) → ((s : ℕ) → s < span → f s ≡ g s) → record_of f span ≡ record_of g span
unfolding record_of
record_ext f g span h =
    let e : support f span ≡ support g span = support_ext f g span h in
    let m : map f (support f span) ≡ map g (support g span) = map-support_ext f g span h ∙ ap (map g) e in
    λ i. record { count = length (e i); sites = padded capacity (e i); letters = padded capacity (m i) }

-- a stretch of free sites adds nothing
pub record_span : (f : ℕ → ℕ) (a b : ℕ) → a ≤ b → ((s : ℕ) → a ≤ s → s < b → f s ≡ 0) → record_of f b ≡ record_of f a
unfolding record_of
record_span f a b l h =
    let e : support f b ≡ support f a = support-above f a b l h in
    λ i. record { count = length (e i); sites = padded capacity (e i); letters = padded capacity (map f (e i)) }

-- ---- a valid record is the record of its letters

none : (l : List ℕ) (f : ℕ → ℕ) → support f 0 ≡ take 0 l
unfolding support
none [] f = refl
none (x ∷ l) f = refl

-- the sites of the first n places, below a bound that they keep
support-take : (p : Items) → valid p ≡ true → (n m : ℕ) → n ≤ p.count → ((i : ℕ) → i < n → at p.sites i < m) → support (lookup p.sites p.letters n) m ≡ take n p.sites
support-take p v zero m l h =
    support-above (lookup p.sites p.letters 0) 0 m (omega arith)
    (λ s a b. lookup_absent p.sites p.letters 0 s (λ i q. absurd (not-suc-le-zero q)))
    ∙ none p.sites (lookup p.sites p.letters 0)
support-take p v (suc n) m l h =
    let f = lookup p.sites p.letters (suc n) in
    let t = at p.sites n in
    let e = valid-at p v n (omega arith) in
    let shape = valid_shape p v in
    let there : 0 < f t = rw (lookup_here p.sites p.letters n) (omega (arith, e.letter_there)) in
    let top : support f m ≡ support f (t + 1) =
    support-above f (t + 1) m (omega (arith, h n (omega arith)))
    (λ s a b. lookup_absent p.sites p.letters (suc n) s
    (λ i q r. ⊎_elim
    (λ x. omega (arith, r, ap (at p.sites) x))
    (λ x. omega (arith, r, ascending p v i n x (omega arith)))
    (below_cases i n q))) in
    let low : support f t ≡ support (lookup p.sites p.letters n) t =
    support_ext f (lookup p.sites p.letters n) t (λ k q. lookup-before p.sites p.letters n k (λ r. omega (arith, r))) in
    top ∙ support_in f t there ∙ ap (λ (x : List ℕ). x ++ (t ∷ [])) (low ∙ support-take p v n t (omega arith) (λ i q. ascending p v i n q (omega arith)))
    ∙ sym (take-suc p.sites n 0 (omega (arith, shape.sites_long, shape.count_most)))

-- the occupied sites of a valid record are those of its places
pub support_sites : (p : Items) → valid p ≡ true → support (letter_at p) (reach p) ≡ take p.count p.sites
unfolding letter_at
support_sites p v = support-take p v p.count (reach p) (omega arith) (λ i l. site_below-reach p v i l)

letters_taken : (p : Items) → valid p ≡ true → map (letter_at p) (take p.count p.sites) ≡ take p.count p.letters
letters_taken p v =
    let shape = valid_shape p v in
    let n = p.count in
    let ls : length (take n p.sites) ≡ n = length-take-le n p.sites (omega (arith, shape.count_most, shape.sites_long)) in
    let ll : length (take n p.letters) ≡ n = length-take-le n p.letters (omega (arith, shape.count_most, shape.letters_long)) in
    let lm : length (map (letter_at p) (take n p.sites)) ≡ n = length-map (take n p.sites) (letter_at p) ∙ ls in
    ext_get_or 0 (map (letter_at p) (take n p.sites)) (take n p.letters) (lm ∙ sym ll)
    (λ i m. let m' : i < n = omega arith in
    get_d_map (letter_at p) (take n p.sites) i (omega arith)
    ∙ rw (get_or-take n p.sites i 0 m', get_or-take n p.letters i 0 m') (letter_here p v i m'))

pub canonical : (p : Items) → valid p ≡ true → record_of (letter_at p) (reach p) ≡ p
unfolding record_of
canonical p v =
    let shape = valid_shape p v in
    let n = p.count in
    let f = letter_at p in
    let sup : support f (reach p) ≡ take n p.sites = support_sites p v in
    let c : length (support f (reach p)) ≡ n = rw sup (length-take-le n p.sites (omega (arith, shape.count_most, shape.sites_long))) in
    let s : padded capacity (support f (reach p)) ≡ p.sites =
    rw sup (padded-take capacity p.sites n shape.sites_long shape.count_most (λ i a b. (valid_past p v i a b).0)) in
    let l : padded capacity (map f (support f (reach p))) ≡ p.letters =
    rw (sup, letters_taken p v) (padded-take capacity p.letters n shape.letters_long shape.count_most (λ i a b. (valid_past p v i a b).1)) in
    λ i. record { count = c i; sites = s i; letters = l i }

-- the same over any span from the reach on
pub canonical_span : (p : Items) → valid p ≡ true → (span : ℕ) → reach p ≤ span → record_of (letter_at p) span ≡ p
canonical_span p v span l = record_span (letter_at p) (reach p) span l (λ s a b. letter-beyond p v s a) ∙ canonical p v

-- ---- valid records with the same letters are equal

pub extensional : (p q : Items) → valid p ≡ true → valid q ≡ true → ((s : ℕ) → letter_at p s ≡ letter_at q s) → p ≡ q
extensional p q v w h =
    let span = max (reach p) (reach q) in
    sym (canonical_span p v span (le-max_left (reach p) (reach q)))
    ∙ record_ext (letter_at p) (letter_at q) span (λ s l. h s)
    ∙ canonical_span q w span (le-max_right (reach p) (reach q))

-- ---- the record of a lettering is valid

pub record_valid : (f : ℕ → ℕ) (span : ℕ) → ((s : ℕ) → s < span → f s ≤ highest_letter) → span ≤ suc highest_site → length (support f span) ≤ capacity
    → valid (record_of f span) ≡ true
unfolding record_of
record_valid f span h t fits =
    let l = support f span in
    let lm : length (map f l) ≡ length l = length-map l f in
    let s = supported f span in
    let letter : (i : ℕ) → i < length l → at (padded capacity (map f l)) i ≡ f (at l i) =
    λ i m. padded_in capacity (map f l) i (omega arith) ∙ get_d_map f l i m in
    all_valid (record_of f span) (length-padded capacity l fits) (length-padded capacity (map f l) (omega arith)) fits
    (every_intro capacity (place_valid (length l) (padded capacity l) (padded capacity (map f l)))
    (λ i m. elim (dec_lt i (length l)) [
      | yes q ↦
          place_in (length l) (padded capacity l) (padded capacity (map f l)) i q
          (omega (arith, padded_in capacity l i q, s.below i q))
          (omega (arith, letter i q, s.held i q))
          (omega (arith, letter i q, h (at l i) (s.below i q)))
          (λ a. omega (arith, padded_in capacity l i q, padded_in capacity l (i - 1) (omega arith), s.up i a q))
      | no q ↦
          place_out (length l) (padded capacity l) (padded capacity (map f l)) i (omega arith)
          (padded_out capacity l i (omega arith) m)
          (padded_out capacity (map f l) i (omega arith) m)
    ]))

-- ---- and has its letters

-- the record's letters are looked up in the support itself
record_lookup : (f : ℕ → ℕ) (span s : ℕ) → letter_at (record_of f span) s ≡ lookup (support f span) (map f (support f span)) (length (support f span)) s
unfolding letter_at record_of
record_lookup f span s =
    let l = support f span in
    let lm : length (map f l) ≡ length l = length-map l f in
    lookup_ext (padded capacity l) (padded capacity (map f l)) l (map f l) (length l) s
    (λ i m. padded_in capacity l i m)
    (λ i m. padded_in capacity (map f l) i (omega arith))

-- a site of the list is found, whatever its place
lookup_mapped : (f : ℕ → ℕ) (l : List ℕ) (n s : ℕ) → n ≤ length l → (i : ℕ) → i < n → at l i ≡ s → lookup l (map f l) n s ≡ f s
unfolding lookup
lookup_mapped f l zero s h i m e = absurd (not-suc-le-zero m)
lookup_mapped f l (suc n) s h i m e =
    elim (ℕ_discrete (at l n) s) [
      | yes q ↦ rw (eq-eqb (at l n) s q) (get_d_map f l n (omega arith) ∙ ap f q)
      | no q ↦
          rw (ne_eqb (at l n) s q)
          (lookup_mapped f l n s (omega arith) i (⊎_elim (λ x. absurd (q (ap (at l) (sym x) ∙ e))) (λ x. x) (below_cases i n m)) e)
    ]

pub record_letters : (f : ℕ → ℕ) (span s : ℕ) → s < span → letter_at (record_of f span) s ≡ f s
record_letters f span s l =
    let L = support f span in
    record_lookup f span s
    ∙ elim (dec_lt 0 (f s)) [
      | yes h ↦ (let r = support_place f span s l h in lookup_mapped f L (length L) s (omega arith) r.0 r.1 r.2)
      | no h ↦
          lookup_absent L (map f L) (length L) s (λ i m e. omega (arith, (supported f span).held i m, ap f e))
          ∙ (let z : 0 ≡ f s = omega arith in z)
    ]

pub record_beyond : (f : ℕ → ℕ) (span s : ℕ) → span ≤ s → letter_at (record_of f span) s ≡ 0
record_beyond f span s l =
    record_lookup f span s
    ∙ lookup_absent (support f span) (map f (support f span)) (length (support f span)) s (λ i m e. omega (arith, (supported f span).below i m))

-- ---- the empty product

-- number 0 lets it pass
pub empty-valid : valid empty_product ≡ true
unfolding empty_product
empty-valid = record_valid (λ s. 0) 0 (λ s l. omega arith) (omega arith) (omega (arith, length-support (λ s. 0) 0))

-- a valid record without letters is the empty product
none_held : (p : Items) → valid p ≡ true → p.count ≡ 0 → p ≡ empty_product
unfolding empty_product record_of support
none_held p v e = sym (canonical p v) ∙ ap (record_of (letter_at p)) (reach_none p e)

-- so a record without letters is that of the empty product where number 0 lets it pass
pub empty-told : (p : Items) → p.count ≡ 0 → valid p ≡ same_items p empty_product
empty-told p e =
    bool_ext (valid p) (same_items p empty_product)
    (λ v. subst (λ q. same_items p q ≡ true) (none_held p v e) (same_self p))
    (λ t. subst (λ q. valid q ≡ true) (sym (same-equal p empty_product t)) empty-valid)
