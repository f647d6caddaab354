-- What the code computes of small numbers is exact: what a coefficient contributes, and the sums of at most 320 contributions. Assumes nothing.
use Prim.Native.Nat.{ℕ, ◌+◌, ◌*◌, ◌^◌, ◌≤◌, ◌<◌}
use native.Mathlib.Omega.{arith}
use mathlib.Core.Path.{◌≡◌, refl, sym, ap, ap₂, ◌∙◌}
use mathlib.Core.Bool.{Bool, true, false, ◌&&◌, cond}
use mathlib.Core.List.{List, [], ◌∷◌, ◌++◌, map}
use lib.IntN.{nat_abs}
use lib.ListN.{length, length-map}
use lib.Dec.{leb, eqb, ltb}
use borrow.Author.Tests.{le-leb, lt-leb}
use Rattle.std.specs.List.{list_all}
use Rattle.refusal.specs.Refusals.{gives, refuses}
use Rattle.letters.specs.Gauss.{G, 𝟙, −𝟙, ◌⊕◌, ⊝, ◌⊗◌, i^}
use Rattle.letters.proofs.GaussLaws.{⊗_assoc, ⊕_⊗, 𝟙_⊗, ⊝-𝟙, ⊝_⊗}
use Rattle.letters.proofs.TestLaws.{and_true, and_left, and_right}
use Rattle.master_equation.specs.Equation.{𝟚}
use Rattle.master_equation.specs.Numbers.{halves}
use Rattle.rows.specs.Buffers.{most_entries}
use Rattle.rows.specs.Calls.{unless_malformed}
use Rattle.rows.specs.Pairs.{pairs}
use Rattle.rows.specs.Placing.{placed, place_all, row_of, nonzero, kept_by, row_in}
use Rattle.rows.specs.declared.Entry.{Entry}
use Rattle.rows.proofs.PlacingLaws.{placed_cases}
use Rattle.exact_sums.specs.ExactSums.{whole, within, largest_contribution, all_small, exact_answer}
use Rattle.exact_sums.specs.Wrapped.{turned, sum_of, wrapped}
use Rattle.exact_sums.specs.Exact.{exact_pair}
use Rattle.exact_sums.specs.declared.Halves.{Halves}
use Rattle.exact_sums.proofs.HalfLaws.{abs_neg, abs_sum, within-re, within-im, within_both, number, minus_exact, sum_exact, zero_exact}
use Rattle.exact_sums.proofs.UnitLaws.{unit-within, turned_exact}

-- ---- what a coefficient contributes: z is i^k c

module _ (k : ℕ) (c : G) {z : G} (e : z ≡ i^ k ⊗ c) where
  scaled_is : z ⊕ z ≡ halves.scaled k c
  unfolding 𝟚
  scaled_is = ap (λ (w : G). w ⊕ w) e ∙ sym (⊗_assoc (𝟙 ⊕ 𝟙) (i^ k) c ∙ ⊕_⊗ 𝟙 𝟙 (i^ k ⊗ c) ∙ ap₂ ◌⊕◌ (𝟙_⊗ (i^ k ⊗ c)) (𝟙_⊗ (i^ k ⊗ c)))

  minus_is : ⊝ z ≡ halves.minus_half k c
  minus_is = ap ⊝ e ∙ sym (⊗_assoc −𝟙 (i^ k) c ∙ ap (λ (u : G). u ⊗ (i^ k ⊗ c)) (sym ⊝-𝟙) ∙ ⊝_⊗ 𝟙 (i^ k ⊗ c) ∙ ap ⊝ (𝟙_⊗ (i^ k ⊗ c)))

-- where twice the coefficient is a small contribution
module _ (m : ℕ) (few : m + m ≤ largest_contribution) where
  -- its contributions are small
  module _ (c : G) (h : within m c ≡ true) (k : ℕ) where
    pub scaled_small : within largest_contribution (halves.scaled k c) ≡ true
    unfolding ◌⊕◌
    scaled_small =
        let w = i^ k ⊗ c in
        let s = unit-within m k c h in
        ap (within largest_contribution) (sym (scaled_is k c refl))
        ∙ within_both largest_contribution (w ⊕ w) (omega (arith, abs_sum w.re w.re, within-re m w s)) (omega (arith, abs_sum w.im w.im, within-im m w s))

    pub minus_small : within largest_contribution (halves.minus_half k c) ≡ true
    unfolding ⊝
    minus_small =
        let w = i^ k ⊗ c in
        let s = unit-within m k c h in
        ap (within largest_contribution) (sym (minus_is k c refl))
        ∙ within_both largest_contribution (⊝ w) (omega (arith, abs_neg w.re, within-re m w s)) (omega (arith, abs_neg w.im, within-im m w s))

  -- and the code computes them
  module _ (c : Halves) (h : within m (number c) ≡ true) (k : ℕ) where
    turns : number (turned k c) ≡ i^ k ⊗ number c
    turns = turned_exact c (omega (arith, within-re m (number c) h)) (omega (arith, within-im m (number c) h)) k

    stays : within m (number (turned k c)) ≡ true
    stays = ap (within m) turns ∙ unit-within m k (number c) h

    turned-re : nat_abs (turned k c).re ≤ m
    turned-re = within-re m (number (turned k c)) stays

    turned-im : nat_abs (turned k c).im ≤ m
    turned-im = within-im m (number (turned k c)) stays

    pub scaled_exact : number (wrapped.scaled k c) ≡ halves.scaled k (number c)
    scaled_exact = sum_exact (turned k c) (turned k c) (omega (arith, turned-re)) (omega (arith, turned-im)) ∙ scaled_is k (number c) turns

    pub minus_half_exact : number (wrapped.minus_half k c) ≡ halves.minus_half k (number c)
    minus_half_exact = minus_exact (turned k c) (omega (arith, turned-re)) (omega (arith, turned-im)) ∙ minus_is k (number c) turns

-- ---- small contributions

pub small_none : all_small [] ≡ true
unfolding all_small
small_none = refl

pub small_cons : (e : ℕ × G) (l : List (ℕ × G)) → within largest_contribution e.1 ≡ true → all_small l ≡ true → all_small (e ∷ l) ≡ true
unfolding all_small
small_cons e l p q = and_true p q

pub small_append : (a b : List (ℕ × G)) → all_small a ≡ true → all_small b ≡ true → all_small (a ++ b) ≡ true
unfolding all_small
small_append [] b p q = q
small_append (x ∷ a) b p q =
    and_true (and_left (within largest_contribution x.1) (all_small a) p) (small_append a b (and_right (within largest_contribution x.1) (all_small a) p) q)

-- ---- sums of at most 320 of them

-- every number of a row is within a size
Sums : ℕ → List (ℕ × Halves) → Type 0
Sums m [] = Unit {0}
Sums m (x ∷ xs) = (within m (number x.1) ≡ true) × Sums m xs

grown : (m : ℕ) (z : G) → within m z ≡ true → within (m + largest_contribution) z ≡ true
grown m z h = within_both (m + largest_contribution) z (omega (arith, within-re m z h)) (omega (arith, within-im m z h))

all_grown : (m : ℕ) (l : List (ℕ × Halves)) → Sums m l → Sums (m + largest_contribution) l
unfolding Sums
all_grown m [] h = tt
all_grown m (x ∷ xs) h = (grown m (number x.1) h.0, all_grown m xs h.1)

-- a small contribution more
module _ (m : ℕ) (room : m + largest_contribution < 2 ^ 63) (e : ℕ × Halves) (small : within largest_contribution (number e.1) ≡ true) where
  fits : (z : Halves) → within m (number z) ≡ true → number (sum_of z e.1) ≡ number z ⊕ number e.1
  fits z h =
      sum_exact z e.1
      (omega (arith, within-re m (number z) h, within-re largest_contribution (number e.1) small))
      (omega (arith, within-im m (number z) h, within-im largest_contribution (number e.1) small))

  sum_within : (z : Halves) → within m (number z) ≡ true → within (m + largest_contribution) (number (sum_of z e.1)) ≡ true
  unfolding ◌⊕◌
  sum_within z h =
      let a = number z in
      let b = number e.1 in
      ap (within (m + largest_contribution)) (fits z h)
      ∙ within_both (m + largest_contribution) (a ⊕ b)
      (omega (arith, abs_sum a.re b.re, within-re m a h, within-re largest_contribution b small))
      (omega (arith, abs_sum a.im b.im, within-im m a h, within-im largest_contribution b small))

  one_within : within (m + largest_contribution) (number e.1) ≡ true
  one_within =
      within_both (m + largest_contribution) (number e.1)
      (omega (arith, within-re largest_contribution (number e.1) small))
      (omega (arith, within-im largest_contribution (number e.1) small))

  placed_within : (l : List (ℕ × Halves)) → Sums m l → Sums (m + largest_contribution) (placed sum_of e l)
  unfolding placed Sums
  placed_within [] h = (one_within, tt)
  placed_within (x ∷ xs) h =
      placed_cases sum_of (Sums (m + largest_contribution)) e x xs
      (λ p. (grown m (number x.1) h.0, placed_within xs h.1))
      (λ p. (sum_within x.1 h.0, all_grown m xs h.1))
      (λ p. (one_within, all_grown m (x ∷ xs) h))

  placed_exact : (l : List (ℕ × Halves)) → Sums m l → map exact_pair (placed sum_of e l) ≡ placed ◌⊕◌ (exact_pair e) (map exact_pair l)
  unfolding placed Sums
  placed_exact [] h = refl
  placed_exact (x ∷ xs) h = go (placed_exact xs h.1) (ltb x.0 e.0) (eqb x.0 e.0)
    where
      go : map exact_pair (placed sum_of e xs) ≡ placed ◌⊕◌ (exact_pair e) (map exact_pair xs) → (s t : Bool)
          → map exact_pair (cond s (x ∷ placed sum_of e xs) (cond t ((x.0, sum_of x.1 e.1) ∷ xs) (e ∷ x ∷ xs)))
          ≡ cond s (exact_pair x ∷ placed ◌⊕◌ (exact_pair e) (map exact_pair xs))
          (cond t ((x.0, number x.1 ⊕ number e.1) ∷ map exact_pair xs) (exact_pair e ∷ exact_pair x ∷ map exact_pair xs))
      go rest true t = ap (λ (l : List (ℕ × G)). exact_pair x ∷ l) rest
      go rest false true = ap (λ (z : G). (x.0, z) ∷ map exact_pair xs) (fits x.1 h.0)
      go rest false false = refl

-- contributions one after the other, where the row is of k contributions
all_exact : (k : ℕ) (es row : List (ℕ × Halves)) → k + length es ≤ most_entries → all_small (map exact_pair es) ≡ true → Sums (k * largest_contribution) row
    → map exact_pair (place_all sum_of es row) ≡ place_all ◌⊕◌ (map exact_pair es) (map exact_pair row)
unfolding place_all all_small
all_exact k [] row few small h = refl
all_exact k (e ∷ es) row few small h =
    let one = and_left (within largest_contribution (number e.1)) (all_small (map exact_pair es)) small in
    let rest = and_right (within largest_contribution (number e.1)) (all_small (map exact_pair es)) small in
    let m = k * largest_contribution in
    let room : m + largest_contribution < 2 ^ 63 = omega arith in
    let next : m + largest_contribution ≡ (k + 1) * largest_contribution = omega arith in
    all_exact (k + 1) es (placed sum_of e row) (omega arith) rest (rw (← next) (placed_within m room e one row h))
    ∙ ap (place_all ◌⊕◌ (map exact_pair es)) (placed_exact m room e one row h)

nonzero_exact : (l : List (ℕ × Halves)) → map exact_pair (nonzero wrapped.is_zero l) ≡ nonzero halves.is_zero (map exact_pair l)
unfolding nonzero
nonzero_exact [] = refl
nonzero_exact (x ∷ xs) = go (nonzero_exact xs) (wrapped.is_zero x.1) ∙ ap (λ (t : Bool). cond t (nonzero halves.is_zero (map exact_pair xs)) (exact_pair x ∷ nonzero halves.is_zero (map exact_pair xs))) (zero_exact x.1)
  where
    go : map exact_pair (nonzero wrapped.is_zero xs) ≡ nonzero halves.is_zero (map exact_pair xs) → (t : Bool) → map exact_pair (cond t (nonzero wrapped.is_zero xs) (x ∷ nonzero wrapped.is_zero xs))
        ≡ cond t (nonzero halves.is_zero (map exact_pair xs)) (exact_pair x ∷ nonzero halves.is_zero (map exact_pair xs))
    go rest true = rest
    go rest false = ap (λ (l : List (ℕ × G)). exact_pair x ∷ l) rest

-- the row of at most 320 small contributions
pub row_exact : (es : List (ℕ × Halves)) → length es ≤ most_entries → all_small (map exact_pair es) ≡ true
    → map exact_pair (row_in wrapped false es) ≡ row_in halves false (map exact_pair es)
unfolding row_in kept_by row_of
row_exact es few small = nonzero_exact (place_all sum_of es []) ∙ ap (nonzero halves.is_zero) (all_exact 0 es [] (omega arith) small (unfold Sums in tt))

-- ---- what is answered of contributions

-- too many, or one too large
pub exact_many : (l : List (ℕ × G)) → most_entries < length l → refuses 0 [] ≡ exact_answer l
unfolding exact_answer unless_malformed
exact_many l h = rw (lt-leb (length l) most_entries h)

pub exact_large : (l : List (ℕ × G)) → length l ≤ most_entries → all_small l ≡ false → refuses 0 [] ≡ exact_answer l
unfolding exact_answer unless_malformed
exact_large l few large = rw (le-leb (length l) most_entries few, large)

-- at most 320 small ones
pub exact_answered : (l : List (ℕ × G)) → length l ≤ most_entries → all_small l ≡ true → gives (row_in halves false l) ≡ exact_answer l
unfolding exact_answer unless_malformed
exact_answered l few small = rw (le-leb (length l) most_entries few, small)

-- each is tested
pub smalls : (es : List (Entry Halves)) → list_all (λ e. within largest_contribution (whole e.value.re e.value.im)) es ≡ all_small (map exact_pair (pairs es))
unfolding all_small
smalls [] = refl
smalls (e ∷ es) = ap (λ (b : Bool). within largest_contribution (whole e.value.re e.value.im) && b) (smalls es)

module _ (es : List (Entry Halves)) (few : length es ≤ most_entries) where
  few_pairs : length (map exact_pair (pairs es)) ≤ most_entries
  few_pairs = omega (arith, few, length-map (pairs es) exact_pair, length-map {B = ℕ × Halves} es (λ (e : Entry Halves). (e.column, e.value)))

  pub entries_large : all_small (map exact_pair (pairs es)) ≡ false → refuses 0 [] ≡ exact_answer (map exact_pair (pairs es))
  entries_large large = exact_large (map exact_pair (pairs es)) few_pairs large

  pub entries_small : all_small (map exact_pair (pairs es)) ≡ true → (row : List (ℕ × Halves)) → row ≡ row_in wrapped false (pairs es)
      → gives (map exact_pair row) ≡ exact_answer (map exact_pair (pairs es))
  entries_small small row e =
      ap (λ (l : List (ℕ × Halves)). gives (map exact_pair l)) e
      ∙ ap gives (row_exact (pairs es) (omega (arith, few, length-map {B = ℕ × Halves} es (λ (e : Entry Halves). (e.column, e.value)))) small)
      ∙ exact_answered (map exact_pair (pairs es)) few_pairs small
