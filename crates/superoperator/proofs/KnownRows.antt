-- A row over whole numbers that ascends and holds no zero is known by its numbers at the columns; so the exact rows of two lists of contributions
-- are one exactly where the sums at each column are.
-- Assumes nothing.
use mathlib.Core.Path.{◌≡◌, refl, sym, ◌∙◌, ap}
use mathlib.Core.Bool.{Bool, true, false, not, cond}
use mathlib.Core.List.{List, [], ◌∷◌}
use mathlib.Core.Logic.{◌↔◌}
use Prim.Native.Nat.{ℕ, suc, ◌≤◌, ◌<◌}
use native.Mathlib.Decide.{dec_lt}
use native.Mathlib.Omega.{arith}
use lib.Dec.{eqb}
use borrow.Author.Tests.{eqb-true, ne_eqb, not-true}
use Rattle.letters.specs.Gauss.{G, 𝟘, ◌⊕◌, eq_G}
use Rattle.letters.proofs.GaussLaws.{eq_G-same}
use Rattle.terms.specs.Keyed.{each}
use Rattle.terms.proofs.KeyedLaws.{each_cons, each_head, each_tail}
use Rattle.master_equation.specs.Numbers.{halves}
use Rattle.rows.specs.Placing.{row_of, nonzero, kept_by, row_in}
use Rattle.master_equation.specs.Sums.{Ascending, Below, contributions_to, sum_at, value_at}
use Rattle.rows.proofs.PlacingLaws.{none_before, same_numbers, row_below, row_in_ascending, row_in_value}

-- no number is zero
abbrev pub NoZero : List (ℕ × G) → Type 0
NoZero l = each (λ x xs. not (eq_G x.1 𝟘)) l ≡ true

-- ---- rows known by their values

-- the numbers at a column: its value, or none where that is zero
numbers_value : (i c : ℕ) (l : List (ℕ × G)) → Ascending i l → NoZero l → contributions_to c l ≡ cond (eq_G (value_at c l) 𝟘) [] (value_at c l ∷ [])
unfolding contributions_to value_at Ascending
numbers_value i c [] a z = sym (ap (λ t. cond t [] (𝟘 ∷ [])) (eq_G-same 𝟘))
numbers_value i c (x ∷ xs) a z =
    go (eqb c x.0) refl (numbers_value (suc x.0) c xs a.1 (each_tail (λ (x : ℕ × G) xs. not (eq_G x.1 𝟘)) x xs z))
  where
    go : (t : Bool) → eqb c x.0 ≡ t → contributions_to c xs ≡ cond (eq_G (value_at c xs) 𝟘) [] (value_at c xs ∷ [])
        → cond t (x.1 ∷ contributions_to c xs) (contributions_to c xs) ≡ cond (eq_G (cond t x.1 (value_at c xs)) 𝟘) [] (cond t x.1 (value_at c xs) ∷ [])
    go true q r =
        let e = eqb-true c x.0 q in
        ap (λ (y : List G). x.1 ∷ y) (none_before (suc x.0) c xs a.1 (omega arith))
        ∙ sym (ap (λ t. cond t [] (x.1 ∷ [])) (not-true (eq_G x.1 𝟘) (each_head (λ (x : ℕ × G) xs. not (eq_G x.1 𝟘)) x xs z)))
    go false q r = r

-- two rows are one exactly where they have the same value at each column
pub rows_known : (l m : List (ℕ × G)) → Ascending 0 l → Ascending 0 m → NoZero l → NoZero m → (l ≡ m) ↔ ((c : ℕ) → value_at c l ≡ value_at c m)
rows_known l m al am zl zm = (
  λ e c. ap (value_at c) e,
  λ e. same_numbers 0 l m al am (λ c. numbers_value 0 c l al zl ∙ ap (λ x. cond (eq_G x 𝟘) [] (x ∷ [])) (e c) ∙ sym (numbers_value 0 c m am zm)),
)

-- past its columns a row is zero
value_past : (d c : ℕ) (l : List (ℕ × G)) → Below d l → d ≤ c → value_at c l ≡ 𝟘
unfolding Below value_at
value_past d c [] b h = refl
value_past d c (x ∷ xs) b h =
    let p = b.0 in
    ap (λ t. cond t x.1 (value_at c xs)) (ne_eqb c x.0 (λ e. omega arith)) ∙ value_past d c xs b.1 h

-- so where all columns are below d, so are those that need be compared
pub rows_known_below : (d : ℕ) (l m : List (ℕ × G)) → Ascending 0 l → Ascending 0 m → NoZero l → NoZero m → Below d l → Below d m
    → (l ≡ m) ↔ ((c : ℕ) → c < d → value_at c l ≡ value_at c m)
rows_known_below d l m al am zl zm bl bm =
    (λ e c h. ap (value_at c) e, λ e. (rows_known l m al am zl zm).1 (everywhere e))
  where
    everywhere : ((c : ℕ) → c < d → value_at c l ≡ value_at c m) → (c : ℕ) → value_at c l ≡ value_at c m
    everywhere e c = elim (dec_lt c d) [ yes h ↦ e c h | no h ↦ value_past d c l bl (omega arith) ∙ sym (value_past d c m bm (omega arith)) ]

-- ---- exact rows

-- leaving zeros out leaves none
pub nonzero_none : (l : List (ℕ × G)) → NoZero (nonzero (λ x. eq_G x 𝟘) l)
unfolding nonzero each
nonzero_none [] = refl
nonzero_none (x ∷ xs) = go (eq_G x.1 𝟘) refl (nonzero_none xs)
  where
    go : (t : Bool) → eq_G x.1 𝟘 ≡ t → NoZero (nonzero (λ x. eq_G x 𝟘) xs) → NoZero (cond t (nonzero (λ x. eq_G x 𝟘) xs) (x ∷ nonzero (λ x. eq_G x 𝟘) xs))
    go true q r = r
    go false q r = each_cons (λ (x : ℕ × G) xs. not (eq_G x.1 𝟘)) x (nonzero (λ x. eq_G x 𝟘) xs) (ap not q) r

-- and no column above
pub nonzero-below : (d : ℕ) (l : List (ℕ × G)) → Below d l → Below d (nonzero (λ x. eq_G x 𝟘) l)
unfolding nonzero Below
nonzero-below d [] b = tt
nonzero-below d (x ∷ xs) b = go (eq_G x.1 𝟘) (nonzero-below d xs b.1)
  where
    go : (t : Bool) → Below d (nonzero (λ x. eq_G x 𝟘) xs) → Below d (cond t (nonzero (λ x. eq_G x 𝟘) xs) (x ∷ nonzero (λ x. eq_G x 𝟘) xs))
    go true r = r
    go false r = (b.0, r)

-- so it is with an exact row
exact_none : (es : List (ℕ × G)) → NoZero (row_in halves false es)
unfolding row_in kept_by
exact_none es = nonzero_none (row_of ◌⊕◌ es)

exact_below : (d : ℕ) (es : List (ℕ × G)) → Below d es → Below d (row_in halves false es)
unfolding row_in kept_by
exact_below d es b = nonzero-below d (row_of ◌⊕◌ es) (row_below ◌⊕◌ d es b)

-- two such rows are one exactly where the sums at the columns below d are
pub exact_rows_known : (d : ℕ) (es fs : List (ℕ × G)) → Below d es → Below d fs → (row_in halves false es ≡ row_in halves false fs) ↔ ((c : ℕ) → c < d → sum_at c es ≡ sum_at c fs)
exact_rows_known d es fs be bf =
    (λ e c h. sym (row_in_value false c es) ∙ known.0 e c h ∙ row_in_value false c fs, λ e. known.1 (λ c h. row_in_value false c es ∙ e c h ∙ sym (row_in_value false c fs)))
  where
    known : (row_in halves false es ≡ row_in halves false fs) ↔ ((c : ℕ) → c < d → value_at c (row_in halves false es) ≡ value_at c (row_in halves false fs))
    known =
        rows_known_below d (row_in halves false es) (row_in halves false fs) (row_in_ascending halves false es) (row_in_ascending halves false fs)
        (exact_none es) (exact_none fs) (exact_below d es be) (exact_below d fs bf)
