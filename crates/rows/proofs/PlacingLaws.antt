-- Laws of rows made by placing contributions, in whatever order: the columns ascend strictly and are those of the contributions, and over whole numbers
-- each number is the sum of its column's contributions. Assumes nothing.
use mathlib.Core.Path.{◌≡◌, refl, sym, ◌∙◌, ap, ap₂, subst}
use mathlib.Core.Bool.{Bool, true, false, ◌||◌, cond}
use mathlib.Core.List.{List, [], ◌∷◌, ◌++◌}
use Prim.Native.Nat.{ℕ, suc, ◌≤◌, ◌<◌}
use native.Mathlib.Omega.{arith}
use borrow.Author.Tests.{ltb-true, ltb-false, eqb-true, eqb-false, eq-eqb, ne_eqb}
use lib.Dec.{eqb, ltb}
use Rattle.letters.specs.Gauss.{G, 𝟘, ◌⊕◌, eq_G}
use Rattle.letters.proofs.GaussLaws.{ring, ⊕_assoc, 𝟘_⊕, ⊕_𝟘, eq_G_true}
use Rattle.master_equation.specs.Numbers.{Numbers, halves}
use Rattle.rows.specs.Placing.{placed, place_all, row_of, nonzero, kept_by, row_in, open_row_in}
use Rattle.master_equation.specs.Sums.{Ascending, Below, has_column, contributions_to, part_at, sum_at, value_at}

-- ---- ascending columns

module _ {N : Type 0} where
  -- from an earlier column on
  pub ascending_from : (i j : ℕ) (l : List (ℕ × N)) → i ≤ j → Ascending j l → Ascending i l
  unfolding Ascending
  ascending_from i j [] h a = tt
  ascending_from i j (x ∷ xs) h a = let p = a.0 in (omega arith, a.1)

  -- a column before all of them has no contribution
  pub none_before : (i c : ℕ) (l : List (ℕ × N)) → Ascending i l → c < i → contributions_to c l ≡ []
  unfolding Ascending contributions_to
  none_before i c [] a h = refl
  none_before i c (x ∷ xs) a h =
      let p = a.0 in
      ap (λ t. cond t (x.1 ∷ contributions_to c xs) (contributions_to c xs)) (ne_eqb c x.0 (λ e. omega arith))
      ∙ none_before (suc x.0) c xs a.1 (omega arith)

  -- the entries that are not zero
  pub nonzero_ascending : (i : ℕ) (is_zero : N → Bool) (l : List (ℕ × N)) → Ascending i l → Ascending i (nonzero is_zero l)
  unfolding Ascending nonzero
  nonzero_ascending i is_zero [] a = tt
  nonzero_ascending i is_zero (x ∷ xs) a = go (is_zero x.1) (nonzero_ascending (suc x.0) is_zero xs a.1)
    where
      go : (b : Bool) → Ascending (suc x.0) (nonzero is_zero xs) → Ascending i (cond b (nonzero is_zero xs) (x ∷ nonzero is_zero xs))
      go true r = let p = a.0 in ascending_from i (suc x.0) (nonzero is_zero xs) (omega arith) r
      go false r = (a.0, r)

-- ---- placing, over any numbers

module _ {N : Type 0} (sum : N → N → N) where
  -- what is so in each of the three cases is so of a contribution placed
  pub placed_cases : (P : List (ℕ × N) → Type 0) (e x : ℕ × N) (xs : List (ℕ × N))
      → (x.0 < e.0 → P (x ∷ placed sum e xs)) → (x.0 ≡ e.0 → P ((x.0, sum x.1 e.1) ∷ xs)) → (e.0 < x.0 → P (e ∷ x ∷ xs))
      → P (placed sum e (x ∷ xs))
  unfolding placed
  placed_cases P e x xs before same after = go (ltb x.0 e.0) refl (eqb x.0 e.0) refl
    where
      go : (s : Bool) → ltb x.0 e.0 ≡ s → (t : Bool) → eqb x.0 e.0 ≡ t
          → P (cond s (x ∷ placed sum e xs) (cond t ((x.0, sum x.1 e.1) ∷ xs) (e ∷ x ∷ xs)))
      go true p t q = before (ltb-true x.0 e.0 p)
      go false p true q = same (eqb-true x.0 e.0 q)
      go false p false q = after (omega (arith, ltb-false x.0 e.0 p, eqb-false x.0 e.0 q))

  -- the columns ascend
  pub placed_ascending : (i : ℕ) (e : ℕ × N) (l : List (ℕ × N)) → i ≤ e.0 → Ascending i l → Ascending i (placed sum e l)
  unfolding Ascending placed
  placed_ascending i e [] h a = (h, tt)
  placed_ascending i e (x ∷ xs) h a =
      placed_cases (Ascending i) e x xs (λ p. (a.0, placed_ascending (suc x.0) e xs p a.1)) (λ p. (a.0, a.1)) (λ p. (h, (p, a.1)))

  pub place_all_ascending : (es row : List (ℕ × N)) → Ascending 0 row → Ascending 0 (place_all sum es row)
  unfolding place_all
  place_all_ascending [] row a = a
  place_all_ascending (e ∷ es) row a = place_all_ascending es (placed sum e row) (placed_ascending 0 e row (omega arith) a)

  -- the columns of a row ascend strictly
  pub row_ascending : (es : List (ℕ × N)) → Ascending 0 (row_of sum es)
  unfolding row_of Ascending
  row_ascending es = place_all_ascending es [] tt

  -- every column stays below d
  pub placed_below : (d : ℕ) (e : ℕ × N) (l : List (ℕ × N)) → e.0 < d → Below d l → Below d (placed sum e l)
  unfolding Below placed
  placed_below d e [] h b = (h, tt)
  placed_below d e (x ∷ xs) h b =
      placed_cases (Below d) e x xs (λ p. (b.0, placed_below d e xs h b.1)) (λ p. (b.0, b.1)) (λ p. (h, (b.0, b.1)))

  pub place_all-below : (d : ℕ) (es row : List (ℕ × N)) → Below d es → Below d row → Below d (place_all sum es row)
  unfolding place_all Below
  place_all-below d [] row b r = r
  place_all-below d (e ∷ es) row b r = place_all-below d es (placed sum e row) b.1 (placed_below d e row b.0 r)

  pub row_below : (d : ℕ) (es : List (ℕ × N)) → Below d es → Below d (row_of sum es)
  unfolding row_of Below
  row_below d es b = place_all-below d es [] b tt

  -- ---- the columns are those of the contributions

  -- a contribution placed adds its column and no other
  pub placed-columns : (c : ℕ) (e : ℕ × N) (l : List (ℕ × N)) → has_column c (placed sum e l) ≡ (eqb c e.0 || has_column c l)
  unfolding has_column placed
  placed-columns c e [] = refl
  placed-columns c e (x ∷ xs) =
      placed_cases
      (λ l. has_column c l ≡ (eqb c e.0 || (eqb c x.0 || has_column c xs)))
      e
      x
      xs
      (λ p. ap (λ t. eqb c x.0 || t) (placed-columns c e xs) ∙ swap (eqb c x.0) (eqb c e.0) (has_column c xs))
      (λ p. twice (eqb c x.0) (has_column c xs) ∙ ap (λ k. eqb c k || (eqb c x.0 || has_column c xs)) p)
      (λ p. refl)
    where
      swap : (a b r : Bool) → (a || (b || r)) ≡ (b || (a || r))
      swap true true r = refl
      swap true false r = refl
      swap false b r = refl

      twice : (a r : Bool) → (a || r) ≡ (a || (a || r))
      twice true r = refl
      twice false r = refl

  pub place_all-columns : (c : ℕ) (es row : List (ℕ × N)) → has_column c (place_all sum es row) ≡ (has_column c row || has_column c es)
  unfolding has_column place_all
  place_all-columns c [] row = none (has_column c row)
    where
      none : (a : Bool) → a ≡ (a || false)
      none true = refl
      none false = refl
  place_all-columns c (e ∷ es) row =
      place_all-columns c es (placed sum e row)
      ∙ ap (λ t. t || has_column c es) (placed-columns c e row)
      ∙ swap (eqb c e.0) (has_column c row) (has_column c es)
    where
      swap : (a b r : Bool) → ((a || b) || r) ≡ (b || (a || r))
      swap true true r = refl
      swap true false r = refl
      swap false b r = refl

-- with zero sums or without
pub row_in_ascending : {C N : Type 0} (A : Numbers C N) (zeros : Bool) (es : List (ℕ × N)) → Ascending 0 (row_in A zeros es)
unfolding row_in kept_by
row_in_ascending A true es = row_ascending A.sum es
row_in_ascending A false es = nonzero_ascending 0 A.is_zero (row_of A.sum es) (row_ascending A.sum es)

module _ {N : Type 0} where
  -- every column of two lists is below d
  pub below_append : (d : ℕ) (xs ys : List (ℕ × N)) → Below d xs → Below d ys → Below d (xs ++ ys)
  unfolding Below
  below_append d [] ys a b = b
  below_append d (x ∷ xs) ys a b = (a.0, below_append d xs ys a.1 b)

  -- ---- a list that ascends is known by its numbers at each column

  numbers_here : (c : ℕ) (x : ℕ × N) (xs : List (ℕ × N)) → c ≡ x.0 → contributions_to c (x ∷ xs) ≡ x.1 ∷ contributions_to c xs
  unfolding contributions_to
  numbers_here c x xs e = ap (λ t. cond t (x.1 ∷ contributions_to c xs) (contributions_to c xs)) (eq-eqb c x.0 e)

  numbers_past : (c : ℕ) (x : ℕ × N) (xs : List (ℕ × N)) → (c ≡ x.0 → ⊥) → contributions_to c (x ∷ xs) ≡ contributions_to c xs
  unfolding contributions_to
  numbers_past c x xs d = ap (λ t. cond t (x.1 ∷ contributions_to c xs) (contributions_to c xs)) (ne_eqb c x.0 d)

  -- its first column is not before that of another with the same numbers
  not_before : (x : ℕ × N) (xs m : List (ℕ × N)) → contributions_to x.0 (x ∷ xs) ≡ contributions_to x.0 m → Ascending (suc x.0) m → ⊥
  not_before x xs m e a =
      let p : x.1 ∷ contributions_to x.0 xs ≡ [] = sym (numbers_here x.0 x xs refl) ∙ e ∙ none_before (suc x.0) x.0 m a (omega arith) in
      let z : ◌≡◌ {A = ℕ} 0 1 = cc in
      omega arith

  -- two lists that ascend and have the same numbers at each column are the same list
  pub same_numbers : (i : ℕ) (l m : List (ℕ × N)) → Ascending i l → Ascending i m → ((c : ℕ) → contributions_to c l ≡ contributions_to c m) → l ≡ m
  unfolding Ascending
  same_numbers i [] [] a b e = refl
  same_numbers i [] (y ∷ ys) a b e = absurd (not_before y ys [] (sym (e y.0)) tt)
  same_numbers i (x ∷ xs) [] a b e = absurd (not_before x xs [] (e x.0) tt)
  same_numbers i (x ∷ xs) (y ∷ ys) a b e =
      ap₂ ◌∷◌ (λ j. (column j, number j)) (same_numbers (suc x.0) xs ys a.1 rest_ascends (λ c. rest c (eqb c x.0) refl))
    where
      column : x.0 ≡ y.0
      column =
          let p : x.0 < y.0 → ⊥ = λ h. not_before x xs (y ∷ ys) (e x.0) (h, b.1) in
          let q : y.0 < x.0 → ⊥ = λ h. not_before y ys (x ∷ xs) (sym (e y.0)) (h, a.1) in
          omega arith

      rest_ascends : Ascending (suc x.0) ys
      rest_ascends = subst (λ k. Ascending (suc k) ys) (sym column) b.1

      number : x.1 ≡ y.1
      number =
          let p : x.1 ∷ contributions_to x.0 xs ≡ y.1 ∷ contributions_to x.0 ys
          = sym (numbers_here x.0 x xs refl) ∙ e x.0 ∙ numbers_here x.0 y ys column in
          cc

      rest : (c : ℕ) (t : Bool) → eqb c x.0 ≡ t → contributions_to c xs ≡ contributions_to c ys
      rest c true h =
          let p = eqb-true c x.0 h in
          none_before (suc x.0) c xs a.1 (omega arith) ∙ sym (none_before (suc x.0) c ys rest_ascends (omega arith))
      rest c false h =
          let d = eqb-false c x.0 h in
          sym (numbers_past c x xs d) ∙ e c ∙ numbers_past c y ys (λ q. d (q ∙ sym column))

-- ---- over whole numbers

-- contributions after contributions
pub sum_append : (c : ℕ) (xs ys : List (ℕ × G)) → sum_at c (xs ++ ys) ≡ sum_at c xs ⊕ sum_at c ys
unfolding sum_at
sum_append c [] ys = sym (𝟘_⊕ (sum_at c ys))
sum_append c (x ∷ xs) ys = ap (λ u. part_at c x ⊕ u) (sum_append c xs ys) ∙ sym (⊕_assoc (part_at c x) (sum_at c xs) (sum_at c ys))

-- a contribution placed adds its part
pub sum-placed : (c : ℕ) (e : ℕ × G) (l : List (ℕ × G)) → sum_at c (placed ◌⊕◌ e l) ≡ sum_at c l ⊕ part_at c e
unfolding sum_at placed
sum-placed c e [] = ⊕_𝟘 (part_at c e) ∙ sym (𝟘_⊕ (part_at c e))
sum-placed c e (x ∷ xs) =
    placed_cases
    ◌⊕◌
    (λ l. sum_at c l ≡ sum_at c (x ∷ xs) ⊕ part_at c e)
    e
    x
    xs
    (λ p. ap (λ u. part_at c x ⊕ u) (sum-placed c e xs) ∙ sym (⊕_assoc (part_at c x) (sum_at c xs) (part_at c e)))
    (λ p. joined (eqb c x.0) (sum_at c xs) ∙ ap (λ k. (part_at c x ⊕ sum_at c xs) ⊕ cond (eqb c k) e.1 𝟘) p)
    (λ p. swap (part_at c e) (part_at c x) (sum_at c xs))
  where
    swap : (a b r : G) → a ⊕ (b ⊕ r) ≡ (b ⊕ r) ⊕ a
    swap a b r = simp ring

    join : (a b r : G) → (a ⊕ b) ⊕ r ≡ (a ⊕ r) ⊕ b
    join a b r = simp ring

    joined : (t : Bool) (r : G) → cond t (x.1 ⊕ e.1) 𝟘 ⊕ r ≡ (cond t x.1 𝟘 ⊕ r) ⊕ cond t e.1 𝟘
    joined true r = join x.1 e.1 r
    joined false r = sym (⊕_𝟘 (𝟘 ⊕ r))

pub sum-place_all : (c : ℕ) (es row : List (ℕ × G)) → sum_at c (place_all ◌⊕◌ es row) ≡ sum_at c row ⊕ sum_at c es
unfolding sum_at place_all
sum-place_all c [] row = sym (⊕_𝟘 (sum_at c row))
sum-place_all c (e ∷ es) row =
    sum-place_all c es (placed ◌⊕◌ e row) ∙ ap (λ u. u ⊕ sum_at c es) (sum-placed c e row) ∙ ⊕_assoc (sum_at c row) (part_at c e) (sum_at c es)

-- leaving zeros out changes no sum
pub sum-nonzero : (c : ℕ) (l : List (ℕ × G)) → sum_at c (nonzero (λ x. eq_G x 𝟘) l) ≡ sum_at c l
unfolding sum_at nonzero
sum-nonzero c [] = refl
sum-nonzero c (x ∷ xs) = go (eq_G x.1 𝟘) refl (sum-nonzero c xs)
  where
    go : (t : Bool) → eq_G x.1 𝟘 ≡ t → sum_at c (nonzero (λ x. eq_G x 𝟘) xs) ≡ sum_at c xs
        → sum_at c (cond t (nonzero (λ x. eq_G x 𝟘) xs) (x ∷ nonzero (λ x. eq_G x 𝟘) xs)) ≡ part_at c x ⊕ sum_at c xs
    go true z r =
        r ∙ sym (𝟘_⊕ (sum_at c xs)) ∙ ap (λ u. u ⊕ sum_at c xs) (sym (either (eqb c x.0)))
      where
        either : (t : Bool) → cond t x.1 𝟘 ≡ 𝟘
        either true = eq_G_true x.1 𝟘 z
        either false = refl
    go false z r = ap (λ u. part_at c x ⊕ u) r

-- a column before all of them
pub sum-before : (i c : ℕ) (l : List (ℕ × G)) → Ascending i l → c < i → sum_at c l ≡ 𝟘
unfolding Ascending sum_at
sum-before i c [] a h = refl
sum-before i c (x ∷ xs) a h =
    let p = a.0 in
    ap₂ ◌⊕◌ (ap (λ t. cond t x.1 𝟘) (ne_eqb c x.0 (λ e. omega arith))) (sum-before (suc x.0) c xs a.1 (omega arith)) ∙ 𝟘_⊕ 𝟘

-- in a list that ascends the number at a column is the sum there
pub value_sum : (i c : ℕ) (l : List (ℕ × G)) → Ascending i l → value_at c l ≡ sum_at c l
unfolding Ascending sum_at value_at
value_sum i c [] a = refl
value_sum i c (x ∷ xs) a = go (eqb c x.0) refl (value_sum (suc x.0) c xs a.1)
  where
    go : (t : Bool) → eqb c x.0 ≡ t → value_at c xs ≡ sum_at c xs → cond t x.1 (value_at c xs) ≡ cond t x.1 𝟘 ⊕ sum_at c xs
    go true q r =
        let p = eqb-true c x.0 q in
        sym (⊕_𝟘 x.1) ∙ ap (λ u. x.1 ⊕ u) (sym (sum-before (suc x.0) c xs a.1 (omega arith)))
    go false q r = r ∙ sym (𝟘_⊕ (sum_at c xs))

-- the number at a column of a row is the sum of its contributions
pub value_place_all : (c : ℕ) (es row : List (ℕ × G)) → Ascending 0 row → value_at c (place_all ◌⊕◌ es row) ≡ value_at c row ⊕ sum_at c es
value_place_all c es row a =
    value_sum 0 c (place_all ◌⊕◌ es row) (place_all_ascending ◌⊕◌ es row a) ∙ sum-place_all c es row ∙ ap (λ u. u ⊕ sum_at c es) (sym (value_sum 0 c row a))

pub value_row : (c : ℕ) (es : List (ℕ × G)) → value_at c (row_of ◌⊕◌ es) ≡ sum_at c es
unfolding row_of sum_at
value_row c es = value_sum 0 c (row_of ◌⊕◌ es) (row_ascending ◌⊕◌ es) ∙ sum-place_all c es [] ∙ 𝟘_⊕ (sum_at c es)

-- leaving zeros out changes no number
pub value_nonzero : (i c : ℕ) (l : List (ℕ × G)) → Ascending i l → value_at c (nonzero (λ x. eq_G x 𝟘) l) ≡ value_at c l
value_nonzero i c l a =
    value_sum i c (nonzero (λ x. eq_G x 𝟘) l) (nonzero_ascending i (λ x. eq_G x 𝟘) l a) ∙ sum-nonzero c l ∙ sym (value_sum i c l a)

-- the number at a column of a row, with zero sums or without, and of an open system's row
pub row_in_value : (zeros : Bool) (c : ℕ) (es : List (ℕ × G)) → value_at c (row_in halves zeros es) ≡ sum_at c es
unfolding row_in kept_by
row_in_value true c es = value_row c es
row_in_value false c es = value_nonzero 0 c (row_of ◌⊕◌ es) (row_ascending ◌⊕◌ es) ∙ value_row c es

pub open_row_in_value : (c : ℕ) (es fs : List (ℕ × G)) → value_at c (open_row_in halves es fs) ≡ sum_at c es ⊕ sum_at c fs
unfolding open_row_in
open_row_in_value c es fs =
    value_place_all c (row_in halves true fs) (row_in halves false es) (row_in_ascending halves false es)
    ∙ ap₂ ◌⊕◌ (row_in_value false c es) (sym (value_sum 0 c (row_in halves true fs) (row_in_ascending halves true fs)) ∙ row_in_value true c fs)
