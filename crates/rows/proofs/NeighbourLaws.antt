-- Neighbours of one column added up, in a list sorted by column, make the row that `row_of` makes by placing; two rows merged by column and added up
-- are one placed into the other. Over any numbers and any sum. Assumes nothing.
use Prim.Native.Nat.{ℕ, suc, ◌≤◌, ◌<◌}
use native.Mathlib.Omega.{arith}
use mathlib.Core.Path.{◌≡◌, refl, sym, ap, ◌∙◌}
use mathlib.Core.List.{List, [], ◌∷◌, ◌++◌}
use borrow.Author.Tests.{lt-ltb, le-ltb, eq-eqb, ne_eqb}
use Rattle.rows.specs.Placing.{placed, place_all, row_of}
use Rattle.master_equation.specs.Sums.{Ascending}
use Rattle.sorted_lists.specs.Sorting.{Rising, inserted, sorted_onto, sorted, merged}
use Rattle.rows.specs.Neighbours.{added_from, neighbours_added}
use Rattle.rows.proofs.PlacingLaws.{ascending_from}
use Rattle.rows.proofs.OrderLaws.{row_append}
use Rattle.sorted_lists.proofs.SortLaws.{by_order, inserted_here, inserted_past, inserted_none, rising-inserted, sorted-rising, merged-sorted}

-- the column of an entry
abbrev pub entry_column : {N : Type 0} → ℕ × N → ℕ
entry_column e = e.0

-- strictly ascending is ascending
ascending_rising : {N : Type 0} (b : ℕ) (l : List (ℕ × N)) → Ascending b l → Rising entry_column b l
unfolding Ascending
ascending_rising b [] r = tt
ascending_rising b (x ∷ l) r = (r.0, ascending_rising x.0 l (ascending_from x.0 (suc x.0) l (omega arith) r.1))

module _ {N : Type 0} (sum : N → N → N) where
  -- ---- the clauses of the definitions

  placed_past : (e x : ℕ × N) (xs : List (ℕ × N)) → x.0 < e.0 → placed sum e (x ∷ xs) ≡ x ∷ placed sum e xs
  unfolding placed
  placed_past e x xs h = rw (lt-ltb x.0 e.0 h)

  placed_same : (e x : ℕ × N) (xs : List (ℕ × N)) → x.0 ≡ e.0 → placed sum e (x ∷ xs) ≡ (x.0, sum x.1 e.1) ∷ xs
  unfolding placed
  placed_same e x xs h = rw (le-ltb x.0 e.0 (omega arith), eq-eqb x.0 e.0 h)

  placed_here : (e x : ℕ × N) (xs : List (ℕ × N)) → e.0 < x.0 → placed sum e (x ∷ xs) ≡ e ∷ x ∷ xs
  unfolding placed
  placed_here e x xs h = rw (le-ltb x.0 e.0 (omega arith), ne_eqb x.0 e.0 (omega arith))

  placed_none : (e : ℕ × N) → placed sum e [] ≡ e ∷ []
  unfolding placed
  placed_none e = refl

  -- a neighbour of the same column is added
  pub added-same : (x y : ℕ × N) (ys : List (ℕ × N)) → y.0 ≡ x.0 → added_from sum x (y ∷ ys) ≡ added_from sum (x.0, sum x.1 y.1) ys
  unfolding added_from
  added-same x y ys h = rw (eq-eqb y.0 x.0 h)

  -- one of another column begins a new sum
  pub added_next : (x y : ℕ × N) (ys : List (ℕ × N)) → (y.0 ≡ x.0 → ⊥) → added_from sum x (y ∷ ys) ≡ x ∷ added_from sum y ys
  unfolding added_from
  added_next x y ys h = rw (ne_eqb y.0 x.0 h)

  -- the last sum
  pub added_last : (x : ℕ × N) → added_from sum x [] ≡ x ∷ []
  unfolding added_from
  added_last x = refl

  -- a case of two numbers: equal, or the first is less
  by_step : (m n : ℕ) {P : Type 0} → m ≤ n → (m ≡ n → P) → (m < n → P) → P
  by_step m n h f g = by_order m n g (λ k. f (omega arith))

  -- ---- placing before, and among, what is added up

  -- below the first: in front
  placed_first : (e x : ℕ × N) (l : List (ℕ × N)) → Rising entry_column x.0 l → e.0 < x.0 → placed sum e (added_from sum x l) ≡ e ∷ added_from sum x l
  placed_first e x [] r h = rw (added_last x, placed_here e x [] h)
  placed_first e x (y ∷ l) r h =
      let further = placed_first e (x.0, sum x.1 y.1) l in
      by_step x.0 y.0 r.0
      (λ q. let r' = rw (sym q) at r.1 in rw (added-same x y l (sym q)) (further r' h))
      (λ k. rw (added_next x y l (omega arith), placed_here e x (added_from sum y l) h))

  -- at or after the first: as if it were inserted before the adding
  placed_among : (e x : ℕ × N) (l : List (ℕ × N)) → Rising entry_column x.0 l → x.0 ≤ e.0 → placed sum e (added_from sum x l) ≡ added_from sum x (inserted entry_column e l)
  placed_among e x [] r h =
      by_step x.0 e.0 h
      (λ q. rw (added_last x, placed_same e x [] q, inserted_none entry_column e, added-same x e [] (sym q), added_last (x.0, sum x.1 e.1)))
      (λ k. rw (added_last x, placed_past e x [] k, placed_none e, inserted_none entry_column e, added_next x e [] (omega arith), added_last e))
  placed_among e x (y ∷ l) r h =
      let onto = placed_among e (x.0, sum x.1 y.1) l in
      let after = placed_among e y l in
      by_order e.0 y.0
      (λ ey. by_step x.0 e.0 h
      (λ q. rw (added_next x y l (omega arith), placed_same e x (added_from sum y l) q, inserted_here entry_column e y l ey, added-same x e (y ∷ l) (sym q), added_next (x.0, sum x.1 e.1) y l (omega arith)))
      (λ k. rw (added_next x y l (omega arith), placed_past e x (added_from sum y l) k, placed_first e y l r.1 ey, inserted_here entry_column e y l ey, added_next x e (y ∷ l) (omega arith), added_next e y l (omega arith))))
      (λ ye. by_step x.0 y.0 r.0
      (λ q. let r' = rw (sym q) at r.1 in rw (added-same x y l (sym q), inserted_past entry_column e y l ye, added-same x y (inserted entry_column e l) (sym q)) (onto r' h))
      (λ k. rw (added_next x y l (omega arith), placed_past e x (added_from sum y l) (omega arith), inserted_past entry_column e y l ye, added_next x y (inserted entry_column e l) (omega arith), after r.1 ye)))

  placed-added : (e : ℕ × N) (l : List (ℕ × N)) → Rising entry_column 0 l → placed sum e (neighbours_added sum l) ≡ neighbours_added sum (inserted entry_column e l)
  unfolding neighbours_added
  placed-added e [] r = rw (placed_none e, inserted_none entry_column e, added_last e)
  placed-added e (x ∷ l) r =
      by_order e.0 x.0
      (λ h. rw (placed_first e x l r.1 h, inserted_here entry_column e x l h, added_next e x l (omega arith)))
      (λ h. rw (placed_among e x l r.1 h, inserted_past entry_column e x l h))

  placed_onto : (es s : List (ℕ × N)) → Rising entry_column 0 s → place_all sum es (neighbours_added sum s) ≡ neighbours_added sum (sorted_onto entry_column es s)
  unfolding place_all sorted_onto
  placed_onto [] s r = refl
  placed_onto (e ∷ es) s r =
      ap (place_all sum es) (placed-added e s r) ∙ placed_onto es (inserted entry_column e s) (rising-inserted entry_column 0 e s (omega arith) r)

  -- the row of contributions is what their sorted list adds up to
  pub added-sorted : (l : List (ℕ × N)) → neighbours_added sum (sorted entry_column l) ≡ row_of sum l
  unfolding sorted neighbours_added row_of
  added-sorted l = sym (placed_onto l [] tt)

  -- ---- a strictly ascending list is its own row

  from_ascending : (x : ℕ × N) (l : List (ℕ × N)) → Ascending (suc x.0) l → added_from sum x l ≡ x ∷ l
  unfolding Ascending
  from_ascending x [] r = added_last x
  from_ascending x (y ∷ l) r =
      let k = r.0 in
      added_next x y l (omega arith) ∙ ap (λ (t : List (ℕ × N)). x ∷ t) (from_ascending y l r.1)

  added_ascending : (b : ℕ) (l : List (ℕ × N)) → Ascending b l → neighbours_added sum l ≡ l
  unfolding neighbours_added Ascending
  added_ascending b [] r = refl
  added_ascending b (x ∷ l) r = from_ascending x l r.1

  own_row : (l : List (ℕ × N)) → Ascending 0 l → row_of sum l ≡ l
  own_row l r = sym (added-sorted l) ∙ ap (neighbours_added sum) (sorted-rising entry_column 0 l (ascending_rising 0 l r)) ∙ added_ascending 0 l r

  -- the entries of a row placed into another: both merged and added up, the other's first
  pub placed_row : (a b : List (ℕ × N)) → Ascending 0 a → Ascending 0 b → place_all sum b a ≡ neighbours_added sum (merged entry_column a b)
  unfolding row_of
  placed_row a b ra rb =
      let ia : sorted entry_column a ≡ a = sorted-rising entry_column 0 a (ascending_rising 0 a ra) in
      let ib : sorted entry_column b ≡ b = sorted-rising entry_column 0 b (ascending_rising 0 b rb) in
      ap (place_all sum b) (sym (own_row a ra))
      ∙ sym (row_append sum a b)
      ∙ sym (added-sorted (a ++ b))
      ∙ ap (neighbours_added sum) (sym (merged-sorted entry_column a b))
      ∙ rw (ia, ib)
