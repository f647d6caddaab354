-- The order in which a row places contributions: each number is the sum of its column's contributions from left to right, over any numbers, and
-- contributions after contributions are placed after them. Assumes nothing.
use mathlib.Core.Path.{◌≡◌, refl, sym, ◌∙◌, ap}
use mathlib.Core.Bool.{Bool, true, false, cond}
use mathlib.Core.List.{List, [], ◌∷◌, ◌++◌}
use Prim.Native.Nat.{ℕ, suc}
use native.Mathlib.Omega.{arith}
use borrow.Author.Tests.{eqb-true, eqb-false, eq-eqb, ne_eqb}
use lib.Dec.{eqb}
use Rattle.rows.specs.Placing.{placed, place_all, row_of}
use Rattle.master_equation.specs.Sums.{Ascending, contributions_to, ordered_sum, sum_if_any}
use Rattle.rows.proofs.PlacingLaws.{none_before, placed_cases, placed_ascending}

module _ {N : Type 0} (sum : N → N → N) where
  -- ---- the number at a column is the sum of its contributions from left to right

  -- one number more for the numbers of a column, which are one or none
  more : List N → N → List N
  more [] y = y ∷ []
  more (x ∷ xs) y = sum x y ∷ xs

  -- several numbers more, one after the other
  gathered : List N → List N → List N
  gathered l [] = l
  gathered l (y ∷ ys) = gathered (more l y) ys

  gathered_one : (x : N) (ys : List N) → gathered (x ∷ []) ys ≡ ordered_sum sum x ys ∷ []
  unfolding ordered_sum gathered more
  gathered_one x [] = refl
  gathered_one x (y ∷ ys) = gathered_one (sum x y) ys

  gathered_none : (ys : List N) → gathered [] ys ≡ sum_if_any sum ys
  unfolding sum_if_any gathered more
  gathered_none [] = refl
  gathered_none (y ∷ ys) = gathered_one y ys

  -- a contribution placed is one number more for its column
  placed_here : (i c : ℕ) (e : ℕ × N) (l : List (ℕ × N)) → c ≡ e.0 → Ascending i l → contributions_to c (placed sum e l) ≡ more (contributions_to c l) e.1
  unfolding contributions_to Ascending placed more
  placed_here i c e [] h a = ap (λ t. cond t (e.1 ∷ []) []) (eq-eqb c e.0 h)
  placed_here i c e (x ∷ xs) h a =
      placed_cases
      sum
      (λ l. contributions_to c l ≡ more (contributions_to c (x ∷ xs)) e.1)
      e
      x
      xs
      (λ p. let t : eqb c x.0 ≡ false = ne_eqb c x.0 (λ q. omega arith) in rw t (placed_here (suc x.0) c e xs h a.1))
      (λ p. let t : eqb c x.0 ≡ true = eq-eqb c x.0 (h ∙ sym p) in rw t)
      (λ p. let t : eqb c e.0 ≡ true = eq-eqb c e.0 h in rw (t, none_before x.0 c (x ∷ xs) (omega arith, a.1) (omega arith)))

  -- and changes no other column
  placed_elsewhere : (c : ℕ) (e : ℕ × N) (l : List (ℕ × N)) → (c ≡ e.0 → ⊥) → contributions_to c (placed sum e l) ≡ contributions_to c l
  unfolding contributions_to placed
  placed_elsewhere c e [] d = ap (λ t. cond t (e.1 ∷ []) []) (ne_eqb c e.0 d)
  placed_elsewhere c e (x ∷ xs) d =
      placed_cases
      sum
      (λ l. contributions_to c l ≡ contributions_to c (x ∷ xs))
      e
      x
      xs
      (λ p. ap (λ r. cond (eqb c x.0) (x.1 ∷ r) r) (placed_elsewhere c e xs d))
      (λ p. let t : eqb c x.0 ≡ false = ne_eqb c x.0 (λ q. d (q ∙ p)) in rw t)
      (λ p. let t : eqb c e.0 ≡ false = ne_eqb c e.0 d in rw t)

  place_all_numbers : (c : ℕ) (es row : List (ℕ × N)) → Ascending 0 row → contributions_to c (place_all sum es row) ≡ gathered (contributions_to c row) (contributions_to c es)
  unfolding contributions_to place_all gathered
  place_all_numbers c [] row a = refl
  place_all_numbers c (e ∷ es) row a =
      place_all_numbers c es (placed sum e row) (placed_ascending sum 0 e row (omega arith) a) ∙ go (eqb c e.0) refl
    where
      go : (b : Bool) → eqb c e.0 ≡ b
          → gathered (contributions_to c (placed sum e row)) (contributions_to c es)
          ≡ gathered (contributions_to c row) (cond b (e.1 ∷ contributions_to c es) (contributions_to c es))
      go true q = ap (λ l. gathered l (contributions_to c es)) (placed_here 0 c e row (eqb-true c e.0 q) a)
      go false q = ap (λ l. gathered l (contributions_to c es)) (placed_elsewhere c e row (eqb-false c e.0 q))

  -- a row has a number at column c exactly where there are contributions to it, and one only: their ordered sum
  pub row_numbers : (c : ℕ) (es : List (ℕ × N)) → contributions_to c (row_of sum es) ≡ sum_if_any sum (contributions_to c es)
  unfolding row_of Ascending contributions_to
  row_numbers c es = place_all_numbers c es [] tt ∙ gathered_none (contributions_to c es)

  -- ---- contributions after contributions are placed after them

  pub place_all_append : (xs ys row : List (ℕ × N)) → place_all sum (xs ++ ys) row ≡ place_all sum ys (place_all sum xs row)
  unfolding place_all
  place_all_append [] ys row = refl
  place_all_append (x ∷ xs) ys row = place_all_append xs ys (placed sum x row)

  pub row_append : (xs ys : List (ℕ × N)) → row_of sum (xs ++ ys) ≡ place_all sum ys (row_of sum xs)
  unfolding row_of
  row_append xs ys = place_all_append xs ys []
