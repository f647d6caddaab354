-- The row of a product: the number with one bit, the number after the last site, and the answer by the tests on the way.
-- Assumes nothing.
use mathlib.Core.Path.{◌≡◌, ap, ◌∙◌}
use mathlib.Core.Bool.{true, false}
use mathlib.Core.List.{[], ◌∷◌}
use Prim.Native.Nat.{ℕ, ◌-◌, ◌*◌, ◌%◌, ◌^◌, ◌≤◌, ◌<◌, min}
use native.Mathlib.Nat.{mod-eq_of_lt, one-mul, min-eq_left}
use native.Mathlib.Omega.{arith}
use lib.Pow.{pow-lt, pow_pos}
use borrow.Author.Tests.{lt-ltb, le-ltb, le-leb, lt-leb}
use Rattle.refusal.specs.Refusals.{gives, refuses}
use Rattle.letters.specs.Matrices.{Letters}
use Rattle.letters.specs.Rows.{column_of, row_power}
use Rattle.items.specs.Record.{valid, letter_at, reach}
use Rattle.row_entries.specs.Answers.{most_spins, row_answer}
use Rattle.items.specs.declared.Items.{Items}

-- the number with one bit
pub unit_is : (k : ℕ) → k < 64 → (1 * 2 ^ k) % 2 ^ 64 ≡ 2 ^ k
unit_is k h = rw (one-mul (2 ^ k)) (mod-eq_of_lt (pow-lt {i = k} {j = 64} (omega arith)))

-- what is said of n spins, where n is not above the most
pub few-spins : {A : Type 0} (f : ℕ → A) (n : ℕ) → n ≤ most_spins → {x : A} → x ≡ f (min n most_spins) → x ≡ f n
few-spins f n h e = e ∙ ap f (min-eq_left h)

-- the count of the rows
pub size_few : {size : ℕ} (n : ℕ) → n ≤ most_spins → size ≡ 2 ^ min n most_spins → size ≡ 2 ^ n
size_few n h e = few-spins (λ k. 2 ^ k) n h e

-- it is not 0
pub unit_positive : {place : ℕ} (k : ℕ) → place ≡ 2 ^ k → 0 < place
unit_positive k e = rw e (pow_pos k)

-- ---- the answer, by the tests on the way

module _ (M : Letters) (p : Items) (n r : ℕ) where
  pub row_malformed : valid p ≡ false → refuses 0 [] ≡ row_answer M p n r
  unfolding row_answer
  row_malformed v = rw v

  pub row-spins : valid p ≡ true → most_spins < n → refuses 7 [] ≡ row_answer M p n r
  unfolding row_answer
  row-spins v h = rw (v, lt-ltb most_spins n h)

  pub row_range : {u : ℕ} → valid p ≡ true → n ≤ most_spins → u ≡ 2 ^ n → u ≤ r → refuses 9 [] ≡ row_answer M p n r
  unfolding row_answer
  row_range v h e l = rw (v, le-ltb most_spins n h, le-leb (2 ^ n) r (omega arith))

  pub row-outside : {u q : ℕ} → valid p ≡ true → n ≤ most_spins → u ≡ 2 ^ n → r < u → q ≡ reach p → n < q → refuses 8 ((q - 1) ∷ []) ≡ row_answer M p n r
  unfolding row_answer
  row-outside v h e l f o = rw (v, le-ltb most_spins n h, lt-leb (2 ^ n) r (omega arith), f, lt-ltb n (reach p) (omega arith))

  pub row_inside : {u q : ℕ} → valid p ≡ true → n ≤ most_spins → u ≡ 2 ^ n → r < u → q ≡ reach p → q ≤ n → gives (column_of M n (letter_at p) r, row_power M n (letter_at p) r) ≡ row_answer M p n r
  unfolding row_answer
  row_inside v h e l f o = rw (v, le-ltb most_spins n h, lt-leb (2 ^ n) r (omega arith), le-ltb n (reach p) (omega arith))
