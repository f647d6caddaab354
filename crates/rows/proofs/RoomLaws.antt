-- Contributions after contributions, where there is room for all of them and where not. Assumes nothing.
use Prim.Native.Nat.{ℕ, suc, ◌+◌, ◌≤◌, ◌<◌}
use native.Mathlib.Omega.{arith}
use mathlib.Core.Path.{◌≡◌, ap, ◌∙◌}
use mathlib.Core.Bool.{Bool, true, false, cond}
use mathlib.Core.List.{List, [], ◌∷◌, ◌++◌, map-append}
use lib.Dec.{leb}
use lib.ListN.{length, length-map}
use borrow.Author.Tests.{le-leb, lt-leb}
use Rattle.refusal.specs.Refusals.{gives, refuses}
use Rattle.master_equation.specs.Numbers.{Numbers}
use Rattle.rows.specs.Buffers.{most_entries}
use Rattle.rows.specs.Calls.{unless_malformed}
use Rattle.rows.specs.Placing.{placed, place_all, row_of, nonzero, kept_by, row_in}
use Rattle.rows.specs.Pairs.{pairs}
use Rattle.rows.specs.Room.{added_where_room, done_where_room}
use Rattle.rows.specs.declared.Entry.{Entry}
use Rattle.rows.proofs.PlacingLaws.{placed_cases}

module _ {N : Type 0} where
  pub added_all : (es l : List (ℕ × N)) → length l + length es ≤ most_entries → added_where_room es l ≡ l ++ es
  unfolding added_where_room
  added_all es l h = rw (le-leb (length l + length es) most_entries h)

  added_none : (es l : List (ℕ × N)) → most_entries < length l + length es → added_where_room es l ≡ l
  unfolding added_where_room
  added_none es l h = rw (lt-leb (length l + length es) most_entries h)

  -- of arrays
  pub array_added : (xs zs l : List (Entry N)) → zs ≡ l ++ xs → length l + length xs ≤ most_entries → pairs zs ≡ added_where_room (pairs xs) (pairs l)
  array_added xs zs l e h =
      ap pairs e ∙ map-append (λ e. (e.column, e.value)) l xs ∙ rw (added_all (pairs xs) (pairs l) (rw (length-map, length-map) h))

  pub array_full : (xs l : List (Entry N)) → most_entries < length l + length xs → pairs l ≡ added_where_room (pairs xs) (pairs l)
  array_full xs l h = rw (added_none (pairs xs) (pairs l) (rw (length-map, length-map) h))

  -- and what is answered
  pub array_done : (xs l : List (Entry N)) → length l + length xs ≤ most_entries → gives tt ≡ done_where_room (pairs xs) (pairs l)
  unfolding done_where_room
  array_done xs l h = rw (le-leb (length (pairs l) + length (pairs xs)) most_entries (rw (length-map, length-map) h))

  pub array_refused : (xs l : List (Entry N)) → most_entries < length l + length xs → refuses 0 [] ≡ done_where_room (pairs xs) (pairs l)
  unfolding done_where_room
  array_refused xs l h = rw (lt-leb (length (pairs l) + length (pairs xs)) most_entries (rw (length-map, length-map) h))

-- ---- no more entries than contributions

module _ {N : Type 0} (sum : N → N → N) where
  length-placed : (e : ℕ × N) (row : List (ℕ × N)) → length (placed sum e row) ≤ length row + 1
  unfolding placed
  length-placed e [] = omega arith
  length-placed e (x ∷ xs) =
      placed_cases sum (λ l. length l ≤ suc (length xs) + 1) e x xs (λ p. let r = length-placed e xs in omega arith) (λ p. omega arith) (λ p. omega arith)

  length-place_all : (es row : List (ℕ × N)) → length (place_all sum es row) ≤ length row + length es
  unfolding place_all
  length-place_all [] row = omega arith
  length-place_all (e ∷ es) row = omega (arith, length-place_all es (placed sum e row), length-placed e row)

length-nonzero : {N : Type 0} (is_zero : N → Bool) (l : List (ℕ × N)) → length (nonzero is_zero l) ≤ length l
unfolding nonzero
length-nonzero is_zero [] = omega arith
length-nonzero is_zero (x ∷ xs) = go (is_zero x.1) (length-nonzero is_zero xs)
  where
    go : (b : Bool) → length (nonzero is_zero xs) ≤ length xs → length (cond b (nonzero is_zero xs) (x ∷ nonzero is_zero xs)) ≤ suc (length xs)
    go true h = omega arith
    go false h = omega arith

pub length-row_in : {C N : Type 0} (A : Numbers C N) (zeros : Bool) (es : List (ℕ × N)) → length (row_in A zeros es) ≤ length es
unfolding row_in row_of kept_by
length-row_in A true es = omega (arith, length-place_all A.sum es [])
length-row_in A false es = omega (arith, length-nonzero A.is_zero (place_all A.sum es []), length-place_all A.sum es [])

-- ---- what is said of a row where there is room for n contributions, and where not

module _ {N : Type 0} (n : ℕ) (row : List (ℕ × N)) where
  pub says_full : most_entries < n → refuses 0 [] ≡ unless_malformed (leb n most_entries) row
  unfolding unless_malformed
  says_full h = rw (lt-leb n most_entries h)

  pub says_room : {l : List (ℕ × N)} → n ≤ most_entries → l ≡ row → gives l ≡ unless_malformed (leb n most_entries) row
  unfolding unless_malformed
  says_room h e = rw (le-leb n most_entries h) (ap gives e)
