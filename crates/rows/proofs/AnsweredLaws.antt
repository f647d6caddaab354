-- A row answered or refused, then delivered, as a row call; and what a row call says by its tests, in their order.
-- Assumes nothing.
use mathlib.Core.Path.{◌≡◌, refl, subst, ◌∙◌}
use mathlib.Core.Bool.{Bool, true, false, not, cond}
use mathlib.Core.List.{List, [], ◌∷◌}
use Prim.Native.Nat.{ℕ, ◌≤◌, ◌<◌}
use native.Mathlib.Omega.{arith}
use borrow.Author.Tests.{lt-ltb, le-ltb, le-leb, lt-leb}
use Rattle.std.specs.Prelude.{Result, Ok, Err}
use Rattle.std.specs.Result.{IsErrAnd}
use Rattle.refusal.specs.Refusals.{Said, gives, refuses, number, site_of}
use Rattle.refusal.specs.declared.Refusal.{Refusal}
use Rattle.row_entries.specs.Answers.{most_spins}
use Rattle.items.specs.declared.Items.{Items}
use Rattle.rows.specs.Buffers.{TwoParts, said_delivery}
use Rattle.rows.specs.Calls.{count_of, after, RowCallIn, outside, unless_outside, checked_row}

-- ---- what x says, refused or delivered

module _ {N X : Type 0} {P : TwoParts N X} {x : Said (List (ℕ × N))} {a : List ℕ} {b c : List X} where
  pub call_refused : {k : ℕ} {s : List ℕ} → refuses k s ≡ x → RowCallIn P x (refuses k s) a a b b c c
  unfolding count_of after
  call_refused {k} {s} e = subst (λ y. RowCallIn P y (refuses k s) a a b b c c) e (record { answer = refl; columns = refl; reals = refl; imaginaries = refl })

  -- by `?`
  pub call_passed_on : (r : Result ℕ Refusal) (why : Refusal) → refuses (number why) (site_of why) ≡ x → IsErrAnd r (λ w. w ≡ why) → RowCallIn P x (said_delivery r) a a b b c c
  call_passed_on (Ok n) why e h = absurd h
  call_passed_on (Err w) why e h = call_refused ((λ j. refuses (number (h j)) (site_of (h j))) ∙ e)

  pub call_given : {l : List (ℕ × N)} {r : Said ℕ} {a' : List ℕ} {b' c' : List X} → gives l ≡ x → RowCallIn P (gives l) r a a' b b' c c' → RowCallIn P x r a a' b b' c c'
  call_given {r = r} {a' = a'} {b' = b'} {c' = c'} e d = subst (λ y. RowCallIn P y r a a' b b' c c') e d

-- ---- number 0 comes first

module _ {A : Type 0} (good : Bool) (x : Said A) where
  pub says_malformed : good ≡ false → refuses 0 [] ≡ cond (not good) (refuses 0 []) x
  says_malformed e = rw e

  pub says_valid : {y : Said A} → good ≡ true → y ≡ x → y ≡ cond (not good) (refuses 0 []) x
  says_valid e f = rw e f

-- ---- then the tests of a row over n spins; `size` is the count of rows that the code finds

module _ {N : Type 0} (n rows r : ℕ) (ps : List Items) (l : List (ℕ × N)) where
  -- 7
  pub says_spins : most_spins < n → refuses 7 [] ≡ checked_row n rows r ps l
  unfolding checked_row
  says_spins h = rw (lt-ltb most_spins n h)

  module _ (h : n ≤ most_spins) {size : ℕ} (e : size ≡ rows) where
    -- 9
    pub says_range : size ≤ r → refuses 9 [] ≡ checked_row n rows r ps l
    unfolding checked_row
    says_range g = rw (le-ltb most_spins n h, le-leb rows r (omega arith))

    module _ (g : r < size) where
      -- 8
      pub says_outside : {site : ℕ} → site ∷ [] ≡ outside n ps → refuses 8 (site ∷ []) ≡ checked_row n rows r ps l
      unfolding checked_row unless_outside
      says_outside o = rw (le-ltb most_spins n h, lt-leb rows r (omega arith), ← o)

      -- the row
      pub says_row : [] ≡ outside n ps → {m : List (ℕ × N)} → m ≡ l → gives m ≡ checked_row n rows r ps l
      unfolding checked_row unless_outside
      says_row o f = rw (le-ltb most_spins n h, lt-leb rows r (omega arith), ← o, f)
