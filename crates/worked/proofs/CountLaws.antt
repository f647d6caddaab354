-- What a row call counts is at most the places of its first buffer.
-- Assumes nothing.
use Rattle.std.proofs.Common.{◌≡◌, refl, ℕ, ◌≤◌, Bool, true, false, ◌&&◌, cond, List, [], length, Result, Ok, Err}
use Prim.Native.Nat.{zero-le}
use lib.Dec.{leb}
use borrow.Author.Tests.{leb-true}
use Rattle.std.specs.Result.{result_unwrap_or}
use Rattle.refusal.specs.Refusals.{Said, gives, refuses}
use Rattle.refusal.specs.declared.Refusal.{Refusal}
use Rattle.letters.proofs.TestLaws.{and_left}
use Rattle.rows.specs.Buffers.{TwoParts, room_for, said_delivery}
use Rattle.rows.specs.Calls.{count_of, RowCallIn}

-- the count, 0 beside a refusal
abbrev pub counted : Said ℕ → ℕ
counted (gives n) = n
counted (refuses k s) = 0

count_fits : {N X : Type 0} (x : Said (List (ℕ × N))) (a : List ℕ) (b c : List X) → counted (count_of x a b c) ≤ length a
unfolding count_of
count_fits (gives l) a b c = go (room_for (length l) a b c) refl
  where
    go : (t : Bool) → room_for (length l) a b c ≡ t → counted (cond t (gives (length l)) (refuses 10 [])) ≤ length a
    go true e = leb-true (length l) (length a) (and_left (leb (length l) (length a)) (leb (length l) (length b) && leb (length l) (length c)) e)
    go false e = zero-le
count_fits (refuses k s) a b c = zero-le

is_counted : (r : Result ℕ Refusal) → result_unwrap_or r 0 ≡ counted (said_delivery r)
is_counted (Ok n) = refl
is_counted (Err why) = refl

pub call_fits : {N X : Type 0} {P : TwoParts N X} {x : Said (List (ℕ × N))} (r : Result ℕ Refusal) {a a' : List ℕ} {b b' c c' : List X} → RowCallIn P x (said_delivery r) a a' b b' c c' → result_unwrap_or r 0 ≤ length a
call_fits {N} {X} {P} {x} r {a} {a'} {b} {b'} {c} call = rw (is_counted r, call.answer) (count_fits x a b c)
