-- Contributions of terms added one term after the other, as a loop over the terms adds them.
-- Assumes nothing.
use Prim.Native.Nat.{ℕ, zero, suc, ◌+◌, ◌*◌, ◌≤◌, ◌<◌}
use native.Mathlib.Nat.{mul-zero}
use native.Mathlib.Omega.{arith}
use mathlib.Core.Path.{◌≡◌, sym, ap, ◌∙◌}
use mathlib.Core.List.{List, [], ◌∷◌, ◌++◌, append_assoc, append-nil}
use lib.ListN.{length, length-append, take, get_or}
use lib.Seq.{take_all}
use Rattle.std.proofs.Math.Nat.{mul-suc}
use Rattle.terms.specs.Keyed.{concat_map}
use Rattle.terms.proofs.KeyedLaws.{concat_map_nil, concat_map_cons, concat_map_more}
use Rattle.rows.specs.Buffers.{most_entries}
use Rattle.rows.specs.Room.{added_where_room}
use Rattle.rows.proofs.RoomLaws.{added_all}

module _ {T N : Type 0} (f : T → List (ℕ × N)) where
  -- the first terms have no more contributions than all of them
  turns_within : (l : List T) (i : ℕ) → length (concat_map f (take i l)) ≤ length (concat_map f l)
  turns_within l zero = omega (arith, ap length (concat_map_nil f))
  turns_within [] (suc i) = omega arith
  turns_within (t ∷ l) (suc i) =
      omega (
        arith,
        turns_within l i,
        ap length (concat_map_cons f t l),
        ap length (concat_map_cons f t (take i l)),
        length-append (f t) (concat_map f l),
        length-append (f t) (concat_map f (take i l)),
      )

  -- where there is room for those of all terms: after `first` come those of the terms before the place i of l
  pub record Turns (l : List T) (first all : List (ℕ × N)) (i : ℕ) : Type 0 where
    pub added : length first + length (concat_map f l) ≤ most_entries → all ≡ first ++ concat_map f (take i l)

  pub turns_none : {l : List T} {first all : List (ℕ × N)} → all ≡ first → Turns l first all 0
  turns_none {first = first} e = record { added = λ room. e ∙ sym (append-nil first) ∙ sym (ap (λ es. first ++ es) (concat_map_nil f)) }

  pub turns_more : {l : List T} {first all : List (ℕ × N)} {i : ℕ} → Turns l first all i → (d : T) → i < length l
      → {es all' : List (ℕ × N)} → all' ≡ added_where_room es all → es ≡ f (get_or l i d) → Turns l first all' (i + 1)
  turns_more {l} {first} {all} {i} t d h {es} p e =
      record {
        added = λ room.
            let more = concat_map_more f l i d h in
            let fits : length all + length es ≤ most_entries =
            omega (
              arith,
              room,
              turns_within l (i + 1),
              ap length (t.added room),
              ap length e,
              ap length more,
              length-append first (concat_map f (take i l)),
              length-append (concat_map f (take i l)) (f (get_or l i d)),
            ) in
            p
            ∙ added_all es all fits
            ∙ (λ j. t.added room j ++ e j)
            ∙ append_assoc first (concat_map f (take i l)) (f (get_or l i d))
            ∙ ap (λ es. first ++ es) (sym more);
      }

  pub turns_all : {l : List T} {first all : List (ℕ × N)} {i : ℕ} → Turns l first all i → length l ≤ i → length first + length (concat_map f l) ≤ most_entries
      → all ≡ first ++ concat_map f l
  turns_all {l} {first} {i = i} t h room = t.added room ∙ ap (λ m. first ++ concat_map f m) (take_all i l h)

  -- k contributions of each term
  module _ (k : ℕ) (each : (t : T) → length (f t) ≡ k) where
    pub length-turns : (l : List T) → length (concat_map f l) ≡ k * length l
    length-turns [] = ap length (concat_map_nil f) ∙ sym (mul-zero k)
    length-turns (t ∷ l) =
        ap length (concat_map_cons f t l) ∙ length-append (f t) (concat_map f l) ∙ (omega (arith, each t, length-turns l, mul-suc k (length l)))

    -- and room for all of them
    pub turns_row : {l : List T} {all : List (ℕ × N)} {i : ℕ} → Turns l [] all i → length l ≤ i → k * length l ≤ most_entries → all ≡ concat_map f l
    turns_row {l} t h room = turns_all t h (omega (arith, length-turns l))
