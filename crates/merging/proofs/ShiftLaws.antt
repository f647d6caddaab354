-- Arrays in which a place is made or closed: a part of the array is turned round by one, and the place at its end is written.
-- Assumes nothing.
use Rattle.std.proofs.Common.{◌≡◌, ℕ, suc, ◌+◌, ◌-◌, ◌≤◌, ◌<◌, List, length, ap, sym, ◌∙◌, arith, rules}
use Rattle.std.proofs.Math.ListN.{set, length-set}
use Rattle.std.proofs.lemmas.List.{places, get_or-set_same, get_or-set_other}
use Rattle.std.specs.List.{RotatedLeft, RotatedRight}
use borrow.Rule.Slice.PartMut.{put_mid, mid_of}
use native.Mathlib.Decide.{ℕ_discrete, dec_lt}
use Rattle.items.specs.Lists.{at}
use Rattle.items.specs.Record.{capacity}

-- l has the capacity's length, with zeros from a place on
pub record Ends (l : List ℕ) (count : ℕ) : Type 0 where
  pub long : length l ≡ capacity
  pub zeros : (k : ℕ) → count ≤ k → k < capacity → at l k ≡ 0

-- ---- a part written anew

part_whole : (a k : ℕ) (xs : List ℕ) → a + k ≤ length xs → length (mid_of a k xs) ≡ k
part_whole a k xs fits = search (rules, places)

module _ (a k : ℕ) (xs ys : List ℕ) (fits : a + k ≤ length xs) (same : length ys ≡ k) where
  part_long : length (put_mid a k xs ys) ≡ length xs
  part_long = search (rules, places)

  -- the elements before it, in it and past it
  part_low : (j : ℕ) → j < a → at (put_mid a k xs ys) j ≡ at xs j
  part_low j l = search (rules, places)

  part_in : (j : ℕ) → j < k → at (put_mid a k xs ys) (a + j) ≡ at ys j
  part_in j l = search (rules, places)

  part_past : (j : ℕ) → a + k ≤ j → at (put_mid a k xs ys) j ≡ at xs j
  part_past j l = search (rules, places)

  part_held : (j : ℕ) → j < k → at (mid_of a k xs) j ≡ at xs (a + j)
  part_held j l = search (rules, places)

-- ---- a place made

-- m is l with x put in at place n
pub record Opened (l : List ℕ) (n x : ℕ) (m : List ℕ) : Type 0 where
  pub long : length m ≡ capacity
  pub low : (k : ℕ) → k < n → at m k ≡ at l k
  pub here : at m n ≡ x
  pub high : (k : ℕ) → n ≤ k → suc k < capacity → at m (suc k) ≡ at l k

-- the element at a place past n
pub opened_high : {l m : List ℕ} {n x : ℕ} → Opened l n x m → (k : ℕ) → n < k → k < capacity → at m k ≡ at l (k - 1)
opened_high {l} {m} o k a b = let e : k ≡ suc (k - 1) = omega arith in ap (at m) e ∙ o.high (k - 1) (omega arith) (omega arith)

-- the part from n up to the count and one more, turned up by one, with x at n
pub turned_up : {l : List ℕ} {count : ℕ} (n x : ℕ) (ys : List ℕ) → Ends l count → n ≤ count → count < capacity → length ys ≡ length (mid_of n (count + 1 - n) l)
    → RotatedRight (mid_of n (count + 1 - n) l) ys (length (mid_of n (count + 1 - n) l)) 1 → Opened l n x (set (put_mid n (count + 1 - n) l ys) n x)
turned_up {l} {count} n x ys e a room same turned =
    let k = count + 1 - n in
    let m = put_mid n k l ys in
    let long = e.long in
    let whole : length (mid_of n k l) ≡ k = part_whole n k l (omega arith) in
    let fits : n + k ≤ length l = omega arith in
    let size : length ys ≡ k = same ∙ whole in
    record {
      long = length-set m n x ∙ part_long n k l ys fits size ∙ long;
      low = λ j b. get_or-set_other m n j x 0 (λ q. omega arith) ∙ part_low n k l ys fits size j b;
      here = get_or-set_same m n x 0 (omega (arith, part_long n k l ys fits size));
      high = λ j b c. get_or-set_other m n (suc j) x 0 (λ q. omega arith) ∙ elim (dec_lt j count) [
        | yes d ↦
            (let i : suc j ≡ n + (suc j - n) = omega arith in
            let i' : n + (suc j - n - 1) ≡ j = omega arith in
            ap (at m) i ∙ part_in n k l ys fits size (suc j - n) (omega arith) ∙ turned.1 (suc j - n) 0 (omega arith) (omega arith)
            ∙ part_held n k l ys fits size (suc j - n - 1) (omega arith) ∙ ap (at l) i')
        | no d ↦ part_past n k l ys fits size (suc j) (omega arith) ∙ e.zeros (suc j) (omega arith) c ∙ sym (e.zeros j (omega arith) (omega arith))
      ];
    }

-- ---- a place closed

-- m is l without place n, with zeros from the last place of l on
pub record Shut (l : List ℕ) (count n : ℕ) (m : List ℕ) : Type 0 where
  pub long : length m ≡ capacity
  pub low : (k : ℕ) → k < n → at m k ≡ at l k
  pub high : (k : ℕ) → n ≤ k → suc k < count → at m k ≡ at l (suc k)
  pub zeros : (k : ℕ) → count ≤ suc k → k < capacity → at m k ≡ 0

-- the part from n up to the count, turned down by one, with a zero at its end
pub turned_down : {l : List ℕ} {count : ℕ} (n : ℕ) (ys : List ℕ) → Ends l count → n < count → count ≤ capacity → length ys ≡ length (mid_of n (count - n) l)
    → RotatedLeft (mid_of n (count - n) l) ys (length (mid_of n (count - n) l)) 1 → Shut l count n (set (put_mid n (count - n) l ys) (count - 1) 0)
turned_down {l} {count} n ys e a fit same turned =
    let k = count - n in
    let m = put_mid n k l ys in
    let last = count - 1 in
    let long = e.long in
    let whole : length (mid_of n k l) ≡ k = part_whole n k l (omega arith) in
    let fits : n + k ≤ length l = omega arith in
    let size : length ys ≡ k = same ∙ whole in
    record {
      long = length-set m last 0 ∙ part_long n k l ys fits size ∙ long;
      low = λ j b. get_or-set_other m last j 0 0 (λ q. omega arith) ∙ part_low n k l ys fits size j b;
      high = λ j b c.
          (let i : j ≡ n + (j - n) = omega arith in
          let i' : n + (j - n + 1) ≡ suc j = omega arith in
          get_or-set_other m last j 0 0 (λ q. omega arith) ∙ ap (at m) i ∙ part_in n k l ys fits size (j - n) (omega arith)
          ∙ turned.0 (j - n) 0 (omega arith) ∙ part_held n k l ys fits size (j - n + 1) (omega arith) ∙ ap (at l) i');
      zeros = λ j b c. elim (ℕ_discrete j last) [
        | yes q ↦ ap (at (set m last 0)) q ∙ get_or-set_same m last 0 0 (omega (arith, part_long n k l ys fits size))
        | no q ↦ get_or-set_other m last j 0 0 q ∙ part_past n k l ys fits size j (omega arith) ∙ e.zeros j (omega arith) c
      ];
    }
