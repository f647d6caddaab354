-- A row laid into three lent buffers: a loop that writes one part of every entry, and what a call answers then.
-- Assumes nothing.
use Prim.Native.Nat.{ℕ, suc, ◌+◌, ◌≤◌, ◌<◌}
use native.Mathlib.Numerals.{add-one}
use native.Mathlib.Omega.{arith}
use mathlib.Core.Path.{◌≡◌, refl, sym, ap, ◌∙◌}
use mathlib.Core.Bool.{true, false, and-false}
use mathlib.Core.List.{List, [], ◌∷◌, ◌++◌, map, map-append}
use lib.ListN.{length, get_or, set, take, drop, length-map}
use lib.Seq.{drop-cons, set_at, append_snoc, take-suc, take_all, length-take-le}
use borrow.Author.Tests.{le-leb, lt-leb}
use Rattle.refusal.specs.Refusals.{gives, refuses}
use Rattle.rows.specs.Buffers.{TwoParts, room_for}
use Rattle.rows.specs.Calls.{count_of, after, RowCallIn}
use Rattle.rows.specs.Pairs.{pairs}
use Rattle.rows.specs.declared.Entry.{Entry}

-- ---- a part of every entry

-- the part of the first i elements, and what was there past them
abbrev laid_first : {A B : Type 0} → (A → B) → List A → List B → ℕ → List B
laid_first f xs d i = map f (take i xs) ++ drop i d

module _ {A B : Type 0} (f : A → B) (xs : List A) (d : List B) where
  laid_more : (out : List B) (i : ℕ) (x : A) → i < length xs → i < length d → x ≡ get_or xs i x → out ≡ laid_first f xs d i → set out i (f x) ≡ laid_first f xs d (i + 1)
  laid_more out i x h k e o =
      let front : length (map f (take i xs)) ≡ i = length-map (take i xs) f ∙ length-take-le i xs (omega arith) in
      ap (λ l. set l i (f x)) (o ∙ ap (λ r. map f (take i xs) ++ r) (drop-cons d i (f x) k))
      ∙ set_at (map f (take i xs)) (get_or d i (f x)) (drop (suc i) d) (f x) i front
      ∙ sym (append_snoc (map f (take i xs)) (f x) (drop (suc i) d))
      ∙ ap (λ l. l ++ drop (suc i) d) (ap (λ y. map f (take i xs) ++ f y ∷ []) e ∙ sym (map-append f (take i xs) (get_or xs i x ∷ [])) ∙ ap (map f) (sym (take-suc xs i x h)))
      ∙ ap (laid_first f xs d) (sym (add-one i))

  laid_all : (out : List B) (i : ℕ) → length xs ≤ i → i ≤ length xs → out ≡ laid_first f xs d i → out ≡ map f xs ++ drop (length xs) d
  laid_all out i h k o =
      let e : i ≡ length xs = omega arith in
      o ∙ ap (laid_first f xs d) e ∙ ap (λ l. map f l ++ drop (length xs) d) (take_all (length xs) xs (omega arith))

-- ---- the loop over the entries

pub record Laid {N X : Type 0} (P : TwoParts N X) (xs : List (Entry N)) (a a' : List ℕ) (b b' c c' : List X) (i : ℕ) : Type 0 where
  pub within : i ≤ length xs
  pub columns : a' ≡ laid_first (λ e. e.column) xs a i
  pub reals : b' ≡ laid_first (λ e. P.re e.value) xs b i
  pub imaginaries : c' ≡ laid_first (λ e. P.im e.value) xs c i

module _ {N X : Type 0} {P : TwoParts N X} {xs : List (Entry N)} {a : List ℕ} {b c : List X} where
  pub none_laid : Laid P xs a a b b c c 0
  none_laid =
      record {
        within = omega arith;
        columns = refl;
        reals = refl;
        imaginaries = refl;
      }

  pub next_laid : {a' : List ℕ} {b' c' : List X} {i : ℕ} (x : Entry N) {u v : X} → Laid P xs a a' b b' c c' i → i < length xs → length xs ≤ length a → length xs ≤ length b
      → length xs ≤ length c → x ≡ get_or xs i x → u ≡ P.re x.value → v ≡ P.im x.value → Laid P xs a (set a' i x.column) b (set b' i u) c (set c' i v) (i + 1)
  next_laid {a'} {b'} {c'} {i} x {u} {v} l h ha hb hc e p q =
      record {
        within = omega arith;
        columns = laid_more (λ e. e.column) xs a a' i x h (omega arith) e l.columns;
        reals = ap (set b' i) p ∙ laid_more (λ e. P.re e.value) xs b b' i x h (omega arith) e l.reals;
        imaginaries = ap (set c' i) q ∙ laid_more (λ e. P.im e.value) xs c c' i x h (omega arith) e l.imaginaries;
      }

-- ---- what a call answers

module _ {N X : Type 0} (P : TwoParts N X) (xs : List (Entry N)) (a : List ℕ) (b c : List X) where
  too_short : room_for (length (pairs xs)) a b c ≡ false → RowCallIn P (gives (pairs xs)) (refuses 10 []) a a b b c c
  unfolding count_of after
  too_short e = record { answer = rw e; columns = rw e; reals = rw e; imaginaries = rw e }

  -- a buffer that is too short, each of the three
  pub short_columns : length a < length xs → RowCallIn P (gives (pairs xs)) (refuses 10 []) a a b b c c
  short_columns h = too_short (rw (length-map, lt-leb (length xs) (length a) h))

  pub short_reals : length b < length xs → RowCallIn P (gives (pairs xs)) (refuses 10 []) a a b b c c
  short_reals h = too_short (rw (length-map, lt-leb (length xs) (length b) h, and-false))

  pub short_imaginaries : length c < length xs → RowCallIn P (gives (pairs xs)) (refuses 10 []) a a b b c c
  short_imaginaries h = too_short (rw (length-map, lt-leb (length xs) (length c) h, and-false, and-false))

  -- with room: every part laid
  pub all_laid : {a' : List ℕ} {b' c' : List X} {i : ℕ} → Laid P xs a a' b b' c c' i → length xs ≤ i → length xs ≤ length a → length xs ≤ length b → length xs ≤ length c
      → RowCallIn P (gives (pairs xs)) (gives (length xs)) a a' b b' c c'
  unfolding count_of after
  all_laid {a'} {b'} {c'} {i} l h ha hb hc =
      let q : length (pairs xs) ≡ length xs = length-map xs _ in
      let r : room_for (length (pairs xs)) a b c ≡ true = rw (q, le-leb (length xs) (length a) ha, le-leb (length xs) (length b) hb, le-leb (length xs) (length c) hc) in
      record {
        answer = rw (r, q);
        columns = rw (r, parts (λ e. e.0) xs, length-map) (laid_all (λ e. e.column) xs a a' i h l.within l.columns);
        reals = rw (r, parts (λ e. P.re e.1) xs, length-map) (laid_all (λ e. P.re e.value) xs b b' i h l.within l.reals);
        imaginaries = rw (r, parts (λ e. P.im e.1) xs, length-map) (laid_all (λ e. P.im e.value) xs c c' i h l.within l.imaginaries);
      }
    where
      parts : {B : Type 0} (f : ℕ × N → B) (ys : List (Entry N)) → map f (pairs ys) ≡ map (λ e. f (e.column, e.value)) ys
      parts f [] = refl
      parts f (y ∷ ys) = ap (λ l. f (y.column, y.value) ∷ l) (parts f ys)
