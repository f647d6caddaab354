-- Entries added up by their places, sorted or merged by column: rows. Assumes nothing.
use Prim.Native.Nat.{ℕ, zero, suc, ◌+◌, ◌≤◌, ◌<◌}
use native.Mathlib.Omega.{arith}
use mathlib.Core.Path.{◌≡◌, refl, sym, ap, ap₂, ◌∙◌}
use mathlib.Core.List.{List, [], ◌∷◌, ◌++◌, map, map-append}
use lib.ListN.{length, get_or, take, drop, length-map, length-append, length-take}
use lib.Seq.{take-suc, take_all, take_at, drop_at}
use Rattle.std.proofs.lemmas.List.{get_or_default, nil_from_length, take-map, drop-map, get_or-map}
use Rattle.sorted_lists.specs.Sorting.{All, sorted, merged, up_to, sorted_places, merged_places}
use Rattle.sorted_lists.proofs.RunLaws.{all_append, all_parts}
use Rattle.sorted_lists.proofs.SortLaws.{map-sorted, map-merged, all_sorted, all_merged}
use Rattle.sorted_lists.proofs.FirstPlaces.{sorted_first, merged_first}
use Rattle.master_equation.specs.Sums.{Ascending}
use Rattle.rows.specs.Buffers.{most_entries}
use Rattle.rows.specs.Placing.{row_of, place_all}
use Rattle.rows.specs.Pairs.{pair, pairs}
use Rattle.rows.specs.Neighbours.{neighbours_added}
use Rattle.rows.specs.declared.Entry.{Entry}
use Rattle.rows.proofs.NeighbourLaws.{entry_column, added-sorted, placed_row}
use Rattle.rows.proofs.SumLaws.{Reads}

-- a function that reads a list, at the first places
firsts : {B : Type 0} (g : ℕ → B) (l : List B) → ((p : ℕ) (d : B) → p < length l → g p ≡ get_or l p d) → (n : ℕ) → n ≤ length l → map g (up_to n) ≡ take n l
unfolding up_to
firsts g l reads zero h = refl
firsts g l reads (suc n) h =
    map-append g (up_to n) (n ∷ [])
    ∙ ap₂ (λ a b. a ++ b ∷ []) (firsts g l reads n (omega arith)) (reads n (g n) (omega arith))
    ∙ sym (take-suc l n (g n) (omega arith))

all_up_to : (n m : ℕ) → n ≤ m → All (λ p. p < m) (up_to n)
unfolding up_to
all_up_to zero m h = tt
all_up_to (suc n) m h = all_append (λ p. p < m) (up_to n) (n ∷ []) (all_up_to n m (omega arith)) (omega arith, tt)

module _ {V : Type 0} where
  -- columns are those of the entries, as far as these go
  abbrev pub Columns : List ℕ → List (Entry V) → Type 0
  Columns columns es = (i : ℕ) (d : Entry V) → i < length es → get_or columns i 0 ≡ (get_or es i d).column

  module _ (columns : List ℕ) (es : List (Entry V)) (same : Columns columns es) (d : Entry V) where
    -- an entry by its place, its column as the columns have it
    abbrev at_place : ℕ → ℕ × V
    at_place p = (get_or columns p 0, (get_or es p d).value)

    at_reads : Reads at_place es
    at_reads p e h = λ j. (same p e h j, (get_or_default es p d e h j).value)

    at_all : map at_place (up_to (length es)) ≡ pairs es
    at_all =
        let long = length-map es pair in
        firsts at_place (pairs es) (λ p e h. at_reads p d (omega (arith, long)) ∙ sym (get_or-map pair es p d e (omega (arith, long)))) (length es) (omega (arith, long))
        ∙ take_all (length es) (pairs es) (omega (arith, long))

    -- sorted and added up: their row
    sorted_some : (sum : V → V → V) → length es ≤ most_entries → {l : List (ℕ × V)}
        → ((f : ℕ → ℕ × V) → Reads f es → l ≡ neighbours_added sum (map f (take (length es) (sorted_places columns (length es))))) → l ≡ row_of sum (pairs es)
    sorted_some sum few says =
        says at_place at_reads
        ∙ ap (λ ps. neighbours_added sum (map at_place ps)) (sorted_first columns (length es) few)
        ∙ ap (neighbours_added sum) (map-sorted entry_column at_place (up_to (length es)) ∙ ap (sorted entry_column) at_all)
        ∙ added-sorted sum (pairs es)

    -- two rows, merged and added up: the second placed into the first
    merged_some : (sum : V → V → V) (a b : List (Entry V)) → es ≡ a ++ b → Ascending 0 (pairs a) → Ascending 0 (pairs b) → length es ≤ most_entries → {l : List (ℕ × V)}
        → ((f : ℕ → ℕ × V) → Reads f es → l ≡ neighbours_added sum (map f (take (length es) (merged_places columns (length a) (length b))))) → l ≡ place_all sum (pairs b) (pairs a)
    merged_some sum a b e ra rb few says =
        let long : length es ≡ length a + length b = ap length e ∙ length-append a b in
        let parts : map at_place (up_to (length a + length b)) ≡ pairs a ++ pairs b =
        ap (λ n. map at_place (up_to n)) (sym long) ∙ at_all ∙ ap pairs e ∙ map-append pair a b in
        let la = length-map a pair in
        let left : map at_place (take (length a) (up_to (length a + length b))) ≡ pairs a =
        sym (take-map at_place (length a) (up_to (length a + length b))) ∙ ap (take (length a)) parts ∙ take_at (pairs a) (pairs b) (length a) la in
        let right : map at_place (drop (length a) (up_to (length a + length b))) ≡ pairs b =
        sym (drop-map at_place (length a) (up_to (length a + length b))) ∙ ap (drop (length a)) parts ∙ drop_at (pairs a) (pairs b) (length a) la in
        says at_place at_reads
        ∙ ap (λ n. neighbours_added sum (map at_place (take n (merged_places columns (length a) (length b))))) long
        ∙ ap (λ ps. neighbours_added sum (map at_place ps)) (merged_first columns (length a) (length b) (omega (arith, few, long)))
        ∙ ap (neighbours_added sum)
        (map-merged entry_column at_place (take (length a) (up_to (length a + length b))) (drop (length a) (up_to (length a + length b))) ∙ ap₂ (merged entry_column) left right)
        ∙ sym (placed_row sum (pairs a) (pairs b) ra rb)

  -- none of no places
  none_added : (out : List (Entry V)) (ps : List ℕ) → length out ≤ length (take 0 ps) → pairs out ≡ []
  none_added out ps h = ap pairs (nil_from_length out (omega (arith, h)))

  module _ (sum : V → V → V) (columns : List ℕ) where
    pub sorted_row : (es out : List (Entry V)) → Columns columns es → length es ≤ most_entries → length out ≤ length (take (length es) (sorted_places columns (length es)))
        → ((f : ℕ → ℕ × V) → Reads f es → pairs out ≡ neighbours_added sum (map f (take (length es) (sorted_places columns (length es))))) → pairs out ≡ row_of sum (pairs es)
    unfolding row_of place_all
    sorted_row [] out same few short says = none_added out (sorted_places columns 0) short
    sorted_row (e ∷ es) out same few short says = sorted_some columns (e ∷ es) same e sum few says

    pub merged_row : (es a b out : List (Entry V)) → es ≡ a ++ b → Columns columns es → Ascending 0 (pairs a) → Ascending 0 (pairs b) → length es ≤ most_entries
        → length out ≤ length (take (length es) (merged_places columns (length a) (length b)))
        → ((f : ℕ → ℕ × V) → Reads f es → pairs out ≡ neighbours_added sum (map f (take (length es) (merged_places columns (length a) (length b))))) → pairs out ≡ place_all sum (pairs b) (pairs a)
    unfolding place_all
    merged_row [] [] [] out e same ra rb few short says = none_added out (merged_places columns 0 0) short
    merged_row [] (x ∷ a) b out e same ra rb few short says = absurd (omega (arith, ap length e))
    merged_row [] [] (x ∷ b) out e same ra rb few short says = absurd (omega (arith, ap length e))
    merged_row (x ∷ es) a b out e same ra rb few short says = merged_some columns (x ∷ es) same x sum a b e ra rb few says

-- ---- what is asked of the places

pub taken_few : (n : ℕ) (ps : List ℕ) → n ≤ most_entries → length (take n ps) ≤ most_entries
taken_few n ps h = let long = length-take n ps in omega arith

pub sorted_below : (columns : List ℕ) (n : ℕ) → n ≤ most_entries → All (λ p. p < n) (take n (sorted_places columns n))
sorted_below columns n h =
    rw (sorted_first columns n h) (all_sorted (λ p. get_or columns p 0) (λ p. p < n) (up_to n) (all_up_to n n (omega arith)))

pub merged_below : (columns : List ℕ) (n m : ℕ) → n + m ≤ most_entries → All (λ p. p < n + m) (take (n + m) (merged_places columns n m))
merged_below columns n m h =
    let parts = all_parts (λ p. p < n + m) n (up_to (n + m)) (all_up_to (n + m) (n + m) (omega arith)) in
    rw (merged_first columns n m h) (all_merged (λ p. get_or columns p 0) (λ p. p < n + m) (take n (up_to (n + m))) (drop n (up_to (n + m))) parts.0 parts.1)
