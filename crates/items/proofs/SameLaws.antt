-- Laws of `same_items` and of `same_list`: each record is the same as itself, records that are the same are equal, and so are pairs of
-- them; one place of a comparison, and what is left to compare; and `==` on records answers `same_items`.
-- Assumes nothing.
use mathlib.Core.Path.{◌≡◌, refl, ap, ap₂}
use mathlib.Core.List.{List, [], ◌∷◌}
use mathlib.Core.Bool.{Bool, true, false, ◌&&◌}
use Prim.Native.Nat.{ℕ, ◌+◌, ◌≤◌, ◌<◌}
use native.Mathlib.Numerals.{add-one}
use lib.Dec.{eqb}
use lib.ListN.{length, drop, drop_of_length-le}
use lib.Pointwise.{pointwise}
use lib.Seq.{drop-cons}
use borrow.Author.Tests.{eqb-true, eq-eqb, ne_eqb}
use Rattle.letters.proofs.TestLaws.{and_true, and_left, and_right}
use Rattle.items.specs.Lists.{at, same_list}
use Rattle.items.specs.Record.{same_items, same_key}
use Rattle.items.specs.declared.Items.{Items}
use Rattle.items.specs.contracts.ItemsPartialEq.TheImpl as derived

-- ---- two lists

-- a list is the same as itself
pub same_list_self : (l : List ℕ) → same_list l l ≡ true
unfolding same_list
same_list_self [] = refl
same_list_self (x ∷ xs) = and_true (eq-eqb x x refl) (same_list_self xs)

-- lists that are the same are equal
pub same_list-equal : (l m : List ℕ) → same_list l m ≡ true → l ≡ m
unfolding same_list
same_list-equal [] [] h = refl
same_list-equal [] (y ∷ ys) h = cc
same_list-equal (x ∷ xs) [] h = cc
same_list-equal (x ∷ xs) (y ∷ ys) h =
    let first : x ≡ y = eqb-true x y (and_left (eqb x y) (same_list xs ys) h) in
    let others : xs ≡ ys = same_list-equal xs ys (and_right (eqb x y) (same_list xs ys) h) in
    cc

-- one place of a comparison: its two elements, and what follows them
pub same_list_step : (l m : List ℕ) (i : ℕ) → i < length l → i < length m → same_list (drop i l) (drop i m) ≡ (eqb (at l i) (at m i) && same_list (drop (i + 1) l) (drop (i + 1) m))
unfolding same_list
same_list_step l m i a b = rw (add-one, drop-cons l i 0 a, drop-cons m i 0 b)

-- nothing is left past the end of both
pub same_list_past : (l m : List ℕ) (i : ℕ) → length l ≤ i → length m ≤ i → same_list (drop i l) (drop i m) ≡ true
unfolding same_list
same_list_past l m i a b = rw (drop_of_length-le l a, drop_of_length-le m b)

-- ---- two records

-- a record is the same as itself
pub same_self : (p : Items) → same_items p p ≡ true
unfolding same_items
same_self p = and_true (eq-eqb p.count p.count refl) (and_true (same_list_self p.sites) (same_list_self p.letters))

-- records that are the same are equal
pub same-equal : (p q : Items) → same_items p q ≡ true → p ≡ q
unfolding same_items
same-equal p q h =
    let counts = eqb p.count q.count in
    let sites = same_list p.sites q.sites in
    let letters = same_list p.letters q.letters in
    let arrays : (sites && letters) ≡ true = and_right counts (sites && letters) h in
    let count : p.count ≡ q.count = eqb-true p.count q.count (and_left counts (sites && letters) h) in
    let site : p.sites ≡ q.sites = same_list-equal p.sites q.sites (and_left sites letters arrays) in
    let letter : p.letters ≡ q.letters = same_list-equal p.letters q.letters (and_right sites letters arrays) in
    λ i. record { count = count i; sites = site i; letters = letter i }

-- and so are pairs of them
pub same_key_self : (k : Items × Items) → same_key k k ≡ true
same_key_self k = and_true (same_self k.0) (same_self k.1)

pub same_key-equal : (k m : Items × Items) → same_key k m ≡ true → k ≡ m
same_key-equal k m e =
    let left = same_items k.0 m.0 in
    let right = same_items k.1 m.1 in
    let p = same-equal k.0 m.0 (and_left left right e) in
    let q = same-equal k.1 m.1 (and_right left right e) in
    λ j. (p j, q j)

-- counts that differ
pub counts_differ : (p q : Items) → (p.count ≡ q.count → ⊥) → false ≡ same_items p q
unfolding same_items
counts_differ p q d = rw (ne_eqb p.count q.count d)

-- ---- what `==` answers

-- two arrays
pub list_eq : (l m : List ℕ) → pointwise eqb l m ≡ same_list l m
unfolding same_list
list_eq [] [] = refl
list_eq [] (y ∷ ys) = refl
list_eq (x ∷ xs) [] = refl
list_eq (x ∷ xs) (y ∷ ys) = ap (λ (b : Bool). eqb x y && b) (list_eq xs ys)

-- two records: what `p == q` answers is `same_items p q`
pub items_eq : (p q : Items) → (derived.ghosts).eq p q ≡ same_items p q
unfolding same_items
items_eq p q = ap (λ (b : Bool). eqb p.count q.count && b) (ap₂ ◌&&◌ (list_eq p.sites q.sites) (list_eq p.letters q.letters))
