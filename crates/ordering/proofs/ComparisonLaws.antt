-- Laws of `and_then`, `compare_numbers` and `compare_lists`: each comparison is reflexive, antisymmetric and transitive, and only equals
-- compare as equal; and a comparison place by place, as a loop makes it.
-- Assumes nothing.
use mathlib.Core.Path.{◌≡◌, refl, sym, ◌∙◌, ap, ap₂}
use mathlib.Core.List.{List, [], ◌∷◌, ◌++◌}
use mathlib.Core.Bool.{Bool, true, false}
use mathlib.Core.Logic.{◌⊎◌, inl, inr, ⊎_elim}
use Prim.Native.Nat.{ℕ, zero, suc, ◌+◌, ◌<◌, ◌≤◌}
use native.Mathlib.Nat.{eq-or-lt_of_le}
use native.Mathlib.Numerals.{add-one}
use native.Mathlib.Omega.{arith}
use lib.Dec.{ltb}
use lib.ListN.{length, take, length-append}
use lib.Seq.{take-suc, length-take-le}
use borrow.Author.Tests.{lt-ltb, le-ltb, ltb-true, ltb-false}
use Rattle.items.specs.Lists.{at}
use Rattle.ordering.specs.Orders.{Order, less, equal, greater, opposite, and_then, compare_numbers, compare_lists, pairs}

impossible : {A : Type 0} → ◌≡◌ {A = ℕ} 0 1 → A
impossible z = absurd (omega arith)

-- ---- and_then

pub then_equal : (o : Order) → and_then o equal ≡ o
unfolding and_then
then_equal less = refl
then_equal equal = refl
then_equal greater = refl

pub then_assoc : (o o' o'' : Order) → and_then (and_then o o') o'' ≡ and_then o (and_then o' o'')
unfolding and_then
then_assoc less o' o'' = refl
then_assoc equal o' o'' = refl
then_assoc greater o' o'' = refl

pub then_opposite : (o o' : Order) → opposite (and_then o o') ≡ and_then (opposite o) (opposite o')
unfolding and_then opposite
then_opposite less o' = refl
then_opposite equal o' = refl
then_opposite greater o' = refl

-- an order that is not `equal` decides
pub then_decided : (o o' : Order) → (o ≡ equal → ⊥) → and_then o o' ≡ o
unfolding and_then
then_decided less o' h = refl
then_decided equal o' h = absurd (h refl)
then_decided greater o' h = refl

pub then_left : (o o' : Order) → and_then o o' ≡ equal → o ≡ equal
unfolding and_then
then_left less o' e = e
then_left equal o' e = refl
then_left greater o' e = e

pub then_right : (o o' : Order) → and_then o o' ≡ equal → o' ≡ equal
unfolding and_then
then_right less o' e = impossible (cc)
then_right equal o' e = e
then_right greater o' e = impossible (cc)

then_less : (o o' : Order) → and_then o o' ≡ less → (o ≡ less) ⊎ ((o ≡ equal) × (o' ≡ less))
unfolding and_then
then_less less o' e = inl refl
then_less equal o' e = inr (refl, e)
then_less greater o' e = impossible (cc)

-- ---- numbers

pub numbers_less : (a b : ℕ) → a < b → compare_numbers a b ≡ less
unfolding compare_numbers
numbers_less a b h = rw (lt-ltb a b h)

pub numbers_greater : (a b : ℕ) → b < a → compare_numbers a b ≡ greater
unfolding compare_numbers
numbers_greater a b h = let f : ltb a b ≡ false = le-ltb a b (omega arith) in rw (f, lt-ltb b a h)

pub numbers_equal : (a b : ℕ) → a ≡ b → compare_numbers a b ≡ equal
unfolding compare_numbers
numbers_equal a b h =
    let f : ltb a b ≡ false = le-ltb a b (omega arith) in
    let g : ltb b a ≡ false = le-ltb b a (omega arith) in
    rw (f, g)

numbers_cases : (a b : ℕ) → (a < b) ⊎ ((a ≡ b) ⊎ (b < a))
numbers_cases a b = go (ltb a b) refl
  where
    go : (t : Bool) → ltb a b ≡ t → (a < b) ⊎ ((a ≡ b) ⊎ (b < a))
    go true e = inl (ltb-true a b e)
    go false e = ⊎_elim (λ q. inr (inl (sym q))) (λ q. inr (inr q)) (eq-or-lt_of_le (ltb-false a b e))

pub numbers_antisymmetric : (a b : ℕ) → compare_numbers b a ≡ opposite (compare_numbers a b)
unfolding opposite
numbers_antisymmetric a b =
    ⊎_elim
    (λ h. rw (numbers_less a b h, numbers_greater b a h))
    (⊎_elim (λ h. rw (numbers_equal a b h, numbers_equal b a (sym h))) (λ h. rw (numbers_greater a b h, numbers_less b a h)))
    (numbers_cases a b)

pub numbers_less_only : (a b : ℕ) → compare_numbers a b ≡ less → a < b
numbers_less_only a b e =
    ⊎_elim (λ h. h)
    (⊎_elim (λ h. impossible (cc (numbers_equal a b h))) (λ h. impossible (cc (numbers_greater a b h))))
    (numbers_cases a b)

pub numbers_equal_only : (a b : ℕ) → compare_numbers a b ≡ equal → a ≡ b
numbers_equal_only a b e =
    ⊎_elim (λ h. impossible (cc (numbers_less a b h)))
    (⊎_elim (λ h. h) (λ h. impossible (cc (numbers_greater a b h))))
    (numbers_cases a b)

-- ---- lists

pub lists_reflexive : (x : List ℕ) → compare_lists x x ≡ equal
unfolding compare_lists and_then
lists_reflexive [] = refl
lists_reflexive (a ∷ x) = rw (numbers_equal a a refl) (lists_reflexive x)

pub lists_antisymmetric : (x y : List ℕ) → compare_lists y x ≡ opposite (compare_lists x y)
unfolding compare_lists opposite
lists_antisymmetric [] [] = refl
lists_antisymmetric [] (b ∷ y) = refl
lists_antisymmetric (a ∷ x) [] = refl
lists_antisymmetric (a ∷ x) (b ∷ y) =
    ap₂ and_then (numbers_antisymmetric a b) (lists_antisymmetric x y) ∙ sym (then_opposite (compare_numbers a b) (compare_lists x y))

-- a first number below decides; below or equal, the rest may
first_less : (a b : ℕ) (o : Order) → and_then (compare_numbers a b) o ≡ less → (a < b) ⊎ ((a ≡ b) × (o ≡ less))
first_less a b o e =
    ⊎_elim (λ h. inl (numbers_less_only a b h)) (λ h. inr (numbers_equal_only a b h.0, h.1)) (then_less (compare_numbers a b) o e)

less_first : (a b : ℕ) (o : Order) → a < b → and_then (compare_numbers a b) o ≡ less
unfolding and_then
less_first a b o h = rw (numbers_less a b h)

equal_first : (a b : ℕ) (o : Order) → a ≡ b → o ≡ less → and_then (compare_numbers a b) o ≡ less
unfolding and_then
equal_first a b o h e = rw (numbers_equal a b h) e

then_transitive : (a b c : ℕ) (o o' o'' : Order) → (o ≡ less → o' ≡ less → o'' ≡ less) → and_then (compare_numbers a b) o ≡ less → and_then (compare_numbers b c) o' ≡ less → and_then (compare_numbers a c) o'' ≡ less
then_transitive a b c o o' o'' t e e' =
    ⊎_elim
    (λ h. ⊎_elim (λ k. less_first a c o'' (omega arith)) (λ k. less_first a c o'' (omega (arith, k.0))) (first_less b c o' e'))
    (λ h. ⊎_elim (λ k. less_first a c o'' (omega (arith, h.0))) (λ k. equal_first a c o'' (h.0 ∙ k.0) (t h.1 k.1)) (first_less b c o' e'))
    (first_less a b o e)

pub lists_transitive : (x y z : List ℕ) → compare_lists x y ≡ less → compare_lists y z ≡ less → compare_lists x z ≡ less
unfolding compare_lists
lists_transitive [] [] z e e' = impossible (cc)
lists_transitive [] (b ∷ y) [] e e' = impossible (cc)
lists_transitive [] (b ∷ y) (c ∷ z) e e' = refl
lists_transitive (a ∷ x) [] z e e' = impossible (cc)
lists_transitive (a ∷ x) (b ∷ y) [] e e' = impossible (cc)
lists_transitive (a ∷ x) (b ∷ y) (c ∷ z) e e' =
    then_transitive a b c (compare_lists x y) (compare_lists y z) (compare_lists x z) (lists_transitive x y z) e e'

-- lists of one length, each followed by a list
pub lists_append : (x y u v : List ℕ) → length x ≡ length y → compare_lists (x ++ u) (y ++ v) ≡ and_then (compare_lists x y) (compare_lists u v)
unfolding compare_lists and_then
lists_append [] [] u v e = refl
lists_append [] (b ∷ y) u v e = absurd (omega arith)
lists_append (a ∷ x) [] u v e = absurd (omega arith)
lists_append (a ∷ x) (b ∷ y) u v e =
    ap (and_then (compare_numbers a b)) (lists_append x y u v (omega arith)) ∙ sym (then_assoc (compare_numbers a b) (compare_lists x y) (compare_lists u v))

-- ---- place by place

-- the first of n orders that is not `equal`
unfoldable pub first_decided : (ℕ → Order) → ℕ → Order
first_decided f zero = equal
first_decided f (suc n) = and_then (first_decided f n) (f n)

pub decided_none : (f : ℕ → Order) → first_decided f 0 ≡ equal
unfolding first_decided
decided_none f = refl

pub decided_more : (f : ℕ → Order) (i : ℕ) → first_decided f i ≡ equal → f i ≡ equal → first_decided f (i + 1) ≡ equal
unfolding first_decided and_then
decided_more f i e h = rw (add-one, e, h)

-- the place at which it is decided
pub decided_here : (f : ℕ → Order) (i n : ℕ) → first_decided f i ≡ equal → i < n → (f i ≡ equal → ⊥) → first_decided f n ≡ f i
unfolding first_decided and_then
decided_here f i zero e l h = absurd (omega arith)
decided_here f i (suc n) e l h =
    let m : i ≤ n = omega arith in
    ⊎_elim
    (λ q. ap (λ (o : Order). and_then o (f n)) (ap (first_decided f) (sym q) ∙ e) ∙ ap f (sym q))
    (λ q. ap (λ (o : Order). and_then o (f n)) (decided_here f i n e q h) ∙ then_decided (f i) (f n) h)
    (eq-or-lt_of_le m)

-- where all n are equal, so is each
pub decided_at : (f : ℕ → Order) (n : ℕ) → first_decided f n ≡ equal → (i : ℕ) → i < n → f i ≡ equal
unfolding first_decided
decided_at f zero e i l = absurd (omega arith)
decided_at f (suc n) e i l =
    let m : i ≤ n = omega arith in
    ⊎_elim
    (λ q. ap f q ∙ then_right (first_decided f n) (f n) e)
    (λ q. decided_at f n (then_left (first_decided f n) (f n) e) i q)
    (eq-or-lt_of_le m)

-- how two lists stand to each other at place i
abbrev pub at_place : List ℕ → List ℕ → ℕ → Order
at_place x y i = compare_numbers (at x i) (at y i)

-- how two records stand to each other at place i: by site, then by letter
abbrev pub pair_at : List ℕ → List ℕ → List ℕ → List ℕ → ℕ → Order
pair_at s l s' l' i = and_then (at_place s s' i) (at_place l l' i)

lists_one : (a b : ℕ) → compare_lists (a ∷ []) (b ∷ []) ≡ compare_numbers a b
unfolding compare_lists
lists_one a b = then_equal (compare_numbers a b)

lists_two : (a b c d : ℕ) → compare_lists (a ∷ b ∷ []) (c ∷ d ∷ []) ≡ and_then (compare_numbers a c) (compare_numbers b d)
unfolding compare_lists
lists_two a b c d = ap (and_then (compare_numbers a c)) (then_equal (compare_numbers b d))

take-zero : (x : List ℕ) → take 0 x ≡ []
take-zero [] = refl
take-zero (a ∷ x) = refl

-- the first n places of two lists that have them
pub takes_decided : (x y : List ℕ) (n : ℕ) → n ≤ length x → n ≤ length y → compare_lists (take n x) (take n y) ≡ first_decided (at_place x y) n
unfolding first_decided
takes_decided x y zero h k = ap₂ compare_lists (take-zero x) (take-zero y) ∙ lists_reflexive []
takes_decided x y (suc n) h k =
    let lx : length (take n x) ≡ n = length-take-le n x (omega arith) in
    let ly : length (take n y) ≡ n = length-take-le n y (omega arith) in
    ap₂ compare_lists (take-suc x n 0 h) (take-suc y n 0 k)
    ∙ lists_append (take n x) (take n y) (at x n ∷ []) (at y n ∷ []) (lx ∙ sym ly)
    ∙ ap₂ and_then (takes_decided x y n (omega arith) (omega arith)) (lists_one (at x n) (at y n))

length_pairs : (s l : List ℕ) (n : ℕ) → length (pairs s l n) ≡ n + n
unfolding pairs
length_pairs s l zero = refl
length_pairs s l (suc n) = omega (arith, length-append (pairs s l n) (at s n ∷ at l n ∷ []), length_pairs s l n)

-- the first n pairs of two records
pub pairs_decided : (s l s' l' : List ℕ) (n : ℕ) → compare_lists (pairs s l n) (pairs s' l' n) ≡ first_decided (pair_at s l s' l') n
unfolding first_decided pairs
pairs_decided s l s' l' zero = lists_reflexive []
pairs_decided s l s' l' (suc n) =
    lists_append (pairs s l n) (pairs s' l' n) (at s n ∷ at l n ∷ []) (at s' n ∷ at l' n ∷ []) (length_pairs s l n ∙ sym (length_pairs s' l' n))
    ∙ ap₂ and_then (pairs_decided s l s' l' n) (lists_two (at s n) (at l n) (at s' n) (at l' n))
