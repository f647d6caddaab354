-- What the code's `Ordering` says: of two numbers, of two lists, of one comparison after another, and of places one by one.
-- Assumes nothing.
use mathlib.Core.Path.{◌≡◌, refl, sym, ◌∙◌, ap, ap₂}
use mathlib.Core.List.{List, [], ◌∷◌}
use mathlib.Core.Bool.{true, false, not}
use Prim.Native.Nat.{ℕ, ◌+◌, ◌<◌}
use native.Mathlib.Omega.{arith}
use lib.Dec.{eqb}
use Rattle.std.proofs.lemmas.Grind.{common_steps}
use Rattle.std.specs.Ordering.{nat_cmp, ordering_then, ordering_index}
use Rattle.std.specs.Cmp.Lexicographic.{slice_cmp}
use Rattle.std.specs.declared.cmp.Ordering.{Ordering}
use Rattle.std.specs.declared.cmp.Ordering.TheVariants.{Less, Equal, Greater}
use Rattle.ordering.specs.Orders.{Order, equal, and_then, compare_numbers, compare_lists, ordering}
use Rattle.ordering.proofs.ComparisonLaws.{then_decided, numbers_equal_only, first_decided, decided_more, decided_here}

-- two numbers
pub ordering_numbers : (a b : ℕ) → ordering (nat_cmp a b) ≡ compare_numbers a b
unfolding compare_numbers
ordering_numbers a b = grind (arith, common_steps)

-- the first that isn't `Equal` decides
ordering_both : (o o' : Ordering) → ordering (ordering_then o o') ≡ and_then (ordering o) (ordering o')
unfolding and_then
ordering_both Less o' = refl
ordering_both Equal o' = refl
ordering_both Greater o' = refl

-- two lists
ordering_lists : (x y : List ℕ) → ordering (slice_cmp nat_cmp x y) ≡ compare_lists x y
unfolding compare_lists
ordering_lists [] [] = refl
ordering_lists [] (b ∷ y) = refl
ordering_lists (a ∷ x) [] = refl
ordering_lists (a ∷ x) (b ∷ y) =
    ordering_both (nat_cmp a b) (slice_cmp nat_cmp x y) ∙ ap₂ and_then (ordering_numbers a b) (ordering_lists x y)

-- a site, then a letter
pub ordering_place : {o o' r : Ordering} (s t l m : ℕ) → o ≡ nat_cmp s t → o' ≡ nat_cmp l m → r ≡ ordering_then o o' → ordering r ≡ and_then (compare_numbers s t) (compare_numbers l m)
ordering_place {o} {o'} s t l m a b e =
    ap ordering e ∙ ordering_both o o' ∙ ap₂ and_then (ap ordering a ∙ ordering_numbers s t) (ap ordering b ∙ ordering_numbers l m)

-- all sites, then all letters
pub ordering_columns : {o o' r : Ordering} (x y u v : List ℕ) → o ≡ slice_cmp nat_cmp x y → o' ≡ slice_cmp nat_cmp u v → r ≡ ordering_then o o' → ordering r ≡ and_then (compare_lists x y) (compare_lists u v)
ordering_columns {o} {o'} x y u v a b e =
    ap ordering e ∙ ordering_both o o' ∙ ap₂ and_then (ap ordering a ∙ ordering_lists x y) (ap ordering b ∙ ordering_lists u v)

-- ---- the test `!= Ordering::Equal`

abbrev pub Unequal : Ordering → Type 0
Unequal o = true ≡ not (eqb (ordering_index o) 1)

abbrev pub IsEqual : Ordering → Type 0
IsEqual o = false ≡ not (eqb (ordering_index o) 1)

unequal : (o : Ordering) → Unequal o → ordering o ≡ equal → ⊥
unequal Less h e = cc
unequal Equal h e = cc
unequal Greater h e = cc

equal_is : (o : Ordering) → IsEqual o → ordering o ≡ equal
equal_is Less h = cc
equal_is Equal h = refl
equal_is Greater h = cc

pub first_decides : (o : Ordering) (a b : Order) → ordering o ≡ a → Unequal o → ordering o ≡ and_then a b
first_decides o a b e h = e ∙ sym (then_decided a b (λ k. unequal o h (e ∙ k)))

pub equal_numbers : (o : Ordering) (a b : ℕ) → ordering o ≡ compare_numbers a b → IsEqual o → a ≡ b
equal_numbers o a b e h = numbers_equal_only a b (sym e ∙ equal_is o h)

-- ---- place by place

pub place_decides : (o : Ordering) (f : ℕ → Order) (i n : ℕ) → first_decided f i ≡ equal → i < n → ordering o ≡ f i → Unequal o → ordering o ≡ first_decided f n
place_decides o f i n e l p h = p ∙ sym (decided_here f i n e l (λ k. unequal o h (p ∙ k)))

pub place_passes : (o : Ordering) (f : ℕ → Order) (i : ℕ) → first_decided f i ≡ equal → ordering o ≡ f i → IsEqual o → first_decided f (i + 1) ≡ equal
place_passes o f i e p h = decided_more f i e (sym p ∙ equal_is o h)
