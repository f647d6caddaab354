-- The orders of products. Document 01, `cmp`.
use Rattle.std.specs.Prelude.{ℕ, zero, suc, List, [], ◌∷◌, ◌++◌, not, cond, ltb, take, Result}
use Rattle.std.specs.declared.cmp.Ordering.{Ordering}
use Rattle.std.specs.declared.cmp.Ordering.TheVariants.{Less, Equal, Greater}
use Rattle.refusal.specs.Refusals.{Said, gives, refuses, said_by}
use Rattle.refusal.specs.declared.Refusal.{Refusal}
use Rattle.letters.specs.declared.Kind.{Kind}
use Rattle.letters.specs.declared.Kind.TheVariants.{Pauli, Decoherence}
use Rattle.items.specs.Lists.{at}
use Rattle.items.specs.Record.{valid}
use Rattle.items.specs.declared.Items.{Items}

pub data Order : Type 0 where
  less : Order
  equal : Order
  greater : Order

-- how the second stands to the first
unfoldable pub opposite : Order → Order
opposite less = greater
opposite equal = equal
opposite greater = less

-- the first that is not `equal` decides
unfoldable pub and_then : Order → Order → Order
and_then less o = less
and_then equal o = o
and_then greater o = greater

unfoldable pub compare_numbers : ℕ → ℕ → Order
compare_numbers a b = cond (ltb a b) less (cond (ltb b a) greater equal)

-- the first place that differs decides; a list that ends first is less
unfoldable pub compare_lists : List ℕ → List ℕ → Order
compare_lists [] [] = equal
compare_lists [] (y ∷ ys) = less
compare_lists (x ∷ xs) [] = greater
compare_lists (x ∷ xs) (y ∷ ys) = and_then (compare_numbers x y) (compare_lists xs ys)

-- the sites and letters of the first n places, place by place
unfoldable pub pairs : List ℕ → List ℕ → ℕ → List ℕ
pairs sites letters zero = []
pairs sites letters (suc n) = pairs sites letters n ++ (at sites n ∷ at letters n ∷ [])

-- Pauli products: "by number of occupied sites, then by all sites, then by all letters";
-- decoherence products: "by number of sites, then pair by pair (site, letter)"
unfoldable pub key_of : Kind → Items → List ℕ
key_of Pauli p = take p.count p.sites ++ take p.count p.letters
key_of Decoherence p = pairs p.sites p.letters p.count

unfoldable pub compare_items : Kind → Items → Items → Order
compare_items kind p q = and_then (compare_numbers p.count q.count) (compare_lists (key_of kind p) (key_of kind q))

unfoldable pub compare_answer : Kind → Items → Items → Said Order
compare_answer kind p q =
    cond (not (valid p)) (refuses 0 [])
    (cond (not (valid q)) (refuses 0 [])
    (gives (compare_items kind p q)))

-- the order that a value of the code says
abbrev pub ordering : Ordering → Order
ordering Less = less
ordering Equal = equal
ordering Greater = greater

abbrev pub said_order : Result Ordering Refusal → Said Order
said_order r = said_by ordering r
