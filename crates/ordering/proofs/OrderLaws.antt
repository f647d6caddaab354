-- The order of each kind is a total order of the valid records.
-- It rests on the laws of comparisons: records are compared as the lists of their count and key.
-- Assumes nothing.
use mathlib.Core.Path.{◌≡◌, refl, sym, ◌∙◌, ap}
use mathlib.Core.List.{List, ◌∷◌}
use mathlib.Core.Bool.{true}
use mathlib.Core.Logic.{◌⊎◌, inl, inr, ⊎_elim}
use Prim.Native.Nat.{ℕ, ◌≤◌, ◌<◌}
use native.Mathlib.Omega.{arith}
use lib.ListN.{length, take}
use lib.Seq.{length-take-le}
use Rattle.letters.specs.declared.Kind.{Kind}
use Rattle.letters.specs.declared.Kind.TheVariants.{Pauli, Decoherence}
use Rattle.items.specs.Lists.{at}
use Rattle.items.specs.Record.{valid}
use Rattle.ordering.specs.Orders.{Order, less, equal, greater, opposite, and_then, compare_numbers, compare_lists, pairs, key_of, compare_items}
use Rattle.items.specs.declared.Items.{Items}
use Rattle.ordering.proofs.ComparisonLaws.{then_left, then_right, numbers_equal, numbers_equal_only, lists_reflexive, lists_antisymmetric, lists_transitive, lists_append, first_decided, decided_at, at_place, pair_at, takes_decided, pairs_decided}
use Rattle.items.proofs.RecordLaws.{valid_shape}
use Rattle.ordering.proofs.SamePlaces.{valid_same}

-- ---- keys of records of one count

-- sites before letters
pub pauli-keys : (p q : Items) → p.count ≡ q.count → p.count ≤ length p.sites → p.count ≤ length q.sites
    → compare_lists (key_of Pauli p) (key_of Pauli q)
    ≡ and_then (compare_lists (take p.count p.sites) (take p.count q.sites)) (compare_lists (take p.count p.letters) (take p.count q.letters))
unfolding key_of
pauli-keys p q e a b =
    let n = p.count in
    rw (sym e)
    (lists_append (take n p.sites) (take n q.sites) (take n p.letters) (take n q.letters) (length-take-le n p.sites a ∙ sym (length-take-le n q.sites b)))

-- pair by pair
pub decoherence-keys : (p q : Items) → p.count ≡ q.count → compare_lists (key_of Decoherence p) (key_of Decoherence q) ≡ compare_lists (pairs p.sites p.letters p.count) (pairs q.sites q.letters p.count)
unfolding key_of
decoherence-keys p q e = rw (sym e)

-- records of one count are compared by their keys
items_by_keys : (kind : Kind) (p q : Items) → p.count ≡ q.count → compare_items kind p q ≡ compare_lists (key_of kind p) (key_of kind q)
unfolding compare_items and_then
items_by_keys kind p q e = rw (numbers_equal p.count q.count e)

pub pauli_items : (kind : Kind) (p q : Items) (x : Order) → kind ≡ Pauli → p.count ≡ q.count → p.count ≤ length p.sites → p.count ≤ length q.sites
    → x ≡ and_then (compare_lists (take p.count p.sites) (take p.count q.sites)) (compare_lists (take p.count p.letters) (take p.count q.letters))
    → x ≡ compare_items kind p q
pauli_items kind p q x k e a b h = h ∙ sym (items_by_keys kind p q e ∙ ap (λ (y : Kind). compare_lists (key_of y p) (key_of y q)) k ∙ pauli-keys p q e a b)

pub decoherence_items : (kind : Kind) (p q : Items) (x : Order) → kind ≡ Decoherence → p.count ≡ q.count → x ≡ compare_lists (pairs p.sites p.letters p.count) (pairs q.sites q.letters p.count) → x ≡ compare_items kind p q
decoherence_items kind p q x k e h = h ∙ sym (items_by_keys kind p q e ∙ ap (λ (y : Kind). compare_lists (key_of y p) (key_of y q)) k ∙ decoherence-keys p q e)

-- ---- the order of a kind

-- the count and the key in one list
abbrev whole_key : Kind → Items → List ℕ
whole_key kind p = p.count ∷ key_of kind p

by_lists : (kind : Kind) (p q : Items) → compare_items kind p q ≡ compare_lists (whole_key kind p) (whole_key kind q)
unfolding compare_items compare_lists
by_lists kind p q = refl

pub compare_refl : (kind : Kind) (p : Items) → compare_items kind p p ≡ equal
compare_refl kind p = by_lists kind p p ∙ lists_reflexive (whole_key kind p)

pub compare_antisymmetric : (kind : Kind) (p q : Items) → compare_items kind q p ≡ opposite (compare_items kind p q)
compare_antisymmetric kind p q = by_lists kind q p ∙ lists_antisymmetric (whole_key kind p) (whole_key kind q) ∙ ap opposite (sym (by_lists kind p q))

pub compare_transitive : (kind : Kind) (p q r : Items) → compare_items kind p q ≡ less → compare_items kind q r ≡ less → compare_items kind p r ≡ less
compare_transitive kind p q r e h =
    by_lists kind p r ∙ lists_transitive (whole_key kind p) (whole_key kind q) (whole_key kind r) (sym (by_lists kind p q) ∙ e) (sym (by_lists kind q r) ∙ h)

-- what two records with equal keys share
record Alike (p q : Items) : Type 0 where
  sites : (i : ℕ) → i < p.count → at p.sites i ≡ at q.sites i
  letters : (i : ℕ) → i < p.count → at p.letters i ≡ at q.letters i

keys-alike : (kind : Kind) (p q : Items) → valid p ≡ true → valid q ≡ true → p.count ≡ q.count → compare_lists (key_of kind p) (key_of kind q) ≡ equal → Alike p q
keys-alike Pauli p q v w e h =
    let a = valid_shape p v in
    let b = valid_shape q w in
    let n = p.count in
    let k = sym (pauli-keys p q e (omega arith) (omega arith)) ∙ h in
    let s = sym (takes_decided p.sites q.sites n (omega arith) (omega arith)) ∙ then_left _ _ k in
    let t = sym (takes_decided p.letters q.letters n (omega arith) (omega arith)) ∙ then_right _ _ k in
    record {
      sites = λ i l. numbers_equal_only _ _ (decided_at (at_place p.sites q.sites) n s i l);
      letters = λ i l. numbers_equal_only _ _ (decided_at (at_place p.letters q.letters) n t i l);
    }
keys-alike Decoherence p q v w e h =
    let n = p.count in
    let f : ℕ → Order = pair_at p.sites p.letters q.sites q.letters in
    let k : first_decided f n ≡ equal = sym (pairs_decided p.sites p.letters q.sites q.letters n) ∙ sym (decoherence-keys p q e) ∙ h in
    record {
      sites = λ i l. numbers_equal_only (at p.sites i) (at q.sites i) (then_left (at_place p.sites q.sites i) (at_place p.letters q.letters i) (decided_at f n k i l));
      letters = λ i l. numbers_equal_only (at p.letters i) (at q.letters i) (then_right (at_place p.sites q.sites i) (at_place p.letters q.letters i) (decided_at f n k i l));
    }

pub compare_equal : (kind : Kind) (p q : Items) → valid p ≡ true → valid q ≡ true → compare_items kind p q ≡ equal → p ≡ q
unfolding compare_items
compare_equal kind p q v w h =
    let c = numbers_equal_only p.count q.count (then_left (compare_numbers p.count q.count) (compare_lists (key_of kind p) (key_of kind q)) h) in
    let a = keys-alike kind p q v w c (then_right (compare_numbers p.count q.count) (compare_lists (key_of kind p) (key_of kind q)) h) in
    valid_same p q v w c a.sites a.letters

order_cases : (o : Order) → (o ≡ less) ⊎ ((o ≡ equal) ⊎ (o ≡ greater))
order_cases less = inl refl
order_cases equal = inr (inl refl)
order_cases greater = inr (inr refl)

-- of two valid records the first is less, they are equal, or the second is less
pub compare_total : (kind : Kind) (p q : Items) → valid p ≡ true → valid q ≡ true → (compare_items kind p q ≡ less) ⊎ ((p ≡ q) ⊎ (compare_items kind q p ≡ less))
unfolding opposite
compare_total kind p q v w =
    ⊎_elim inl
    (⊎_elim (λ e. inr (inl (compare_equal kind p q v w e))) (λ e. inr (inr (compare_antisymmetric kind p q ∙ ap opposite e))))
    (order_cases (compare_items kind p q))
