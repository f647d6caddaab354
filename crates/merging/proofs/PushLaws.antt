-- The record of a lettering with one letter more after its last place: on a site above those before it, this is a longer span;
-- and the span of a record does not matter from its last letter on.
-- Assumes nothing.
use mathlib.Core.Path.{◌≡◌, sym, ap, ◌∙◌}
use mathlib.Core.Logic.{⊎_elim}
use mathlib.Core.List.{[], ◌∷◌, ◌++◌, map, map-append}
use Prim.Native.Nat.{ℕ, suc, ◌+◌, ◌≤◌, ◌<◌}
use native.Mathlib.Numerals.{add-one}
use native.Mathlib.Decide.{dec_lt}
use native.Mathlib.Omega.{arith}
use lib.ListN.{length, set, length-append, length-map}
use Rattle.items.specs.Lists.{support, padded}
use Rattle.items.specs.Record.{capacity, highest_site, record_of}
use Rattle.items.specs.declared.Items.{Items}
use Rattle.items.proofs.ListLaws.{below_cases, support_in, length-support, pad_push}
use Rattle.items.proofs.Canonical.{record_span}

-- p with a letter after its last place
abbrev pub pushed : Items → ℕ → ℕ → Items
pushed p s l = record { count = p.count + 1; sites = set p.sites p.count s; letters = set p.letters p.count l }

-- a record of letters below a site has a place left
pub push_fits : (f : ℕ → ℕ) (b s : ℕ) → b ≤ s → s ≤ highest_site → (record_of f b).count < capacity
unfolding record_of
push_fits f b s l t = omega (arith, length-support f b)

-- the next site, occupied
push_next : (f : ℕ → ℕ) (s : ℕ) → s ≤ highest_site → 0 < f s → pushed (record_of f s) s (f s) ≡ record_of f (suc s)
unfolding record_of
push_next f s t h =
    let l = support f s in
    let fits = length-support f s in
    let e : l ++ (s ∷ []) ≡ support f (suc s) = sym (support_in f s h) ∙ ap (support f) (add-one s) in
    let m : map f l ++ (f s ∷ []) ≡ map f (support f (suc s)) = sym (map-append f l (s ∷ [])) ∙ ap (map f) e in
    let lm : length (map f l) ≡ length l = length-map l f in
    let c : length l + 1 ≡ length (support f (suc s)) = sym (length-append l (s ∷ [])) ∙ ap length e in
    let a : set (padded capacity l) (length l) s ≡ padded capacity (support f (suc s)) =
    pad_push capacity l s (omega arith) ∙ ap (padded capacity) e in
    let b : set (padded capacity (map f l)) (length l) (f s) ≡ padded capacity (map f (support f (suc s))) =
    ap (λ (n : ℕ). set (padded capacity (map f l)) n (f s)) (sym lm) ∙ pad_push capacity (map f l) (f s) (omega arith) ∙ ap (padded capacity) m in
    λ i. record { count = c i; sites = a i; letters = b i }

-- an occupied site more, after free ones
pub push_record : (f : ℕ → ℕ) (b s : ℕ) → b ≤ s → s ≤ highest_site → ((t : ℕ) → b ≤ t → t < s → f t ≡ 0) → 0 < f s
    → pushed (record_of f b) s (f s) ≡ record_of f (suc s)
push_record f b s l t z h = ap (λ (p : Items). pushed p s (f s)) (sym (record_span f b s l z)) ∙ push_next f s t h

-- a free site more, after free ones
pub skip_record : (f : ℕ → ℕ) (b s : ℕ) → b ≤ s → ((t : ℕ) → b ≤ t → t < s → f t ≡ 0) → f s ≡ 0 → record_of f b ≡ record_of f (suc s)
skip_record f b s l z e =
    sym (record_span f b (suc s) (omega arith) (λ t m n. ⊎_elim (λ q. ap f q ∙ e) (λ q. z t m q) (below_cases t s n)))

-- letters that are zero from a on, and from b on, have one record
pub record_any : (f : ℕ → ℕ) (a b : ℕ) → ((s : ℕ) → a ≤ s → f s ≡ 0) → ((s : ℕ) → b ≤ s → f s ≡ 0) → record_of f a ≡ record_of f b
record_any f a b h k =
    elim (dec_lt a b) [
      | yes l ↦ sym (record_span f a b (omega arith) (λ s m n. h s m))
      | no l ↦ record_span f b a (omega arith) (λ s m n. k s m)
    ]
