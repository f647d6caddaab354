-- Targets of places: the first that is too high, the lowest that two places share, and one more than the highest.
-- Assumes nothing.
use mathlib.Core.Path.{◌≡◌, refl, sym, ap, ◌∙◌}
use mathlib.Core.Bool.{Bool, true, false, not, cond, ◌||◌, true≢false}
use mathlib.Core.List.{List, [], ◌∷◌}
use mathlib.Core.Logic.{⊎_elim, ◌⊎◌, inl, inr}
use Prim.Native.Nat.{ℕ, zero, suc, ◌+◌, ◌-◌, ◌≤◌, ◌<◌, min}
use native.Mathlib.Nat.{le_antisymm, not-suc-le-zero, eq-or-lt_of_le, le-max_left, le-max_right, max-le, min-eq_left, min-eq_right, min-le_right}
use native.Mathlib.Decide.{ℕ_discrete, dec_lt}
use native.Mathlib.Omega.{arith}
use lib.Dec.{ltb, eqb}
use lib.ListN.{length, take}
use borrow.Author.Tests.{le-ltb, ltb-false, eq-eqb, ne_eqb}
use Rattle.std.specs.Prelude.{Option, Some, None, MatchOption, nat_lt}
use Rattle.std.specs.List.{find}
use Rattle.std.proofs.Common.{add-zero}
use Rattle.letters.specs.Tests.{first_from}
use Rattle.letters.proofs.TestLaws.{every_intro, every_false, first_none, first_before}
use Rattle.items.specs.Lists.{at}
use Rattle.items.specs.Record.{highest_site}
use Rattle.remapping.specs.Insertion.{Ascending}
use Rattle.remapping.specs.Targets.{has_target, lowest_shared, target_reach, first_too_high}
use Rattle.items.proofs.ListLaws.{below_cases}

-- ---- the first target that is too high

-- tests that agree
pub first_ext : (p q : ℕ → Bool) (n i : ℕ) → ((k : ℕ) → i ≤ k → k < i + n → p k ≡ q k) → first_from p n i ≡ first_from q n i
unfolding first_from
first_ext p q zero i h = refl
first_ext p q (suc n) i h = rw (h i (omega arith) (omega arith), first_ext p q n (suc i) (λ k a b. h k (omega arith) (omega arith)))

-- targets that agree below n
pub too_high_ext : (t u : ℕ → ℕ) (n : ℕ) → ((i : ℕ) → i < n → t i ≡ u i) → first_too_high t n ≡ first_too_high u n
unfolding first_too_high
too_high_ext t u n h = first_ext (λ i. ltb highest_site (t i)) (λ i. ltb highest_site (u i)) n 0 (λ k a b. ap (ltb highest_site) (h k (omega arith)))

-- where a test passes first among the first n numbers of a list
abbrev Found : (ℕ → ℕ) → ℕ → ℕ → ℕ → Option ℕ → Type 0
Found f n i first r = MatchOption r (first ≡ i + n) (λ s. (j : ℕ) × (first ≡ i + j) × (j < n) × (s ≡ f j))

found_from : (test p : ℕ → Bool) (t : List ℕ) (n i : ℕ) → n ≤ length t → ((k : ℕ) → k < n → p (i + k) ≡ test (at t k))
    → Found (at t) n i (first_from p n i) (find test (take n t))
unfolding first_from
found_from test p t zero i h e = omega arith
found_from test p [] (suc n) i h e = absurd (omega arith)
found_from test p (x ∷ xs) (suc n) i h e =
    let first : p i ≡ test x = rw add-zero at (e 0 (omega arith)) in
    go (test x) first
    (found_from test p xs n (suc i) (omega arith) (λ k l. let z : suc i + k ≡ i + suc k = omega arith in ap p z ∙ e (suc k) (omega arith)))
  where
    later : (f : ℕ) (r : Option ℕ) → Found (at xs) n (suc i) f r → Found (at (x ∷ xs)) (suc n) i f r
    later f None e = omega arith
    later f (Some s) e = (suc e.0, omega (arith, e.1), omega (arith, e.2), e.3)

    go : (b : Bool) → p i ≡ b → Found (at xs) n (suc i) (first_from p n (suc i)) (find test (take n xs))
        → Found (at (x ∷ xs)) (suc n) i (cond (p i) i (first_from p n (suc i))) (cond b (Some x) (find test (take n xs)))
    go true q r = (0, rw q (omega arith), omega arith, refl)
    go false q r = rw q (later _ _ r)

-- none of the first n targets is too high, or s is the first that is
pub too_high_found : (t : List ℕ) (n : ℕ) → n ≤ length t → (r : Option ℕ) → r ≡ find (nat_lt highest_site) (take n t)
    → MatchOption r (n ≤ first_too_high (at t) n) (λ s. (first_too_high (at t) n < n) × (s ≡ at t (first_too_high (at t) n)))
unfolding first_too_high
too_high_found t n h r e = go _ r (rw (← e) at (found_from (nat_lt highest_site) (λ k. ltb highest_site (at t k)) t n 0 h same))
  where
    same : (k : ℕ) → k < n → ltb highest_site (at t (0 + k)) ≡ nat_lt highest_site (at t k)
    same k l = let z : 0 + k ≡ k = omega arith in ap (λ (m : ℕ). ltb highest_site (at t m)) z

    go : (f : ℕ) (r : Option ℕ) → Found (at t) n 0 f r → MatchOption r (n ≤ f) (λ s. (f < n) × (s ≡ at t f))
    go f None e = omega arith
    go f (Some s) e = let z : f ≡ e.0 = omega (arith, e.1) in rw z (e.2, e.3)

-- where all are low, and only there, no target is too high
pub none_too_high : (t : ℕ → ℕ) (n : ℕ) → ((i : ℕ) → i < n → t i ≤ highest_site) → n ≤ first_too_high t n
unfolding first_too_high
none_too_high t n h = omega (arith, first_none (λ k. ltb highest_site (t k)) n 0 (λ k a b. le-ltb highest_site (t k) (h k (omega arith))))

pub all_low : (t : ℕ → ℕ) (n : ℕ) → n ≤ first_too_high t n → (i : ℕ) → i < n → t i ≤ highest_site
unfolding first_too_high
all_low t n h i l = ltb-false highest_site (t i) (first_before (λ k. ltb highest_site (t k)) n 0 i (omega arith) (omega arith))

-- ---- the target of a place

-- a place below n that has the target u, or none
target_search : (t : ℕ → ℕ) (n u : ℕ) → ((i : ℕ) × (i < n) × (t i ≡ u)) ⊎ ((i : ℕ) → i < n → t i ≡ u → ⊥)
target_search t zero u = inr (λ i l e. not-suc-le-zero l)
target_search t (suc n) u =
    elim (ℕ_discrete (t n) u) [
      | yes e ↦ inl (n, omega arith, e)
      | no e ↦
          ⊎_elim
          (λ r. inl (r.0, omega (arith, r.1), r.2))
          (λ h. inr (λ i l q. ⊎_elim (λ x. e (ap t (sym x) ∙ q)) (λ x. h i x q) (below_cases i n l)))
          (target_search t n u)
    ]

-- one of the first n targets is u, or none is
pub target_there : (t : ℕ → ℕ) (n u i : ℕ) → i < n → t i ≡ u → has_target t n u ≡ true
unfolding has_target
target_there t n u i l e = ap not (every_false n (λ k. not (eqb (t k) u)) i l (ap not (eq-eqb (t i) u e)))

pub target_absent : (t : ℕ → ℕ) (n u : ℕ) → ((i : ℕ) → i < n → t i ≡ u → ⊥) → has_target t n u ≡ false
unfolding has_target
target_absent t n u h = ap not (every_intro n (λ k. not (eqb (t k) u)) (λ i l. ap not (ne_eqb (t i) u (h i l))))

-- a target that is there stands at some place
pub target_place : (t : ℕ → ℕ) (n u : ℕ) → has_target t n u ≡ true → (i : ℕ) × (i < n) × (t i ≡ u)
target_place t n u h = ⊎_elim (λ r. r) (λ a. absurd (true≢false (sym h ∙ target_absent t n u a))) (target_search t n u)

-- a place more
pub target_more : (t : ℕ → ℕ) (n u : ℕ) → has_target t (suc n) u ≡ (has_target t n u || eqb (t n) u)
target_more t n u =
    ⊎_elim
    (λ r. target_there t (suc n) u r.0 (omega (arith, r.1)) r.2 ∙ rw (target_there t n u r.0 r.1 r.2))
    (λ a. elim (ℕ_discrete (t n) u) [
      | yes e ↦ target_there t (suc n) u n (omega arith) e ∙ rw (target_absent t n u a, eq-eqb (t n) u e)
      | no e ↦
          target_absent t (suc n) u (λ i l q. ⊎_elim (λ z. e (ap t (sym z) ∙ q)) (λ z. a i z q) (below_cases i n l))
          ∙ rw (target_absent t n u a, ne_eqb (t n) u e)
    ])
    (target_search t n u)

-- targets that agree below n
pub target_ext : (t t' : ℕ → ℕ) (n u : ℕ) → ((i : ℕ) → i < n → t i ≡ t' i) → has_target t n u ≡ has_target t' n u
target_ext t t' n u h =
    ⊎_elim
    (λ r. target_there t n u r.0 r.1 r.2 ∙ sym (target_there t' n u r.0 r.1 (sym (h r.0 r.1) ∙ r.2)))
    (λ a. target_absent t n u a ∙ sym (target_absent t' n u (λ i l e. a i l (h i l ∙ e))))
    (target_search t n u)

-- ---- the lowest target that two places share

pub shared_none : (t : ℕ → ℕ) → lowest_shared t 0 ≡ suc highest_site
unfolding lowest_shared
shared_none t = refl

pub shared_more : (t : ℕ → ℕ) (n : ℕ) → lowest_shared t (suc n) ≡ cond (has_target t n (t n)) (min (t n) (lowest_shared t n)) (lowest_shared t n)
unfolding lowest_shared
shared_more t n = refl

-- one place more: its target is new, or lower than those shared so far, or not
pub shared_new : (t : ℕ → ℕ) (n : ℕ) → has_target t n (t n) ≡ false → lowest_shared t (suc n) ≡ lowest_shared t n
unfolding lowest_shared
shared_new t n h = rw h

pub shared_lower : (t : ℕ → ℕ) (n : ℕ) → has_target t n (t n) ≡ true → t n < lowest_shared t n → lowest_shared t (suc n) ≡ t n
unfolding lowest_shared
shared_lower t n h l = let below : t n ≤ lowest_shared t n = omega arith in rw (h, min-eq_left below)

pub shared_kept : (t : ℕ → ℕ) (n : ℕ) → has_target t n (t n) ≡ true → lowest_shared t n ≤ t n → lowest_shared t (suc n) ≡ lowest_shared t n
unfolding lowest_shared
shared_kept t n h l = rw (h, min-eq_right l)

-- targets that agree below n
pub shared_ext : (t t' : ℕ → ℕ) (n : ℕ) → ((i : ℕ) → i < n → t i ≡ t' i) → lowest_shared t n ≡ lowest_shared t' n
unfolding lowest_shared
shared_ext t t' zero h = refl
shared_ext t t' (suc n) h =
    rw (h n (omega arith), target_ext t t' n (t' n) (λ i l. h i (omega arith)), shared_ext t t' n (λ i l. h i (omega arith)))

-- the two places of a shared target
pub record Shared (t : ℕ → ℕ) (n u : ℕ) : Type 0 where
  pub first : ℕ
  pub second : ℕ
  pub ordered : first < second
  pub within : second < n
  pub first_there : t first ≡ u
  pub second_there : t second ≡ u

shared_later : (t : ℕ → ℕ) (n u u' : ℕ) → u ≡ u' → Shared t n u → Shared t (suc n) u'
shared_later t n u u' e s =
    record {
      first = s.first;
      second = s.second;
      ordered = s.ordered;
      within = omega (arith, s.within);
      first_there = s.first_there ∙ e;
      second_there = s.second_there ∙ e;
    }

-- a number answered that is a site is the target of two places
pub shared_places : (t : ℕ → ℕ) (n : ℕ) → lowest_shared t n ≤ highest_site → Shared t n (lowest_shared t n)
shared_places t zero h = absurd (omega (arith, shared_none t))
shared_places t (suc n) h =
    ⊎_elim
    (λ r. let b : has_target t n (t n) ≡ true = target_there t n (t n) r.0 r.1 r.2 in
    elim (dec_lt (t n) (lowest_shared t n)) [
      | yes l ↦
          (let e : lowest_shared t (suc n) ≡ t n = shared_lower t n b l in
          record { first = r.0; second = n; ordered = r.1; within = omega arith; first_there = r.2 ∙ sym e; second_there = sym e })
      | no l ↦
          (let e : lowest_shared t (suc n) ≡ lowest_shared t n = shared_kept t n b (omega arith) in
          shared_later t n _ _ (sym e) (shared_places t n (omega arith)))
    ])
    (λ a. let e : lowest_shared t (suc n) ≡ lowest_shared t n = shared_new t n (target_absent t n (t n) a) in
    shared_later t n _ _ (sym e) (shared_places t n (omega arith)))
    (target_search t n (t n))

-- a place more leaves it or lowers it
shared_down : (t : ℕ → ℕ) (n : ℕ) → lowest_shared t (suc n) ≤ lowest_shared t n
unfolding lowest_shared
shared_down t n = go (has_target t n (t n)) (lowest_shared t n)
  where
    go : (b : Bool) (l : ℕ) → cond b (min (t n) l) l ≤ l
    go false l = omega arith
    go true l = min-le_right (t n) l

-- and no lower target is shared
pub shared_lowest : (t : ℕ → ℕ) (n u : ℕ) → Shared t n u → lowest_shared t n ≤ u
shared_lowest t zero u s = absurd (not-suc-le-zero s.within)
shared_lowest t (suc n) u s =
    ⊎_elim
    (λ q.
    let last : t n ≡ u = ap t (sym q) ∙ s.second_there in
    let b : has_target t n (t n) ≡ true = target_there t n (t n) s.first (omega (arith, s.ordered)) (s.first_there ∙ sym last) in
    elim (dec_lt (t n) (lowest_shared t n)) [
      | yes l ↦ omega (arith, shared_lower t n b l)
      | no l ↦ omega (arith, shared_kept t n b (omega arith))
    ])
    (λ q.
    let earlier : Shared t n u = record { first = s.first; second = s.second; ordered = s.ordered; within = q; first_there = s.first_there; second_there = s.second_there } in
    omega (arith, shared_down t n, shared_lowest t n u earlier))
    (below_cases s.second n s.within)

-- a number above every site: the targets are pairwise different
pub all_apart : (t : ℕ → ℕ) (n : ℕ) → ((i : ℕ) → i < n → t i ≤ highest_site) → highest_site < lowest_shared t n → (i j : ℕ) → i < j → j < n → t i ≡ t j → ⊥
all_apart t n h l i j a b e =
    let s : Shared t n (t i) = record { first = i; second = j; ordered = a; within = b; first_there = refl; second_there = sym e } in
    omega (arith, shared_lowest t n (t i) s, h i (omega arith))

-- places that have one target are one
pub apart_same : (t : ℕ → ℕ) (n : ℕ) → ((i : ℕ) → i < n → t i ≤ highest_site) → highest_site < lowest_shared t n → (i j : ℕ) → i < n → j < n → t i ≡ t j → i ≡ j
apart_same t n h l i j a b e =
    elim (dec_lt i j) [
      | yes q ↦ absurd (all_apart t n h l i j q b e)
      | no q ↦ elim (dec_lt j i) [ yes r ↦ absurd (all_apart t n h l j i r a (sym e)) | no r ↦ omega arith ]
    ]

-- where they are pairwise different, the number is above every site
pub apart_unshared : (t : ℕ → ℕ) (n : ℕ) → ((i j : ℕ) → i < j → j < n → t i ≡ t j → ⊥) → highest_site < lowest_shared t n
apart_unshared t n h =
    elim (dec_lt highest_site (lowest_shared t n)) [
      | yes l ↦ l
      | no l ↦
          (let s = shared_places t n (omega arith) in
          absurd (h s.first s.second s.ordered s.within (s.first_there ∙ sym s.second_there)))
    ]

-- it is at most one more than the highest site
shared_most : (t : ℕ → ℕ) (n : ℕ) → lowest_shared t n ≤ suc highest_site
shared_most t zero = omega (arith, shared_none t)
shared_most t (suc n) = omega (arith, shared_down t n, shared_most t n)

-- ---- shared targets of ascending ones are neighbours

-- targets that do not fall from place to place
rising-from : (t : ℕ → ℕ) (n : ℕ) → ((i : ℕ) → suc i < n → t i ≤ t (suc i)) → (i j : ℕ) → i ≤ j → j < n → t i ≤ t j
rising-from t n h i zero l m = let e : i ≡ 0 = omega arith in omega (arith, ap t e)
rising-from t n h i (suc j) l m =
    ⊎_elim (λ e. omega (arith, ap t e)) (λ q. omega (arith, rising-from t n h i j (omega arith) (omega arith), h j m)) (eq-or-lt_of_le l)

-- no two neighbours among the first i targets are equal: they rise
pub record Apart (t : ℕ → ℕ) (i : ℕ) : Type 0 where
  pub begun : 1 ≤ i
  pub rise : (k : ℕ) → suc k < i → t k < t (suc k)

apart_from : {t : ℕ → ℕ} {i : ℕ} → Apart t i → (j k : ℕ) → j < k → k < i → t j < t k
apart_from a j zero l m = absurd (not-suc-le-zero l)
apart_from {t} {i} a j (suc k) l m =
    ⊎_elim (λ e. omega (arith, ap t e, a.rise k m)) (λ q. omega (arith, apart_from a j k q (omega arith), a.rise k m)) (below_cases j k l)

module _ {t : ℕ → ℕ} {n i : ℕ} (a : Apart t i) (up : Ascending t n) where
  -- the first neighbours that are equal have the lowest shared target
  pub apart_found : i < n → t (i - 1) ≡ t i → t i ≡ lowest_shared t n
  apart_found l e =
      let two : Shared t n (t i) =
      record { first = i - 1; second = i; ordered = omega (arith, a.begun); within = l; first_there = e; second_there = refl } in
      let most = shared_lowest t n (t i) two in
      let s = shared_places t n (omega (arith, up.low i l)) in
      let least : t i ≤ lowest_shared t n =
      elim (dec_lt s.second i) [
        | yes q ↦ absurd (omega (arith, apart_from a s.first s.second s.ordered q, s.first_there, s.second_there))
        | no q ↦ omega (arith, rising-from t n up.rising i s.second (omega arith) s.within, s.second_there)
      ] in
      le_antisymm least most

-- where there are none, no target is shared
pub apart_done : {t : ℕ → ℕ} {n i : ℕ} → Apart t i → n ≤ i → lowest_shared t n ≡ suc highest_site
apart_done {t} {n} a l =
    let above = apart_unshared t n (λ j k q r e. omega (arith, apart_from a j k q (omega arith))) in
    omega (arith, shared_most t n)

-- ---- one more than the highest target

pub target_below-reach : (t : ℕ → ℕ) (n i : ℕ) → i < n → t i < target_reach t n
unfolding target_reach
target_below-reach t zero i l = absurd (not-suc-le-zero l)
target_below-reach t (suc n) i l =
    ⊎_elim
    (λ e. omega (arith, ap t e, le-max_right (target_reach t n) (suc (t n))))
    (λ q. omega (arith, target_below-reach t n i q, le-max_left (target_reach t n) (suc (t n))))
    (below_cases i n l)

pub target_reach_most : (t : ℕ → ℕ) (n m : ℕ) → ((i : ℕ) → i < n → t i ≤ m) → target_reach t n ≤ suc m
unfolding target_reach
target_reach_most t zero m h = omega arith
target_reach_most t (suc n) m h =
    let last : suc (t n) ≤ suc m = omega (arith, h n (omega arith)) in
    max-le (target_reach_most t n m (λ i l. h i (omega arith))) last

pub target_reach_ext : (t t' : ℕ → ℕ) (n : ℕ) → ((i : ℕ) → i < n → t i ≡ t' i) → target_reach t n ≡ target_reach t' n
unfolding target_reach
target_reach_ext t t' zero h = refl
target_reach_ext t t' (suc n) h = rw (h n (omega arith), target_reach_ext t t' n (λ i l. h i (omega arith)))
