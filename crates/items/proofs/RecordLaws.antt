-- Laws of a record of a product: what `valid` says place by place, the letters that `letter_at` finds, and the reach.
-- Assumes nothing.
use mathlib.Core.Path.{◌≡◌, refl, sym, ap, ◌∙◌, subst}
use mathlib.Core.List.{List}
use mathlib.Core.Bool.{Bool, true, false, ◌&&◌, cond}
use mathlib.Core.Logic.{⊎_elim}
use Prim.Native.Nat.{ℕ, zero, suc, ◌+◌, ◌-◌, ◌≤◌, ◌<◌}
use native.Mathlib.Nat.{le_antisymm, not-suc-le-zero}
use native.Mathlib.Decide.{ℕ_discrete, dec_lt}
use native.Mathlib.Omega.{arith}
use lib.Bits.{bit_or, or_add_and, and_le_l, and_le_r, or_zero_r}
use lib.Dec.{ltb, leb, eqb}
use lib.ListN.{length, get_or-eq_default}
use borrow.Author.Tests.{lt-ltb, le-ltb, le-leb, lt-leb, leb-true, ltb-true, eqb-true, eq-eqb, ne_eqb}
use Rattle.letters.specs.Tests.{every}
use Rattle.letters.proofs.TestLaws.{and_true, and_left, and_right, and_false, every-at, every_false, every_more}
use Rattle.letters.specs.Answers.{highest_letter}
use Rattle.items.specs.Lists.{at}
use Rattle.items.specs.Record.{capacity, highest_site, place_valid, in_shape, valid, lookup, letter_at, reach}
use Rattle.items.specs.declared.Items.{Items}
use Rattle.items.proofs.ListLaws.{below_cases}

-- ---- one place

-- a place below the count that is as it should be
pub place_in : (count : ℕ) (sites letters : List ℕ) (i : ℕ) → i < count → at sites i ≤ highest_site
    → 1 ≤ at letters i → at letters i ≤ highest_letter → (1 ≤ i → at sites (i - 1) < at sites i) → place_valid count sites letters i ≡ true
unfolding place_valid
place_in count sites letters i l a b c d =
    rw (lt-ltb i count l, le-leb (at sites i) highest_site a, le-leb 1 (at letters i) b, le-leb (at letters i) highest_letter c)
    (elim (dec_lt i 1) [ yes h ↦ rw (lt-ltb i 1 h) | no h ↦ rw (le-ltb i 1 (omega arith), lt-ltb (at sites (i - 1)) (at sites i) (d (omega arith))) ])

-- a place past the count with zeros
pub place_out : (count : ℕ) (sites letters : List ℕ) (i : ℕ) → count ≤ i → at sites i ≡ 0 → at letters i ≡ 0 → place_valid count sites letters i ≡ true
unfolding place_valid
place_out count sites letters i l a b = rw (le-ltb i count l, a, b)

-- what a valid place below the count has
pub record Place (sites letters : List ℕ) (i : ℕ) : Type 0 where
  pub site_most : at sites i ≤ highest_site
  pub letter_there : 1 ≤ at letters i
  pub letter_most : at letters i ≤ highest_letter
  pub ascends : 1 ≤ i → at sites (i - 1) < at sites i

pub place_of : (count : ℕ) (sites letters : List ℕ) (i : ℕ) → i < count → place_valid count sites letters i ≡ true → Place sites letters i
unfolding place_valid
place_of count sites letters i l h =
    let t₁ = leb (at sites i) highest_site in
    let t₂ = leb 1 (at letters i) in
    let t₃ = leb (at letters i) highest_letter in
    let t₄ = cond (ltb i 1) true (ltb (at sites (i - 1)) (at sites i)) in
    let h₄ : (t₁ && t₂ && t₃ && t₄) ≡ true = rw (lt-ltb i count l) at h in
    let h₃ : (t₁ && t₂ && t₃) ≡ true = and_left (t₁ && t₂ && t₃) t₄ h₄ in
    let h₂ : (t₁ && t₂) ≡ true = and_left (t₁ && t₂) t₃ h₃ in
    let last : t₄ ≡ true = and_right (t₁ && t₂ && t₃) t₄ h₄ in
    record {
      site_most = leb-true (at sites i) highest_site (and_left t₁ t₂ h₂);
      letter_there = leb-true 1 (at letters i) (and_right t₁ t₂ h₂);
      letter_most = leb-true (at letters i) highest_letter (and_right (t₁ && t₂) t₃ h₃);
      ascends = λ e. ltb-true (at sites (i - 1)) (at sites i) (rw (le-ltb i 1 e) at last);
    }

-- ---- valid

-- a count that is too high
pub many_invalid : (p : Items) → capacity < p.count → false ≡ valid p
unfolding valid in_shape
many_invalid p h =
    let count = and_false (eqb (length p.sites) capacity && eqb (length p.letters) capacity) (leb p.count capacity) (lt-leb p.count capacity h) in
    sym (ap (λ (b : Bool). b && every capacity (place_valid p.count p.sites p.letters)) count)

-- a place that fails
pub place_invalid : (p : Items) (i : ℕ) → i < capacity → place_valid p.count p.sites p.letters i ≡ false → false ≡ valid p
unfolding valid
place_invalid p i l h = sym (and_false (in_shape p) _ (every_false capacity (place_valid p.count p.sites p.letters) i l h))

pub in_shape_lem : (p : Items) → length p.sites ≡ capacity → length p.letters ≡ capacity → p.count ≤ capacity → in_shape p ≡ true
unfolding in_shape
in_shape_lem p a b c = and_true (and_true (eq-eqb _ capacity a) (eq-eqb _ capacity b)) (le-leb p.count capacity c)

-- every place passes
pub all_valid : (p : Items) → length p.sites ≡ capacity → length p.letters ≡ capacity → p.count ≤ capacity → every capacity (place_valid p.count p.sites p.letters) ≡ true → valid p ≡ true
unfolding valid
all_valid p a b c h = and_true (in_shape_lem p a b c) h

-- a loop over the places below n has passed them all
pub all_passed : (n i : ℕ) (test : ℕ → Bool) → i ≤ n → n ≤ i → every i test ≡ true → every n test ≡ true
all_passed n i test l m h = subst (λ (k : ℕ). every k test ≡ true) (le_antisymm l m) h

-- both are zero where their bits are together
or_none : (a b : ℕ) → bit_or a b ≡ 0 → (a ≡ 0) × (b ≡ 0)
or_none a b e = let s = or_add_and a b in let l = and_le_l a b in let r = and_le_r a b in (omega arith, omega arith)

-- one is not where they are not
or_some : {P : Type 0} (a b : ℕ) → 0 < bit_or a b → (0 < a → P) → (0 < b → P) → P
or_some a b l p q = elim (dec_lt 0 b) [ yes h ↦ q h | no h ↦ p (subst (λ x. 0 < x) (same (omega arith)) l) ]
  where
    same : b ≡ 0 → bit_or a b ≡ a
    same e = ap (bit_or a) e ∙ or_zero_r a

-- a loop that has come to i, and has together the bits of the sites past the count, and those of the letters there
pub record Zeros (count : ℕ) (sites letters : List ℕ) (i a b : ℕ) : Type 0 where
  pub past : count ≤ i
  pub within : i ≤ capacity
  pub none : a ≡ 0 → b ≡ 0 → every i (place_valid count sites letters) ≡ true
  pub site : 0 < a → every capacity (place_valid count sites letters) ≡ false
  pub letter : 0 < b → every capacity (place_valid count sites letters) ≡ false

module _ {count : ℕ} {sites letters : List ℕ} where
  module _ {i a b : ℕ} (z : Zeros count sites letters i a b) where
    -- a site or a letter that is not zero
    site_there : i < capacity → 0 < at sites i → every capacity (place_valid count sites letters) ≡ false
    unfolding place_valid
    site_there h s = every_false capacity (place_valid count sites letters) i h (rw (le-ltb i count z.past, lt-leb (at sites i) 0 s))

    letter_there : i < capacity → 0 < at letters i → every capacity (place_valid count sites letters) ≡ false
    unfolding place_valid
    letter_there h l =
        every_false capacity (place_valid count sites letters) i h
        (rw (le-ltb i count z.past, le-ltb (at letters i) 1 l) (and_false (leb (at sites i) 0) false refl))

    pub zeros_more : i < capacity → Zeros count sites letters (i + 1) (bit_or a (at sites i)) (bit_or b (at letters i))
    zeros_more h =
        record {
          past = omega (arith, z.past);
          within = omega arith;
          none = λ e f.
              let s = or_none a (at sites i) e in
              let l = or_none b (at letters i) f in
              every_more i (place_valid count sites letters) (z.none s.0 l.0) (place_out count sites letters i z.past s.1 l.1);
          site = λ l. or_some a (at sites i) l z.site (site_there h);
          letter = λ l. or_some b (at letters i) l z.letter (letter_there h);
        }

    pub zeros_done : capacity ≤ i → eqb (bit_or a b) 0 ≡ every capacity (place_valid count sites letters)
    zeros_done m = go (bit_or a b) refl
      where
        go : (r : ℕ) → bit_or a b ≡ r → eqb r 0 ≡ every capacity (place_valid count sites letters)
        go zero e =
            let o = or_none a b e in
            sym (all_passed capacity i (place_valid count sites letters) z.within m (z.none o.0 o.1))
        go (suc r) e = ne_eqb (suc r) 0 (λ f. omega arith) ∙ sym (or_some a b (omega arith) z.site z.letter)

-- where the count and the lengths are as they should be, the places decide
pub places_decide : (p : Items) → length p.sites ≡ capacity → length p.letters ≡ capacity → p.count ≤ capacity
    → valid p ≡ every capacity (place_valid p.count p.sites p.letters)
unfolding valid
places_decide p a b c = rw (in_shape_lem p a b c)

pub record Shape (p : Items) : Type 0 where
  pub sites_long : length p.sites ≡ capacity
  pub letters_long : length p.letters ≡ capacity
  pub count_most : p.count ≤ capacity

pub valid_shape : (p : Items) → valid p ≡ true → Shape p
unfolding valid in_shape
valid_shape p v =
    let a = eqb (length p.sites) capacity in
    let b = eqb (length p.letters) capacity in
    let s : (a && b && leb p.count capacity) ≡ true = and_left (a && b && leb p.count capacity) _ v in
    let ab : (a && b) ≡ true = and_left (a && b) (leb p.count capacity) s in
    record {
      sites_long = eqb-true _ capacity (and_left a b ab);
      letters_long = eqb-true _ capacity (and_right a b ab);
      count_most = leb-true p.count capacity (and_right (a && b) (leb p.count capacity) s);
    }

-- the count fits the arrays
pub count_fits : (p : Items) → valid p ≡ true → p.count ≤ capacity
count_fits p v = (valid_shape p v).count_most

-- a place below the count is one of the arrays
pub place_fits : (p : Items) (i : ℕ) → valid p ≡ true → i < p.count → i < capacity
place_fits p i v l = omega (arith, (valid_shape p v).count_most)

valid_place : (p : Items) → valid p ≡ true → (i : ℕ) → i < capacity → place_valid p.count p.sites p.letters i ≡ true
unfolding valid
valid_place p v i l = every-at capacity (place_valid p.count p.sites p.letters) (and_right (in_shape p) _ v) i l

pub valid-at : (p : Items) → valid p ≡ true → (i : ℕ) → i < p.count → Place p.sites p.letters i
valid-at p v i l = place_of p.count p.sites p.letters i l (valid_place p v i (place_fits p i v l))

-- zeros past the count
pub valid_past : (p : Items) → valid p ≡ true → (i : ℕ) → p.count ≤ i → i < capacity → (at p.sites i ≡ 0) × (at p.letters i ≡ 0)
unfolding place_valid
valid_past p v i l m =
    let a = leb (at p.sites i) 0 in
    let b = ltb (at p.letters i) 1 in
    let h : (a && b) ≡ true = rw (le-ltb i p.count l) at (valid_place p v i m) in
    (omega (arith, leb-true (at p.sites i) 0 (and_left a b h)), omega (arith, ltb-true (at p.letters i) 1 (and_right a b h)))

-- the sites ascend
pub ascending : (p : Items) → valid p ≡ true → (i j : ℕ) → i < j → j < p.count → at p.sites i < at p.sites j
ascending p v i zero l m = absurd (not-suc-le-zero l)
ascending p v i (suc j) l m =
    let e : at p.sites (suc j - 1) < at p.sites (suc j) = (valid-at p v (suc j) m).ascends (omega arith) in
    let step : at p.sites j < at p.sites (suc j) = subst (λ (k : ℕ). at p.sites k < at p.sites (suc j)) (omega arith) e in
    ⊎_elim
    (λ q. subst (λ (k : ℕ). at p.sites k < at p.sites (suc j)) (sym q) step)
    (λ q. omega (arith, ascending p v i j q (omega arith)))
    (below_cases i j l)

-- ---- lookup

-- no place has the site
pub lookup_absent : (sites letters : List ℕ) (n s : ℕ) → ((i : ℕ) → i < n → at sites i ≡ s → ⊥) → lookup sites letters n s ≡ 0
unfolding lookup
lookup_absent sites letters zero s h = refl
lookup_absent sites letters (suc n) s h =
    rw (ne_eqb (at sites n) s (h n (omega arith))) (lookup_absent sites letters n s (λ i l. h i (omega arith)))

-- the last place has it
pub lookup_here : (sites letters : List ℕ) (n : ℕ) → lookup sites letters (suc n) (at sites n) ≡ at letters n
unfolding lookup
lookup_here sites letters n = rw (eq-eqb (at sites n) (at sites n) refl)

-- the last place has another
pub lookup-before : (sites letters : List ℕ) (n s : ℕ) → (at sites n ≡ s → ⊥) → lookup sites letters (suc n) s ≡ lookup sites letters n s
unfolding lookup
lookup-before sites letters n s h = rw (ne_eqb (at sites n) s h)

-- place i has it, and the places after it do not
pub lookup-at : (sites letters : List ℕ) (n i : ℕ) → i < n → ((j : ℕ) → i < j → j < n → at sites i ≡ at sites j → ⊥) → lookup sites letters n (at sites i) ≡ at letters i
lookup-at sites letters zero i l h = absurd (not-suc-le-zero l)
lookup-at sites letters (suc n) i l h =
    ⊎_elim
    (λ q. subst (λ (k : ℕ). lookup sites letters (suc n) (at sites k) ≡ at letters k) (sym q) (lookup_here sites letters n))
    (λ q.
    lookup-before sites letters n (at sites i) (λ e. h n q (omega arith) (sym e))
    ∙ lookup-at sites letters n i q (λ j a b. h j a (omega arith)))
    (below_cases i n l)

-- a letter found stands at some place
pub lookup_found : (sites letters : List ℕ) (n s : ℕ) → 0 < lookup sites letters n s → (i : ℕ) × (i < n) × (at sites i ≡ s)
unfolding lookup
lookup_found sites letters zero s h = absurd (not-suc-le-zero h)
lookup_found sites letters (suc n) s h =
    elim (ℕ_discrete (at sites n) s) [
      | yes e ↦ (n, omega arith, e)
      | no e ↦
          (let r = lookup_found sites letters n s (subst (λ (x : ℕ). 0 < x) (lookup-before sites letters n s e) h) in
          (r.0, omega (arith, r.1), r.2))
    ]

-- letters of at most m
pub lookup_most : (sites letters : List ℕ) (n s m : ℕ) → ((i : ℕ) → i < n → at letters i ≤ m) → lookup sites letters n s ≤ m
unfolding lookup
lookup_most sites letters zero s m h = omega arith
lookup_most sites letters (suc n) s m h = go (eqb (at sites n) s) (lookup_most sites letters n s m (λ i l. h i (omega arith)))
  where
    go : (b : Bool) → lookup sites letters n s ≤ m → cond b (at letters n) (lookup sites letters n s) ≤ m
    go true r = h n (omega arith)
    go false r = r

-- arrays that agree below n
pub lookup_ext : (xs ys xs' ys' : List ℕ) (n s : ℕ) → ((i : ℕ) → i < n → at xs i ≡ at xs' i) → ((i : ℕ) → i < n → at ys i ≡ at ys' i) → lookup xs ys n s ≡ lookup xs' ys' n s
unfolding lookup
lookup_ext xs ys xs' ys' zero s h k = refl
lookup_ext xs ys xs' ys' (suc n) s h k =
    rw (h n (omega arith), k n (omega arith), lookup_ext xs ys xs' ys' n s (λ i m. h i (omega arith)) (λ i m. k i (omega arith)))

-- ---- the letters of a valid record

pub letter_here : (p : Items) → valid p ≡ true → (i : ℕ) → i < p.count → letter_at p (at p.sites i) ≡ at p.letters i
unfolding letter_at
letter_here p v i l = lookup-at p.sites p.letters p.count i l (λ j a b e. omega (arith, ascending p v i j a b))

pub letter_code : (p : Items) → valid p ≡ true → (s : ℕ) → letter_at p s ≤ highest_letter
unfolding letter_at
letter_code p v s = lookup_most p.sites p.letters p.count s 3 (λ i l. (valid-at p v i l).letter_most)

-- the place of an occupied site
pub letter_occupied : (p : Items) (s : ℕ) → 0 < letter_at p s → (i : ℕ) × (i < p.count) × (at p.sites i ≡ s)
unfolding letter_at
letter_occupied p s h = lookup_found p.sites p.letters p.count s h

-- a site that no place has
pub letter_free : (p : Items) (s : ℕ) → ((i : ℕ) → i < p.count → at p.sites i ≡ s → ⊥) → letter_at p s ≡ 0
unfolding letter_at
letter_free p s h = lookup_absent p.sites p.letters p.count s h

-- ---- the reach

pub reach_none : (p : Items) → p.count ≡ 0 → reach p ≡ 0
unfolding reach
reach_none p h = rw (eq-eqb p.count 0 h)

pub reach_last : (p : Items) → 0 < p.count → reach p ≡ suc (at p.sites (p.count - 1))
unfolding reach
reach_last p h = rw (ne_eqb p.count 0 (λ e. omega arith))

-- a count past the array reads as site 0
pub reach_past : (p : Items) → length p.sites ≡ capacity → capacity < p.count → reach p ≡ 1
reach_past p e h = reach_last p (omega arith) ∙ ap suc (get_or-eq_default p.sites 0 (omega arith))

pub site_below-reach : (p : Items) → valid p ≡ true → (i : ℕ) → i < p.count → at p.sites i < reach p
site_below-reach p v i l =
    rw (reach_last p (omega arith))
    (elim (ℕ_discrete i (p.count - 1)) [
      | yes e ↦ omega (arith, ap (at p.sites) e)
      | no e ↦ omega (arith, ascending p v i (p.count - 1) (omega arith) (omega arith))
    ])

pub reach_most : (p : Items) → valid p ≡ true → reach p ≤ suc highest_site
reach_most p v =
    elim (dec_lt 0 p.count) [
      | yes h ↦ omega (arith, reach_last p h, (valid-at p v (p.count - 1) (omega arith)).site_most)
      | no h ↦ omega (arith, reach_none p (omega arith))
    ]

-- no letter from the reach on
pub letter-beyond : (p : Items) → valid p ≡ true → (s : ℕ) → reach p ≤ s → letter_at p s ≡ 0
letter-beyond p v s h = letter_free p s (λ i l e. omega (arith, site_below-reach p v i l))

-- ---- a scan for a site from place 0 on

-- the number after the site of the last place is the reach
pub reach-from : (p : Items) {next : ℕ} → (p.count ≡ 0 → ⊥) → next ≡ at p.sites (p.count - 1) + 1 → next ≡ reach p
reach-from p {next} some e = let last : reach p ≡ suc (at p.sites (p.count - 1)) = reach_last p (omega arith) in omega arith
