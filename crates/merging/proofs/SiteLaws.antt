-- Two products joined: the first site that both occupy, and what the product is where there is none.
-- Assumes nothing.
use Rattle.std.proofs.Common.{◌≡◌, Bool, true, false, ℕ, ◌+◌, ◌≤◌, ◌<◌, length, take, Option, Some, None, MatchOption, is_some, sym, ap, ◌∙◌, arith}
use Rattle.std.specs.List.{AllWithin, HoldsAt}
use mathlib.Core.Bool.{true≢false, false≢true}
use native.Mathlib.Decide.{dec_lt}
use lib.Dec.{ltb}
use borrow.Author.Tests.{lt-ltb, le-ltb, ltb-false}
use Rattle.refusal.specs.Refusals.{done}
use Rattle.letters.specs.Matrices.{Letters, letters_of}
use Rattle.letters.specs.Single.{letter_of, times}
use Rattle.letters.specs.declared.Kind.{Kind}
use Rattle.letters.specs.declared.Kind.TheVariants.{Pauli}
use Rattle.letters.specs.Answers.{highest_letter}
use Rattle.letters.proofs.TestLaws.{first_at_lem, first_none, first_before}
use Rattle.letters.proofs.TableLaws.{Closed, closed}
use Rattle.items.specs.Lists.{at}
use Rattle.items.specs.Record.{valid, letter_at, reach_of, record_of}
use Rattle.items.specs.declared.Items.{Items}
use Rattle.items.proofs.RecordLaws.{letter_code, letter_occupied}
use Rattle.items.proofs.Canonical.{record_ext}
use Rattle.merging.proofs.FindLaws.{places_long, site_at}
use Rattle.merging.specs.ProductAnswers.{first_occupied, concatenate_answer}

-- ---- two products joined

-- p occupies the site of q's place j
abbrev pub occupies : Items → Items → ℕ → Bool
occupies p q j = ltb 0 (letter_at p (at q.sites j))

-- a letter found, and none found
pub letter_there : (r : Option ℕ) (x : ℕ) → MatchOption r (x ≡ 0) (λ l. (l ≡ x) × (0 < l)) → true ≡ is_some r → 0 < x
letter_there None x e t = absurd (true≢false t)
letter_there (Some l) x h t = omega arith

pub letter_none : (r : Option ℕ) (x : ℕ) → MatchOption r (x ≡ 0) (λ l. (l ≡ x) × (0 < l)) → false ≡ is_some r → x ≡ 0
letter_none None x e t = e
letter_none (Some l) x h t = absurd (false≢true t)

-- the first site of q's places that p occupies, and that there is none
pub first_searched : (p q : Items) → valid q ≡ true → (r : Option ℕ)
    → MatchOption r (AllWithin (λ x. letter_at p x ≡ 0) (take q.count q.sites) 0 (length (take q.count q.sites)))
    (λ x. (0 < letter_at p x) × (i : ℕ) × (i < length (take q.count q.sites)) × HoldsAt (λ y. y ≡ x) (take q.count q.sites) i
    × AllWithin (λ y. letter_at p y ≡ 0) (take q.count q.sites) 0 i)
    → MatchOption r (first_occupied p q ≡ q.count) (λ s. (first_occupied p q < q.count) × (s ≡ at q.sites (first_occupied p q)))
unfolding first_occupied
first_searched p q w None all =
    let long = places_long q w in
    first_none (occupies p q) q.count 0
    (λ k a l. le-ltb 0 (letter_at p (at q.sites k)) (omega (arith, site_at q w (λ x. letter_at p x ≡ 0) k (omega arith) (all k 0 (omega arith) (omega arith)))))
    ∙ omega arith
first_searched p q w (Some x) f =
    let long = places_long q w in
    let i = f.1 in
    let l : i < q.count = omega (arith, f.2) in
    let e : at q.sites i ≡ x = site_at q w (λ y. y ≡ x) i l (f.3 0) in
    let o : first_occupied p q ≡ i = first_at_lem (occupies p q) q.count 0 i (omega arith) (omega arith)
    (λ k a m. le-ltb 0 (letter_at p (at q.sites k)) (omega (arith, site_at q w (λ y. letter_at p y ≡ 0) k (omega arith) (f.4 k 0 (omega arith) m))))
    (lt-ltb 0 (letter_at p (at q.sites i)) (omega (arith, f.0, ap (letter_at p) e))) in
    (omega arith, sym (ap (at q.sites) o ∙ e))

-- on each site at most one of the two has a letter
one_letter : (p q : Items) → q.count ≤ first_occupied p q → (s : ℕ) → 0 < letter_at q s → letter_at p s ≡ 0
unfolding first_occupied
one_letter p q h s g =
    let r = letter_occupied q s g in
    let t : ltb 0 (letter_at p (at q.sites r.0)) ≡ false =
    first_before (λ k. ltb 0 (letter_at p (at q.sites k))) q.count 0 r.0 (omega arith) (omega (arith, r.1)) in
    ap (letter_at p) (sym r.2) ∙ (let z : letter_at p (at q.sites r.0) ≡ 0 = omega (arith, ltb-false 0 (letter_at p (at q.sites r.0)) t) in z)

-- a letter is its own remainder
small : (a : ℕ) → a ≤ highest_letter → letter_of a ≡ a
small a l = omega arith

-- so their product is their sum
pub join_record : (kind : Kind) (p q : Items) → valid p ≡ true → valid q ≡ true → q.count ≤ first_occupied p q
    → record_of (λ s. letter_of (times (letters_of kind) (letter_at p s) (letter_at q s))) (reach_of p q) ≡ record_of (λ s. letter_at p s + letter_at q s) (reach_of p q)
join_record kind p q v w h =
    record_ext (λ s. letter_of (times (letters_of kind) (letter_at p s) (letter_at q s))) (λ s. letter_at p s + letter_at q s) (reach_of p q)
    (λ s l. both (closed kind) (letter_at p s) (letter_at q s) (letter_code p v s) (letter_code q w s) (one_letter p q h s))
  where
    both : {M : Letters} → Closed M → (a b : ℕ) → a ≤ highest_letter → b ≤ highest_letter → (0 < b → a ≡ 0) → letter_of (times M a b) ≡ a + b
    both {M} k a b l m z =
        elim (dec_lt 0 b) [
          | yes g ↦ rw (z g) (ap letter_of (k.zero-times b (omega arith)) ∙ small b m ∙ (let e : b ≡ 0 + b = omega arith in e))
          | no g ↦ (let e : b ≡ 0 = omega arith in rw e (ap letter_of (k.times_zero a (omega arith)) ∙ small a l ∙ (let f : a ≡ a + 0 = omega arith in f)))
        ]

pub join_done : (p q : Items) {items : Items} → valid p ≡ true → valid q ≡ true → first_occupied p q ≡ q.count
    → items ≡ record_of (λ s. letter_of (times (letters_of Pauli) (letter_at p s) (letter_at q s))) (reach_of p q)
    → (done, items) ≡ concatenate_answer p q
unfolding concatenate_answer
join_done p q v w e h =
    rw (v, w, le-ltb (first_occupied p q) q.count (omega arith)) (λ i. (done, (h ∙ join_record Pauli p q v w (omega arith)) i))
