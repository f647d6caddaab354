-- Laws of tests, of `every` and of `first_from`.
-- Assumes nothing.
use mathlib.Core.Path.{◌≡◌, refl, sym, ◌∙◌, ap, ap₂}
use mathlib.Core.Bool.{Bool, true, false, ◌&&◌, ◌||◌, cond, true≢false, false≢true}
use mathlib.Core.Logic.{⊎_elim}
use Prim.Native.Nat.{ℕ, zero, suc, ◌+◌, ◌<◌, ◌≤◌}
use native.Mathlib.Nat.{eq-or-lt_of_le}
use native.Mathlib.Omega.{arith}
use lib.Dec.{eqb}
use borrow.Author.Tests.{eq-eqb, eqb-true}
use Rattle.letters.specs.Tests.{every, first_from}

pub and_true : {a b : Bool} → a ≡ true → b ≡ true → (a && b) ≡ true
and_true {a} {b} p q = rw (p, q)

pub and_left : (a b : Bool) → (a && b) ≡ true → a ≡ true
and_left true b e = refl
and_left false b e = e

pub and_right : (a b : Bool) → (a && b) ≡ true → b ≡ true
and_right true b e = e
and_right false b e = absurd (false≢true e)

pub and_false : (a b : Bool) → b ≡ false → (a && b) ≡ false
and_false true b h = h
and_false false b h = refl

pub neither : (a b : Bool) → (a || b) ≡ false → (a ≡ false) × (b ≡ false)
neither true b e = absurd (true≢false e)
neither false b e = (refl, e)

pub bool_ext : (a b : Bool) → (a ≡ true → b ≡ true) → (b ≡ true → a ≡ true) → a ≡ b
bool_ext true b f g = sym (f refl)
bool_ext false true f g = g refl
bool_ext false false f g = refl

-- equality of numbers, turned round
pub eqb_sym : (a b : ℕ) → eqb a b ≡ eqb b a
eqb_sym a b = bool_ext (eqb a b) (eqb b a) (λ e. eq-eqb b a (sym (eqb-true a b e))) (λ e. eq-eqb a b (sym (eqb-true b a e)))

-- ---- every

pub every-at : (n : ℕ) (p : ℕ → Bool) → every n p ≡ true → (s : ℕ) → s < n → p s ≡ true
unfolding every
every-at zero p e s h = absurd (omega arith)
every-at (suc n) p e zero h = and_left (p 0) (every n (λ s. p (suc s))) e
every-at (suc n) p e (suc s) h = every-at n (λ s. p (suc s)) (and_right (p 0) (every n (λ s. p (suc s))) e) s (omega arith)

pub every_intro : (n : ℕ) (p : ℕ → Bool) → ((s : ℕ) → s < n → p s ≡ true) → every n p ≡ true
unfolding every
every_intro zero p e = refl
every_intro (suc n) p e = ap₂ ◌&&◌ (e 0 (omega arith)) (every_intro n (λ s. p (suc s)) (λ s h. e (suc s) (omega arith)))

-- one more, as a loop counts
pub every_more : (n : ℕ) (p : ℕ → Bool) → every n p ≡ true → p n ≡ true → every (n + 1) p ≡ true
every_more n p e h =
    every_intro (n + 1) p (λ s l. let b : s ≤ n = omega arith in ⊎_elim (λ q. ap p q ∙ h) (λ q. every-at n p e s q) (eq-or-lt_of_le b))

-- one number at which it fails
pub every_false : (n : ℕ) (p : ℕ → Bool) (s : ℕ) → s < n → p s ≡ false → every n p ≡ false
every_false n p s l h = go (every n p) refl
  where
    go : (b : Bool) → every n p ≡ b → every n p ≡ false
    go false e = e
    go true e = absurd (true≢false (sym (every-at n p e s l) ∙ h))

-- ---- first_from

pub first_at_lem : (p : ℕ → Bool) (n i s : ℕ) → i ≤ s → s < i + n → ((k : ℕ) → i ≤ k → k < s → p k ≡ false) → p s ≡ true → first_from p n i ≡ s
unfolding first_from
first_at_lem p zero i s a b h e = absurd (omega arith)
first_at_lem p (suc n) i s a b h e =
    ⊎_elim
    (λ q. let t : p i ≡ true = ap p q ∙ e in rw t q)
    (λ q. let t : p i ≡ false = h i (omega arith) q in rw t (first_at_lem p n (suc i) s q (omega arith) (λ k c d. h k (omega arith) d) e))
    (eq-or-lt_of_le a)

pub first_none : (p : ℕ → Bool) (n i : ℕ) → ((k : ℕ) → i ≤ k → k < i + n → p k ≡ false) → first_from p n i ≡ i + n
unfolding first_from
first_none p zero i h = omega arith
first_none p (suc n) i h =
    let t : p i ≡ false = h i (omega arith) (omega arith) in
    rw t (first_none p n (suc i) (λ k a b. h k (omega arith) (omega arith)) ∙ (let e : suc i + n ≡ i + suc n = omega arith in e))

-- the test passes at the number found
first_step : (p : ℕ → Bool) (i r : ℕ) (b : Bool) → p i ≡ b → (b ≡ false → p r ≡ true) → p (cond b i r) ≡ true
first_step p i r true e h = e
first_step p i r false e h = h refl

pub first_holds : (p : ℕ → Bool) (n i : ℕ) → first_from p n i < i + n → p (first_from p n i) ≡ true
unfolding first_from
first_holds p zero i h = absurd (omega arith)
first_holds p (suc n) i h =
    first_step p i (first_from p n (suc i)) (p i) refl
    (λ e. first_holds p n (suc i) (let k : first_from p n (suc i) < i + suc n = rw e at h in omega arith))

-- and fails at each number before it
first_skip : (p : ℕ → Bool) (i r : ℕ) (b : Bool) → p i ≡ b → (k : ℕ) → i ≤ k → k < cond b i r → ((m : ℕ) → suc i ≤ m → m < r → p m ≡ false) → p k ≡ false
first_skip p i r true e k a l h = absurd (omega arith)
first_skip p i r false e k a l h = ⊎_elim (λ q. ap p (sym q) ∙ e) (λ q. h k q l) (eq-or-lt_of_le a)

pub first_before : (p : ℕ → Bool) (n i k : ℕ) → i ≤ k → k < first_from p n i → p k ≡ false
unfolding first_from
first_before p zero i k a l = absurd (omega arith)
first_before p (suc n) i k a l = first_skip p i (first_from p n (suc i)) (p i) refl k a l (λ m b t. first_before p n (suc i) m b t)
