-- Laws of `support` and of `padded`: their lengths, their elements, and one step more of each.
-- Assumes nothing.
use mathlib.Core.Path.{◌≡◌, refl, sym, ap, ◌∙◌, subst}
use mathlib.Core.List.{List, [], ◌∷◌, ◌++◌, map, append-nil, map-append}
use mathlib.Core.Bool.{Bool, true, false, cond}
use mathlib.Core.Logic.{⊎_elim, ◌⊎◌}
use Prim.Native.Nat.{ℕ, zero, suc, ◌+◌, ◌-◌, ◌≤◌, ◌<◌}
use native.Mathlib.Nat.{le_of_suc-le-suc, not-suc-le-zero, eq-or-lt_of_le}
use native.Mathlib.Numerals.{add-one}
use native.Mathlib.Decide.{dec_lt}
use native.Mathlib.Omega.{arith}
use lib.Dec.{ltb}
use lib.ListN.{length, get_or, set, take, drop, replicate, length-append, length-replicate, length-drop, get_or-replicate, take-append-drop, get_or-append}
use lib.Seq.{set-append_seam, append_snoc, get_or_at, get_or-drop, get_or-append-add, length-take-le, ext_get_or}
use borrow.Author.Tests.{lt-ltb, le-ltb}
use Rattle.items.specs.Lists.{at, support, padded}

-- a number below suc n is n or below n
pub below_cases : (k n : ℕ) → k < suc n → (k ≡ n) ⊎ (k < n)
below_cases k n h = eq-or-lt_of_le (le_of_suc-le-suc h)

-- ---- support

-- one number more, at which f is not 0
pub support_in : (f : ℕ → ℕ) (n : ℕ) → 0 < f n → support f (n + 1) ≡ support f n ++ (n ∷ [])
unfolding support
support_in f n h = rw (add-one, lt-ltb 0 (f n) h)

-- one number more, at which f is 0
pub support_out : (f : ℕ → ℕ) (n : ℕ) → f n ≤ 0 → support f (n + 1) ≡ support f n
unfolding support
support_out f n h = rw (add-one, le-ltb 0 (f n) h) (append-nil (support f n))

pub length-support : (f : ℕ → ℕ) (n : ℕ) → length (support f n) ≤ n
unfolding support
length-support f zero = omega arith
length-support f (suc n) = rw length-append (go (ltb 0 (f n)) (length-support f n))
  where
    go : (b : Bool) → length (support f n) ≤ n → length (support f n) + length (cond b (n ∷ []) []) ≤ suc n
    go true h = omega arith
    go false h = omega arith

-- functions that agree below n have one support
pub support_ext : (f g : ℕ → ℕ) (n : ℕ) → ((k : ℕ) → k < n → f k ≡ g k) → support f n ≡ support g n
unfolding support
support_ext f g zero h = refl
support_ext f g (suc n) h = rw (support_ext f g n (λ k l. h k (omega arith)), h n (omega arith))

-- and the same values on it
pub map-support_ext : (f g : ℕ → ℕ) (n : ℕ) → ((k : ℕ) → k < n → f k ≡ g k) → map f (support f n) ≡ map g (support f n)
unfolding support
map-support_ext f g zero h = refl
map-support_ext f g (suc n) h =
    rw (map-append f)
    (rw (map-support_ext f g n (λ k l. h k (omega arith)))
    (rw (map-append g) (ap (λ (l : List ℕ). map g (support f n) ++ l) (go (ltb 0 (f n)) (h n (omega arith))))))
  where
    go : (b : Bool) → f n ≡ g n → map f (cond b (n ∷ []) []) ≡ map g (cond b (n ∷ []) [])
    go true e = rw e
    go false e = refl

-- a stretch of zeros adds nothing
pub support-above : (f : ℕ → ℕ) (t m : ℕ) → t ≤ m → ((s : ℕ) → t ≤ s → s < m → f s ≡ 0) → support f m ≡ support f t
unfolding support
support-above f t zero l h = let e : 0 ≡ t = omega arith in ap (support f) e
support-above f t (suc m) l h =
    ⊎_elim
    (λ q. ap (support f) (sym q))
    (λ q.
    let z : ltb 0 (f m) ≡ false = le-ltb 0 (f m) (omega (arith, h m (omega arith) (omega arith))) in
    rw z (append-nil (support f m) ∙ support-above f t m (omega arith) (λ s a b. h s a (omega arith))))
    (eq-or-lt_of_le l)

-- what each element of a support has
pub record Supported (f : ℕ → ℕ) (n : ℕ) (l : List ℕ) : Type 0 where
  pub below : (i : ℕ) → i < length l → at l i < n
  pub held : (i : ℕ) → i < length l → 0 < f (at l i)
  pub up : (i : ℕ) → 1 ≤ i → i < length l → at l (i - 1) < at l i

supported_more : (f : ℕ → ℕ) (n : ℕ) (l : List ℕ) → 0 < f n → Supported f n l → Supported f (suc n) (l ++ (n ∷ []))
supported_more f n l h s =
    let len : length (l ++ (n ∷ [])) ≡ suc (length l) = rw (length-append, add-one) in
    let last : at (l ++ (n ∷ [])) (length l) ≡ n = get_or_at l n [] 0 (length l) refl in
    let old : (i : ℕ) → i < length l → at (l ++ (n ∷ [])) i ≡ at l i = λ i m. get_or-append l (n ∷ []) 0 i m in
    record {
      below =
          λ i m. ⊎_elim
          (λ e. omega (arith, ap (at (l ++ (n ∷ []))) e, last))
          (λ q. omega (arith, old i q, s.below i q))
          (below_cases i (length l) (omega arith));
      held =
          λ i m. ⊎_elim
          (λ e. subst (λ (x : ℕ). 0 < f x) (sym (ap (at (l ++ (n ∷ []))) e ∙ last)) h)
          (λ q. subst (λ (x : ℕ). 0 < f x) (sym (old i q)) (s.held i q))
          (below_cases i (length l) (omega arith));
      up =
          λ i a m. ⊎_elim
          (λ e. omega (arith, ap (at (l ++ (n ∷ []))) e, last, old (i - 1) (omega arith), s.below (i - 1) (omega arith)))
          (λ q. omega (arith, old i q, old (i - 1) (omega arith), s.up i a q))
          (below_cases i (length l) (omega arith));
    }

supported_same : (f : ℕ → ℕ) (n : ℕ) (l : List ℕ) → Supported f n l → Supported f (suc n) l
supported_same f n l s = record { below = λ i m. omega (arith, s.below i m); held = s.held; up = s.up }

pub supported : (f : ℕ → ℕ) (n : ℕ) → Supported f n (support f n)
unfolding support
supported f zero =
    record { below = λ i m. absurd (not-suc-le-zero m); held = λ i m. absurd (not-suc-le-zero m); up = λ i a m. absurd (not-suc-le-zero m) }
supported f (suc n) =
    elim (dec_lt 0 (f n)) [
      | yes h ↦ subst (Supported f (suc n)) (sym (support_in f n h) ∙ ap (support f) (add-one n)) (supported_more f n (support f n) h (supported f n))
      | no h ↦ subst (Supported f (suc n)) (sym (support_out f n (omega arith)) ∙ ap (support f) (add-one n)) (supported_same f n (support f n) (supported f n))
    ]

-- where a number below n at which f is not 0 stands in the support
pub support_place : (f : ℕ → ℕ) (n s : ℕ) → s < n → 0 < f s → (i : ℕ) × (i < length (support f n)) × (at (support f n) i ≡ s)
unfolding support
support_place f zero s l h = absurd (not-suc-le-zero l)
support_place f (suc n) s l h =
    ⊎_elim
    (λ e. let q : ltb 0 (f n) ≡ true = lt-ltb 0 (f n) (subst (λ (x : ℕ). 0 < f x) e h) in
    rw q (length (support f n), rw length-append (omega arith), get_or_at (support f n) n [] 0 (length (support f n)) refl ∙ sym e))
    (λ m. let r = support_place f n s m h in
    (r.0, rw length-append (omega (arith, r.1)), get_or-append (support f n) _ 0 r.0 r.1 ∙ r.2))
    (below_cases s n l)

-- ---- padded

pub length-padded : (n : ℕ) (l : List ℕ) → length l ≤ n → length (padded n l) ≡ n
unfolding padded
length-padded n l h = simp (length-append, length-replicate) (omega arith)

-- a store at the end of the list
pub pad_push : (n : ℕ) (l : List ℕ) (x : ℕ) → length l < n → set (padded n l) (length l) x ≡ padded n (l ++ (x ∷ []))
unfolding padded
pad_push n l x h =
    let k = n - (length l + 1) in
    let e : n - length l ≡ suc k = omega arith in
    let e' : n - length (l ++ (x ∷ [])) ≡ k = rw length-append in
    rw (e, e') (set-append_seam l 0 (replicate k 0) x ∙ sym (append_snoc l x (replicate k 0)))

-- the list's own elements
pub padded_in : (n : ℕ) (l : List ℕ) (i : ℕ) → i < length l → at (padded n l) i ≡ at l i
unfolding padded
padded_in n l i h = get_or-append l (replicate (n - length l) 0) 0 i h

-- the zeros
pub padded_out : (n : ℕ) (l : List ℕ) (i : ℕ) → length l ≤ i → i < n → at (padded n l) i ≡ 0
unfolding padded
padded_out n l i h m =
    let e : i ≡ length l + (i - length l) = omega arith in
    ap (at (l ++ replicate (n - length l) 0)) e ∙ get_or-append-add l (replicate (n - length l) 0) (i - length l) 0
    ∙ get_or-replicate (n - length l) (i - length l) 0 0 (omega arith)

-- a list of n with zeros from k on is its first k elements, padded
pub padded-take : (n : ℕ) (l : List ℕ) (k : ℕ) → length l ≡ n → k ≤ n → ((i : ℕ) → k ≤ i → i < n → at l i ≡ 0) → padded n (take k l) ≡ l
unfolding padded
padded-take n l k len h z =
    let t : length (take k l) ≡ k = length-take-le k l (omega arith) in
    let d : drop k l ≡ replicate (n - length (take k l)) 0 =
    ext_get_or 0 (drop k l) (replicate (n - length (take k l)) 0) (simp (length-drop, length-replicate) (omega arith))
    (λ i m. let m' : i < n - k = omega (arith, length-drop k l) in
    get_or-drop k l i 0 ∙ z (k + i) (omega arith) (omega arith) ∙ sym (get_or-replicate (n - length (take k l)) i 0 0 (omega arith))) in
    ap (λ (x : List ℕ). take k l ++ x) (sym d) ∙ take-append-drop k l

-- ---- map

pub get_d_map : (f : ℕ → ℕ) (l : List ℕ) (i : ℕ) → i < length l → get_or (map f l) i 0 ≡ f (get_or l i 0)
get_d_map f [] i h = absurd (not-suc-le-zero h)
get_d_map f (x ∷ l) zero h = refl
get_d_map f (x ∷ l) (suc i) h = get_d_map f l i (le_of_suc-le-suc h)
