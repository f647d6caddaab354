-- Laws of lists with blanks past them, and of closing up over a gap. For any element type.
-- Assumes nothing.
use Prim.Native.Nat.{ℕ, suc, ◌+◌, ◌-◌, ◌≤◌, ◌<◌}
use native.Mathlib.Numerals.{add-one}
use native.Mathlib.Omega.{arith}
use mathlib.Core.Path.{◌≡◌, refl, sym, ap, ◌∙◌}
use mathlib.Core.List.{List, [], ◌∷◌, ◌++◌, append_assoc}
use lib.ListN.{length, get_or, take, drop, set, replicate, length-append, length-drop, length-set, length-replicate}
use lib.Seq.{drop-cons, set-append_left, set_at, take_at, drop_at, get_or-drop, get_or-append-add, length-take-le, take-length}
use Rattle.terms.specs.Keyed.{padded, omitted}

-- the first n elements without the one at a place: later ones close up, and the last of the n places stays as it was
abbrev pub closed_up : {A : Type 0} → ℕ → ℕ → List A → List A
closed_up at n l = omitted at (take n l) ++ drop (n - 1) l

module _ {A : Type 0} where
  -- ---- padding

  -- a store at a place that counts
  pub padded_set : (n : ℕ) (z : A) (l : List A) (i : ℕ) (a : A) → i < length l → set (padded n z l) i a ≡ padded n z (set l i a)
  padded_set n z l i a h = rw (set-append_left l (replicate (n - length l) z) i a h, length-set l i a)

  -- a store at the first place past the list
  pub padded_snoc : (n : ℕ) (z : A) (l : List A) (a : A) → length l < n → set (padded n z l) (length l) a ≡ padded n z (l ++ a ∷ [])
  padded_snoc n z l a h =
      let e : n - length l ≡ suc (n - length (l ++ a ∷ [])) = rw (length-append l (a ∷ [])) (omega arith) in
      rw (e, set_at l z (replicate (n - length (l ++ a ∷ [])) z) a (length l) refl, append_assoc l (a ∷ []) (replicate (n - length (l ++ a ∷ [])) z))

  -- the padded list's first part
  pub padded-take : (n : ℕ) (z : A) (l : List A) → take (length l) (padded n z l) ≡ l
  padded-take n z l = take_at l (replicate (n - length l) z) (length l) refl

  -- ---- closing up: `s` is l without its element at `at`

  -- one element fewer
  pub length-omitted : (at : ℕ) (l : List A) → at < length l → length (omitted at l) + 1 ≡ length l
  length-omitted at l h = rw (length-append (take at l) (drop (at + 1) l), length-take-le at l (omega arith), length-drop (at + 1) l) (omega arith)

  -- the next element of s is the one after it in l
  pub next_omitted : (at i : ℕ) (l : List A) (d : A) → at ≤ i → i + 1 < length l → get_or (omitted at l) i d ≡ get_or l (i + 1) d
  next_omitted at i l d h k =
      let lt : length (take at l) ≡ at = length-take-le at l (omega arith) in
      let e : i ≡ length (take at l) + (i - at) = omega arith in
      let e2 : at + 1 + (i - at) ≡ i + 1 = omega arith in
      ap (λ (j : ℕ). get_or (take at l ++ drop (at + 1) l) j d) e ∙ get_or-append-add (take at l) (drop (at + 1) l) (i - at) d ∙ get_or-drop (at + 1) l (i - at) d ∙ ap (λ (j : ℕ). get_or l j d) e2

  -- the part before the place
  pub take-omitted : (at : ℕ) (l : List A) → at ≤ length l → take at (omitted at l) ≡ take at l
  take-omitted at l h = take_at (take at l) (drop (at + 1) l) at (length-take-le at l h)

  -- a store past s, laid over a longer list
  pub lay_last : (s l : List A) (z : A) → length s < length l → set (take (length s) s ++ drop (length s) l) (length s) z ≡ s ++ z ∷ drop (length s + 1) l
  lay_last s l z h =
      rw (take-length s, drop-cons l (length s) z h, set_at s (get_or l (length s) z) (drop (suc (length s)) l) z (length s) refl, add-one (length s))

  -- z stored past the others
  pub closed_up_lem : (n at : ℕ) (z : A) (l : List A) (i : ℕ) → at < length l → length l ≤ n → i + 1 ≡ length l
      → set (take i (omitted at l) ++ drop i (padded n z l)) i z ≡ padded n z (omitted at l)
  closed_up_lem n at z l i h m e =
      let s = omitted at l in
      let ls : length s + 1 ≡ length l = length-omitted at l h in
      let is : i ≡ length s = omega arith in
      let lp : length (padded n z l) ≡ n = rw (length-append l (replicate (n - length l) z), length-replicate (n - length l) z) (omega arith) in
      let d : drop (length s + 1) (padded n z l) ≡ replicate (n - length l) z = drop_at l (replicate (n - length l) z) (length s + 1) (sym ls) in
      let r : n - length s ≡ suc (n - length l) = omega arith in
      ap (λ (j : ℕ). set (take j s ++ drop j (padded n z l)) j z) is ∙ lay_last s (padded n z l) z (omega arith) ∙ rw (d, r)
