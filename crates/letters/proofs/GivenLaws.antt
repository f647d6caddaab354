-- The single-site answers by the letters' bounds: letter codes that are not above 3 are answered, by a letter and a power of i, and others are refused.
-- Assumes nothing.
use mathlib.Core.Path.{◌≡◌, refl}
use mathlib.Core.Bool.{Bool, true, false, ◌||◌, cond}
use mathlib.Core.List.{[]}
use Prim.Native.Nat.{ℕ, ◌≤◌, ◌<◌}
use lib.Dec.{ltb}
use borrow.Author.Tests.{lt-ltb, le-ltb, ltb-false}
use Rattle.refusal.specs.Refusals.{refuses}
use Rattle.letters.specs.Matrices.{Letters}
use Rattle.letters.specs.Single.{times, conjugated, converted}
use Rattle.letters.specs.Answers.{highest_letter, decoded, multiply_letters, conjugate_letter, convert_letter}

-- ---- letters that are answered

pub multiply_given : (M : Letters) (l r : ℕ) → l ≤ highest_letter → r ≤ highest_letter → multiply_letters M l r ≡ decoded (times M l r)
unfolding multiply_letters
multiply_given M l r hl hr = rw (le-ltb highest_letter l hl, le-ltb highest_letter r hr)

pub conjugate_given : (M : Letters) (l : ℕ) → l ≤ highest_letter → conjugate_letter M l ≡ decoded (conjugated M l)
unfolding conjugate_letter
conjugate_given M l h = rw (le-ltb highest_letter l h)

pub convert_given : (M M' : Letters) (l : ℕ) → l ≤ highest_letter → convert_letter M M' l ≡ decoded (converted M M' l)
unfolding convert_letter
convert_given M M' l h = rw (le-ltb highest_letter l h)

-- ---- letters that are refused

pub multiply_refused : (M : Letters) (l r : ℕ) → (l ≤ highest_letter → r ≤ highest_letter → ⊥) → multiply_letters M l r ≡ refuses 2 []
unfolding multiply_letters
multiply_refused M l r h = go (ltb highest_letter l) refl (ltb highest_letter r) refl
  where
    go : (a : Bool) → ltb highest_letter l ≡ a → (b : Bool) → ltb highest_letter r ≡ b → cond (a || b) (refuses 2 []) (decoded (times M l r)) ≡ refuses 2 []
    go true e b k = refl
    go false e true k = refl
    go false e false k = absurd (h (ltb-false highest_letter l e) (ltb-false highest_letter r k))

pub conjugate_refused : (M : Letters) (l : ℕ) → highest_letter < l → conjugate_letter M l ≡ refuses 2 []
unfolding conjugate_letter
conjugate_refused M l h = rw (lt-ltb highest_letter l h)

pub convert_refused : (M M' : Letters) (l : ℕ) → highest_letter < l → convert_letter M M' l ≡ refuses 2 []
unfolding convert_letter
convert_refused M M' l h = rw (lt-ltb highest_letter l h)

-- ---- what an answer with a code is
