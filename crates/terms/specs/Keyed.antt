-- Lists of things with a key, for any kind of key: `test x` says whether x has the key that is looked for.
use Rattle.std.specs.Prelude.{ℕ, zero, suc, ◌+◌, ◌-◌, Bool, true, false, ◌||◌, ◌&&◌, cond, List, [], ◌∷◌, ◌++◌, length, take, drop, replicate}

module _ {A : Type 0} (test : A → Bool) where
  -- the place of the first one with the key; the length where there is none
  unfoldable pub first_at : List A → ℕ
  first_at [] = zero
  first_at (x ∷ xs) = cond (test x) zero (suc (first_at xs))

  -- the first one with the key, as a list of one; none is the empty list
  unfoldable pub held : List A → List A
  held [] = []
  held (x ∷ xs) = cond (test x) (x ∷ []) (held xs)

  unfoldable pub has : List A → Bool
  has [] = false
  has (x ∷ xs) = test x || has xs

  -- a is written in the place of the first one with the key, or at the end
  unfoldable pub written : A → List A → List A
  written a [] = a ∷ []
  written a (x ∷ xs) = cond (test x) (a ∷ xs) (x ∷ written a xs)

  -- the first one with the key is struck out, and later ones close up
  unfoldable pub struck : List A → List A
  struck [] = []
  struck (x ∷ xs) = cond (test x) xs (x ∷ struck xs)

-- l with z up to n places
abbrev pub padded : {A : Type 0} → ℕ → A → List A → List A
padded n z l = l ++ replicate (n - length l) z

-- l without its element at a place
abbrev pub omitted : {A : Type 0} → ℕ → List A → List A
omitted at l = take at l ++ drop (at + 1) l

-- each element, with those after it, passes the test
unfoldable pub each : {A : Type 0} → (A → List A → Bool) → List A → Bool
each p [] = true
each p (x ∷ xs) = p x xs && each p xs

-- the first element's value, and another one for the empty list
unfoldable pub head_or : {A B : Type 0} → (A → B) → B → List A → B
head_or f b [] = b
head_or f b (x ∷ xs) = f x

-- the results of f, one after the other
unfoldable pub concat_map : {A B : Type 0} → (A → List B) → List A → List B
concat_map f [] = []
concat_map f (x ∷ xs) = f x ++ concat_map f xs
