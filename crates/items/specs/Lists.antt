-- Lists that the records of products are read by.
use Rattle.std.specs.Prelude.{ℕ, zero, suc, ◌-◌, List, [], ◌∷◌, ◌++◌, Bool, true, false, ◌&&◌, cond, ltb, eqb, length, get_or, replicate}

-- the number at a place of a list, 0 past its end
abbrev pub at : List ℕ → ℕ → ℕ
at l i = get_or l i 0

-- the numbers below n at which f is not 0, ascending
unfoldable pub support : (ℕ → ℕ) → ℕ → List ℕ
support f zero = []
support f (suc n) = support f n ++ cond (ltb 0 (f n)) (n ∷ []) []

-- l with zeros up to the length n
unfoldable pub padded : ℕ → List ℕ → List ℕ
padded n l = l ++ replicate (n - length l) 0

-- two lists have the same elements
unfoldable pub same_list : List ℕ → List ℕ → Bool
same_list [] [] = true
same_list [] (y ∷ ys) = false
same_list (x ∷ xs) [] = false
same_list (x ∷ xs) (y ∷ ys) = eqb x y && same_list xs ys
