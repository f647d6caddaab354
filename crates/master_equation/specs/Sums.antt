-- What a list of contributions gives at a column: its numbers in order, their sum from left to right, and over whole numbers their sum.
use Rattle.std.specs.Prelude.{ℕ, suc, ◌≤◌, ◌<◌, Bool, false, ◌||◌, cond, List, [], ◌∷◌, eqb}
use Rattle.letters.specs.Gauss.{G, 𝟘, ◌⊕◌}

-- ---- over any numbers

-- the columns ascend strictly, from i on
unfoldable pub Ascending : {N : Type 0} → ℕ → List (ℕ × N) → Type 0
Ascending i [] = Unit {0}
Ascending i (x ∷ xs) = (i ≤ x.0) × Ascending (suc x.0) xs

-- every column is below d
unfoldable pub Below : {N : Type 0} → ℕ → List (ℕ × N) → Type 0
Below d [] = Unit {0}
Below d (x ∷ xs) = (x.0 < d) × Below d xs

-- c is one of the columns
unfoldable pub has_column : {N : Type 0} → ℕ → List (ℕ × N) → Bool
has_column c [] = false
has_column c (x ∷ xs) = eqb c x.0 || has_column c xs

-- the contributions to column c, in order
unfoldable pub contributions_to : {N : Type 0} → ℕ → List (ℕ × N) → List N
contributions_to c [] = []
contributions_to c (x ∷ xs) = let r = contributions_to c xs in cond (eqb c x.0) (x.1 ∷ r) r

-- a sum that starts with its first number and adds the rest in order
unfoldable pub ordered_sum : {N : Type 0} → (N → N → N) → N → List N → N
ordered_sum sum first [] = first
ordered_sum sum first (x ∷ xs) = ordered_sum sum (sum first x) xs

-- the numbers of one column as one number: none where there are none
unfoldable pub sum_if_any : {N : Type 0} → (N → N → N) → List N → List N
sum_if_any sum [] = []
sum_if_any sum (x ∷ xs) = ordered_sum sum x xs ∷ []

-- ---- over whole numbers

-- what one contribution gives at column c
abbrev pub part_at : ℕ → ℕ × G → G
part_at c x = cond (eqb c x.0) x.1 𝟘

-- the sum of the contributions to column c
unfoldable pub sum_at : ℕ → List (ℕ × G) → G
sum_at c [] = 𝟘
sum_at c (x ∷ xs) = part_at c x ⊕ sum_at c xs

-- the number at column c of a row, 0 where there is none
unfoldable pub value_at : ℕ → List (ℕ × G) → G
value_at c [] = 𝟘
value_at c (x ∷ xs) = cond (eqb c x.0) x.1 (value_at c xs)
