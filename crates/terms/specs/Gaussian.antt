-- Sets of terms over Gaussian integers, in which the theorems on matrices are said, and the sums that such a set stands for.
use Rattle.std.specs.Prelude.{Bool, List, [], ◌∷◌}
use Rattle.letters.specs.Gauss.{G, 𝟘, ◌⊕◌, ◌⊗◌, conj, i^, eq_G}
use Rattle.terms.specs.Kind.{Terms, Products}

-- a term is its key with its coefficient
abbrev pub gaussian : (K : Type 0) → (K → K → Bool) → Terms K G
gaussian K same =
    record {
      Term = K × G;
      term = λ k a. (k, a);
      key = λ t. t.0;
      coefficient = λ t. t.1;
      same = same;
      zero = 𝟘;
      sum = ◌⊕◌;
      is_zero = λ a. eq_G a 𝟘;
    }

abbrev pub gaussian_products : Products G
gaussian_products = record { product = ◌⊗◌; conjugate = conj; unit = i^ }

-- the sum of f over a list
unfoldable pub summed : {A : Type 0} → (A → G) → List A → G
summed f [] = 𝟘
summed f (x ∷ xs) = f x ⊕ summed f xs

-- the sum over the terms of coefficient times the key's value
abbrev pub weighted : {K : Type 0} → (K → G) → List (K × G) → G
weighted φ l = summed (λ t. t.1 ⊗ φ t.0) l
