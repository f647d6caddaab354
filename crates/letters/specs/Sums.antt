-- Finite sums and products.
use Rattle.std.specs.Prelude.{ℕ, zero, suc, ◌+◌}
use Rattle.letters.specs.Gauss.{G, 𝟘, 𝟙, ◌⊕◌, ◌⊗◌}

-- the sum of f k over k < N
unfoldable pub Σ : ℕ → (ℕ → G) → G
Σ zero f = 𝟘
Σ (suc N) f = Σ N f ⊕ f N

-- the product of g s over s < n
unfoldable pub Π : ℕ → (ℕ → G) → G
Π zero g = 𝟙
Π (suc n) g = g 0 ⊗ Π n (λ s. g (suc s))

-- the sum of the numbers f s over s < n
unfoldable pub total : (ℕ → ℕ) → ℕ → ℕ
total f zero = 0
total f (suc n) = total f n + f n
