-- The f64 numbers that coefficients are multiplied by are the powers of i, and -1/2 times them. Assumes nothing.
use Prim.Native.Nat.{ℕ, zero, suc, ◌%◌, ◌<◌}
use native.Mathlib.Nat.{mod-lt}
use native.Mathlib.Omega.{arith}
use mathlib.Core.Path.{◌≡◌, refl, ap, ◌∙◌}
use lib.Ieee.{binary64, of_bits, of_int, add, mul}
use Rattle.complex.specs.Complex.{sum_of, unit_of, unit_of_I}
use Rattle.complex.specs.declared.Complex.{Complex}
use Rattle.letters.specs.Gauss.{𝟘, 𝟙, −𝟙, i⁺, ◌⊗◌, i^}
use Rattle.letters.proofs.GaussLaws.{i^_mod}
use Rattle.rows.specs.HalfUnits.{minus_half_float, minus_half_unit}
use Rattle.rows.specs.Floats.{in_floats}

-- the unit of a power is i to that power, in chains as in rows
pub unit_exact : (k : ℕ) → unit_of_I k ≡ in_floats (i^ k)
unfolding unit_of_I unit_of of_bits of_int i^ ◌⊗◌ i⁺ 𝟙
unit_exact k = go (k % 4) (mod-lt k (omega arith)) ∙ ap in_floats (i^_mod k)
  where
    go : (j : ℕ) → j < 4 → unit_of j ≡ in_floats (i^ j)
    go zero h = refl
    go (suc zero) h = refl
    go (suc (suc zero)) h = refl
    go (suc (suc (suc zero))) h = refl
    go (suc (suc (suc (suc j)))) h = absurd (omega arith)

-- the half unit doubled is -i^k; adding +0 makes its -0 into +0, and leaves every other number
pub minus_half_exact : (k : ℕ) → sum_of (sum_of (minus_half_unit k) (minus_half_unit k)) (in_floats 𝟘) ≡ in_floats (−𝟙 ⊗ i^ k)
unfolding minus_half_unit unit_of_I unit_of sum_of of_bits of_int add mul i^ ◌⊗◌ i⁺ −𝟙 𝟙 𝟘
minus_half_exact k = go (k % 4) (mod-lt k (omega arith)) ∙ ap (λ z. in_floats (−𝟙 ⊗ z)) (i^_mod k)
  where
    half : ℕ → Complex
    half j = record { re = mul binary64 minus_half_float (unit_of j).re; im = mul binary64 minus_half_float (unit_of j).im }

    go : (j : ℕ) → j < 4 → sum_of (sum_of (half j) (half j)) (in_floats 𝟘) ≡ in_floats (−𝟙 ⊗ i^ j)
    go zero h = refl
    go (suc zero) h = refl
    go (suc (suc zero)) h = refl
    go (suc (suc (suc zero))) h = refl
    go (suc (suc (suc (suc j)))) h = absurd (omega arith)
