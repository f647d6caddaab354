-- What a coefficient that number 11 lets pass contributes: in the code's numbers it is what it should be, and small. Assumes nothing.
use Prim.Native.Nat.{ℕ, ◌+◌, ◌≤◌}
use native.Mathlib.Omega.{arith}
use mathlib.Core.Path.{◌≡◌, refl, ap₂}
use mathlib.Core.Bool.{true}
use mathlib.Core.List.{List, [], ◌∷◌, map}
use Rattle.letters.specs.Gauss.{G}
use Rattle.complex.specs.Wholes.{parts_of}
use Rattle.complex.specs.declared.Complex.{Complex}
use Rattle.complex.proofs.WholeLaws.{parts_abs}
use Rattle.master_equation.specs.Numbers.{halves}
use Rattle.master_equation.specs.Contributions.{commutator_terms, noise_terms}
use Rattle.exact_sums.specs.ExactSums.{within, largest_contribution, all_small}
use Rattle.exact_sums.specs.Wrapped.{wrapped}
use Rattle.exact_sums.specs.Exact.{exact_pair}
use Rattle.exact_sums.specs.declared.Halves.{Halves}
use Rattle.exact_sums.proofs.HalfLaws.{number, within_both}
use Rattle.exact_sums.proofs.ExactLaws.{scaled_exact, minus_half_exact, scaled_small, minus_small, small_none, small_cons}
use Rattle.exact_rows.specs.ExactRows.{gauss_of, largest_coefficient}

-- the code's number that a coefficient is
abbrev pub halves_of : Complex → Halves
halves_of c = record { re = parts_of c.re; im = parts_of c.im }

pub gauss_is : (c : Complex) → number (halves_of c) ≡ gauss_of c
unfolding gauss_of
gauss_is c = refl

pub halves_within : (c : Complex) → within largest_coefficient (number (halves_of c)) ≡ true
halves_within c = within_both largest_coefficient (number (halves_of c)) (omega (arith, parts_abs c.re)) (omega (arith, parts_abs c.im))

twice : largest_coefficient + largest_coefficient ≤ largest_contribution
twice = omega arith

-- of a coefficient as the code's number
module _ (c : Halves) (h : within largest_coefficient (number c) ≡ true) where
  scaled : (p : ℕ) → number (wrapped.scaled p c) ≡ halves.scaled p (number c)
  scaled p = scaled_exact largest_coefficient twice c h p

  minus : (p : ℕ) → number (wrapped.minus_half p c) ≡ halves.minus_half p (number c)
  minus p = minus_half_exact largest_coefficient twice c h p

  two_exact : (x y p q : ℕ) → map exact_pair ((x, wrapped.scaled p c) ∷ (y, wrapped.scaled q c) ∷ []) ≡ (x, halves.scaled p (number c)) ∷ (y, halves.scaled q (number c)) ∷ []
  two_exact x y p q = ap₂ (λ (u v : G). (x, u) ∷ (y, v) ∷ []) (scaled p) (scaled q)

  three_exact : (x y z p q r : ℕ) → map exact_pair ((x, wrapped.scaled p c) ∷ (y, wrapped.minus_half q c) ∷ (z, wrapped.minus_half r c) ∷ [])
      ≡ (x, halves.scaled p (number c)) ∷ (y, halves.minus_half q (number c)) ∷ (z, halves.minus_half r (number c)) ∷ []
  three_exact x y z p q r =
      ap₂ (λ (u : G) (l : List (ℕ × G)). (x, u) ∷ l) (scaled p) (ap₂ (λ (v w : G). (y, v) ∷ (z, w) ∷ []) (minus q) (minus r))

  module _ (n k l : ℕ) where
    pub commutator_exact : (f : ℕ → ℕ) → map exact_pair (commutator_terms wrapped n k l f c) ≡ commutator_terms halves n k l f (number c)
    unfolding commutator_terms
    commutator_exact f = two_exact _ _ _ _

    pub noise_exact : (f g : ℕ → ℕ) → map exact_pair (noise_terms wrapped n k l f g c) ≡ noise_terms halves n k l f g (number c)
    unfolding noise_terms
    noise_exact f g = three_exact _ _ _ _ _ _

-- every contribution is small
module _ (c : G) (h : within largest_coefficient c ≡ true) (n k l : ℕ) where
  pub commutator_small : (f : ℕ → ℕ) → all_small (commutator_terms halves n k l f c) ≡ true
  unfolding commutator_terms
  commutator_small f = small_cons _ _ (scaled_small largest_coefficient twice c h _) (small_cons _ _ (scaled_small largest_coefficient twice c h _) small_none)

  pub noise_small : (f g : ℕ → ℕ) → all_small (noise_terms halves n k l f g c) ≡ true
  unfolding noise_terms
  noise_small f g =
      small_cons _ _ (scaled_small largest_coefficient twice c h _)
      (small_cons _ _ (minus_small largest_coefficient twice c h _) (small_cons _ _ (minus_small largest_coefficient twice c h _) small_none))
