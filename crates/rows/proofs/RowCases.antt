-- Rows beside the marked cases, computed: a commutator row of Y in whole numbers, counted in halves, and in f64, and exact rows. n = 1.
-- Assumes nothing.
use Prim.Native.Nat.{ℕ}
use mathlib.Core.Path.{◌≡◌, refl}
use mathlib.Core.Bool.{true, false}
use mathlib.Core.List.{List, [], ◌∷◌, ◌++◌}
use lib.IntN.{pos, negsuc}
use lib.Ieee.{Float, fin, of_bits, add, sub, mul, neg, eq}
use Rattle.complex.specs.Complex.{sum_of, product_of, unit_of, unit_of_I, is_zero}
use Rattle.complex.specs.declared.Complex.{Complex}
use Rattle.letters.specs.Tests.{first_from}
use Rattle.letters.specs.Gauss.{𝟘, 𝟙, −𝟙, i⁺, i⁻, ◌⊕◌, ◌⊗◌, i^, eqℤ, eq_G}
use Rattle.letters.specs.Sums.{total}
use Rattle.letters.specs.Matrices.{two_by_two, pauli, decoherence, bit}
use Rattle.letters.specs.Single.{cell}
use Rattle.letters.specs.Rows.{column_of, row_power}
use Rattle.master_equation.specs.Equation.{𝟚}
use Rattle.rows.specs.Placing.{placed, place_all, row_of, nonzero, kept_by, row_in}
use Rattle.master_equation.specs.Numbers.{Numbers, halves}
use Rattle.rows.specs.Floats.{floats}
use Rattle.master_equation.specs.Contributions.{commutator_terms, noise_terms}

-- row 0 of the commutator with Y on the spin
abbrev row_of_Y : {C N : Type 0} → Numbers C N → C → List (ℕ × N)
row_of_Y A c = row_in A false (commutator_terms A 1 0 0 (λ s. 2) c)

-- 1 Y0: row 0 has -1 in columns 1 and 2, since Y is not its own transpose
one_y : row_of_Y halves (record { re = pos 1; im = pos 0 }) ≡ (1, record { re = negsuc 1; im = pos 0 }) ∷ (2, record { re = negsuc 1; im = pos 0 }) ∷ []
unfolding row_in kept_by row_of place_all placed nonzero commutator_terms column_of row_power total bit cell first_from eq_G eqℤ pauli two_by_two i^ ◌⊗◌ ◌⊕◌ 𝟘 𝟙 −𝟙 𝟚 i⁺ i⁻
one_y = refl

-- ---- exact rows

-- (Z0, Z0), 1: the zero of row 0 is left out
z_z_exact : row_in halves false (noise_terms halves 1 0 0 (λ s. 3) (λ s. 3) (record { re = pos 1; im = pos 0 })) ≡ []
unfolding row_in kept_by row_of place_all placed nonzero noise_terms column_of row_power total bit cell first_from eq_G eqℤ decoherence two_by_two i^ ◌⊗◌ ◌⊕◌ 𝟘 𝟙 −𝟙 𝟚 i⁺ i⁻
z_z_exact = refl

-- 3 Z0 with (X0, X0), 2: row 1 has -4 - 12 i in column 1 and 4 in column 2
worked_row : row_in halves false (commutator_terms halves 1 0 1 (λ s. 3) (record { re = pos 3; im = pos 0 }) ++ noise_terms halves 1 0 1 (λ s. 1) (λ s. 1) (record { re = pos 2; im = pos 0 }))
    ≡ (1, record { re = negsuc 3; im = negsuc 11 }) ∷ (2, record { re = pos 4; im = pos 0 }) ∷ []
unfolding row_in kept_by row_of place_all placed nonzero commutator_terms noise_terms column_of row_power total bit cell first_from eq_G eqℤ pauli decoherence two_by_two i^ ◌⊗◌ ◌⊕◌ 𝟘 𝟙 −𝟙 𝟚 i⁺ i⁻
worked_row = refl

-- ---- in f64

-- the real number x
abbrev real : Float → Complex
real x = record { re = x; im = fin false 0 (pos 0) }

float_one_y : row_of_Y floats (real (fin false 1 (pos 0))) ≡ (1, real (fin true 1 (pos 0))) ∷ (2, real (fin true 1 (pos 0))) ∷ []
unfolding row_in kept_by row_of place_all placed nonzero commutator_terms column_of row_power total bit cell first_from eq_G eqℤ pauli two_by_two i^ ◌⊗◌ 𝟘 𝟙 −𝟙 i⁺ i⁻ sum_of product_of unit_of unit_of_I is_zero add sub mul neg eq of_bits
float_one_y = refl
