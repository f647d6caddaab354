-- The refusals of a product's row, with document 01's examples, by computation.
-- Assumes nothing.
use mathlib.Core.Path.{◌≡◌, refl}
use mathlib.Core.List.{List, [], ◌∷◌}
use Prim.Native.Nat.{ℕ, ◌^◌}
use lib.ListN.{length}
use Rattle.refusal.specs.Refusals.{refuses}
use Rattle.letters.specs.Tests.{every}
use Rattle.letters.specs.Matrices.{letters_of}
use Rattle.letters.specs.declared.Kind.TheVariants.{Pauli, Decoherence}
use Rattle.items.specs.Lists.{padded}
use Rattle.items.specs.Record.{capacity, place_valid, in_shape, valid, reach}
use Rattle.row_entries.specs.Answers.{row_answer}
use Rattle.items.specs.declared.Items.{Items}

-- the record with these sites and letters
abbrev pub product : List ℕ → List ℕ → Items
product sites letters = record { count = length sites; sites = padded capacity sites; letters = padded capacity letters }

-- 0iY
abbrev pub one : Items
one = product (0 ∷ []) (2 ∷ [])

-- 32 spins are too many
pub spins_refused : row_answer (letters_of Decoherence) one 32 0 ≡ refuses 7 []
unfolding padded valid in_shape place_valid row_answer every
spins_refused = refl

-- one spin has no row 2
pub range_refused : row_answer (letters_of Decoherence) one 1 2 ≡ refuses 9 []
unfolding padded valid in_shape place_valid row_answer every
range_refused = refl

-- 0X8X does not fit 8 spins
pub site_refused : row_answer (letters_of Pauli) (product (0 ∷ 8 ∷ []) (1 ∷ 1 ∷ [])) 8 0 ≡ refuses 8 (8 ∷ [])
unfolding padded valid in_shape place_valid row_answer reach every
site_refused = refl

-- 0X8X over 32 spins in row 2^40, which 32 spins do not have: 7 before 9
pub spins_first : row_answer (letters_of Pauli) (product (0 ∷ 8 ∷ []) (1 ∷ 1 ∷ [])) 32 (2 ^ 40) ≡ refuses 7 []
unfolding padded valid in_shape place_valid row_answer reach every
spins_first = refl

-- 0X8X over one spin in row 2: 9 before 8
pub row-before_site : row_answer (letters_of Pauli) (product (0 ∷ 8 ∷ []) (1 ∷ 1 ∷ [])) 1 2 ≡ refuses 9 []
unfolding padded valid in_shape place_valid row_answer reach every
row-before_site = refl
