-- The premises of condition 3 can be met: the list of calls that makes the system of document 01's program `worked`, Hamiltonian 3·Z0 with
-- noise (X0, X0), 2, meets them for n = 1. By computation.
-- Assumes nothing.
use Prim.Native.Nat.{ℕ}
use native.Mathlib.Omega.{arith}
use mathlib.Core.Path.{◌≡◌, refl, sym, subst}
use mathlib.Core.List.{List, [], ◌∷◌}
use lib.IntN.{pos}
use lib.Ieee.{Float, binary64, of_int, of_bits, eq}
use Rattle.letters.specs.Tests.{every}
use Rattle.complex.specs.Complex.{is_zero, in_range}
use Rattle.complex.specs.Wholes.{both_whole}
use Rattle.items.specs.Lists.{padded}
use Rattle.items.specs.Record.{capacity, in_shape, place_valid, valid, reach}
use Rattle.items.specs.declared.Items.{Items}
use Rattle.terms.specs.Keyed.{each}
use Rattle.condition3.specs.Runs.{run}
use Rattle.condition3.specs.Calls.{Call, set_hamiltonian, set_noise}
use Rattle.condition3.specs.ReferenceModel.{real_part, replace_or_append, write_line, unless_full, lines_in_range, unless_refused, lawful_term, lawful_pair, noted, model_after}
use Rattle.condition3.specs.Condition3.{Premises}

-- the product with one letter on spin 0
abbrev on_spin0 : ℕ → Items
on_spin0 letter = record { count = 1; sites = padded capacity (0 ∷ []); letters = padded capacity (letter ∷ []) }

abbrev X0 : Items
X0 = on_spin0 1

abbrev Z0 : Items
Z0 = on_spin0 3

abbrev number : ℕ → Float
number k = of_int binary64 (pos k)

abbrev pub worked : List Call
worked = set_hamiltonian Z0 (number 3) ∷ set_noise (X0, X0) (real_part (number 2)) ∷ []

-- both calls are accepted: each leaves its line
pub worked_lines : model_after worked ≡ record { hamiltonian = (Z0, real_part (number 3)) ∷ []; noise = ((X0, X0), real_part (number 2)) ∷ [] }
unfolding model_after run noted unless_refused unless_full lines_in_range write_line replace_or_append lawful_term lawful_pair is_zero in_range eq of_int of_bits valid in_shape every place_valid padded
worked_lines = refl

pub premises_met : Premises 1 (model_after worked)
unfolding each reach both_whole of_int of_bits padded
premises_met =
    subst (Premises 1) (sym worked_lines)
    (record {
      deliverable = record { spins = omega arith; hamiltonian_sites = refl; noise_sites = refl; hamiltonian_whole = refl; noise_whole = refl };
      no_empty_product = refl;
    })
