-- What the entries on Hamiltonians answer, refusals first in their order: 0, then 5, then 6.
-- Document 01: pauli_hamiltonian.rs and `Numbers of the no`.
use Rattle.std.specs.Prelude.{Result, not, cond, List, [], Float}
use Rattle.refusal.specs.Refusals.{Said, gives, refuses, done, told_by}
use Rattle.refusal.specs.declared.Refusal.{Refusal}
use Rattle.complex.specs.Complex.{part_in_range}
use Rattle.complex.specs.declared.Complex.{Complex}
use Rattle.items.specs.Record.{valid}
use Rattle.items.specs.declared.Items.{Items}
use Rattle.terms.specs.Setting.{coefficient_at}
use Rattle.terms.specs.Entries.{set_in, add_in}
use Rattle.hamiltonians.specs.declared.PauliHamiltonian.{PauliHamiltonian}
use Rattle.hamiltonians.specs.Reals.{real_terms, complex_of, held_by, filled, valid_set}

unfoldable pub get_real : PauliHamiltonian → Items → Said Complex
get_real s k =
    cond (not (valid_set s)) (refuses 0 [])
    (cond (not (valid k)) (refuses 0 [])
    (gives (complex_of (coefficient_at real_terms k (held_by s)))))

-- the coefficient that was there before, as a list of one; none where the key was free
unfoldable pub set_real : PauliHamiltonian → Items → Float → Said (List Complex) × PauliHamiltonian
set_real s k a =
    cond (not (valid_set s)) (refuses 0 [], s)
    (cond (not (valid k)) (refuses 0 [], s)
    (set_in real_terms part_in_range filled (λ t. complex_of t.coefficient) s (held_by s) k a))

-- "`add_operator_product` sets old plus new"
unfoldable pub add_real : PauliHamiltonian → Items → Float → Said Unit × PauliHamiltonian
add_real s k a =
    cond (not (valid_set s)) (refuses 0 [], s)
    (cond (not (valid k)) (refuses 0 [], s)
    (add_in real_terms part_in_range filled s (held_by s) k a))

-- a Hamiltonian is its own conjugate transpose
unfoldable pub conjugate_real : PauliHamiltonian → Said Unit × PauliHamiltonian
conjugate_real s = cond (not (valid_set s)) (refuses 0 [], s) (done, s)

-- with the Hamiltonian that the caller then has: the answer's, or, refused, the one before
abbrev pub told : PauliHamiltonian → Result PauliHamiltonian Refusal → Said Unit × PauliHamiltonian
told before r = told_by before (λ h. h) r
