-- `tables::convert_power` meets its contract by the codes that the matrices give: letter 2 for each kind, and the others.
-- Assumes nothing.
use native.Mathlib.Omega.{arith}
use Rattle.letters.specs.declared.Kind.TheVariants.{Pauli, Decoherence}
use Rattle.letters.proofs.Codes.{convert_codes, converted_code, parts}
use Rattle.letters.proofs.tables.convert_power.Goals as goal

pub returns-in-Pauli-eq2 : goal.returns-in-Pauli-eq2
unfolding convert_codes
returns-in-Pauli-eq2 c = rw (c.in-Pauli-eq2.is-0, c.in-Pauli-eq2.is-1) (parts (converted_code Pauli 2 (omega arith)))

pub returns-in-Decoherence-eq2 : goal.returns-in-Decoherence-eq2
unfolding convert_codes
returns-in-Decoherence-eq2 c = rw (c.in-Decoherence-eq2.is-0, c.in-Decoherence-eq2.is-1) (parts (converted_code Decoherence 2 (omega arith)))
