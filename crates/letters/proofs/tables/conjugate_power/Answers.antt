-- `tables::conjugate_power` meets its contract by the codes that the matrices give: iY, and the letters that keep their power.
-- Assumes nothing.
use native.Mathlib.Omega.{arith}
use Rattle.letters.specs.declared.Kind.TheVariants.{Decoherence}
use Rattle.letters.proofs.Codes.{conjugate_codes, conjugated_code, parts}
use Rattle.letters.proofs.tables.conjugate_power.Goals as goal

pub returns-in-Decoherence-eq2 : goal.returns-in-Decoherence-eq2
unfolding conjugate_codes
returns-in-Decoherence-eq2 c = rw (c.in-Decoherence-eq2.is-0, c.in-Decoherence-eq2.is-1) (parts (conjugated_code Decoherence 2 (omega arith)))
