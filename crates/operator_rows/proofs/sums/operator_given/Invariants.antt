-- All are the contributions of the terms before the place of t (`Turns`).
use Rattle.std.proofs.Common.{[]}
use Rattle.letters.specs.Matrices.{pauli}
use Rattle.rows.specs.Floats.{floats}
use Rattle.rows.specs.Entries.{contributions_of}
use Rattle.contributions.proofs.TurnLaws.{Turns}
use Rattle.contributions.proofs.ValueLaws.{operator_found}
use Rattle.operator_rows.proofs.sums.operator_given.Given as goal

abbrev pub invariant-loop-t : goal.invariant-loop-t
invariant-loop-t l = Turns (operator_found floats (λ a. a) l.spins l.row pauli) l.t-items [] (contributions_of l.all) l.t-index
