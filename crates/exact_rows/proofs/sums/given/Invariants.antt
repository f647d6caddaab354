-- All are the contributions of the terms before the place of t (`Turns`); the pairs' come after those of the Hamiltonian.
use Rattle.std.proofs.Common.{[]}
use Rattle.rows.specs.Entries.{contributions_of}
use Rattle.contributions.proofs.TurnLaws.{Turns}
use Rattle.exact_rows.proofs.SumLaws.{hamiltonian_part, pair_part}
use Rattle.exact_rows.proofs.sums.given.Given as goal

abbrev pub invariant-loop-t : goal.invariant-loop-t
invariant-loop-t l = Turns (hamiltonian_part l.spins l.row) l.t-items [] (contributions_of l.all) l.t-index

abbrev pub invariant-loop-t-2 : goal.invariant-loop-t-2
invariant-loop-t-2 l = Turns (pair_part l.spins l.row) l.t-items (contributions_of l.initial.all) (contributions_of l.all) l.t-index
