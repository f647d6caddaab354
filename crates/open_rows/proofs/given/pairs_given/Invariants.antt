-- The contributions of the terms before the place are there (`Turns`).
use mathlib.Core.List.{[]}
use Rattle.rows.specs.Entries.{contributions_of}
use Rattle.contributions.proofs.TurnLaws.{Turns}
use Rattle.open_rows.proofs.HandedLaws.{noise_given}
use Rattle.open_rows.proofs.given.pairs_given.Given as goal

abbrev pub invariant-loop-t : goal.invariant-loop-t
invariant-loop-t l = Turns (noise_given l.spins l.row) l.t-items [] (contributions_of l.all) l.t-index
