-- As many places as turns, each with the number that stands there before a call.
use Rattle.std.proofs.Common.{replicate, ◌≡◌}
use Rattle.observations.proofs.buffers.unwritten.Given as goal

abbrev pub invariant-loop : goal.invariant-loop
invariant-loop g l = l.places.items ≡ replicate l.counter g.T.Lent.OLD
