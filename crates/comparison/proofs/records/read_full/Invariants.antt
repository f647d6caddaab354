-- The bytes read stay within the buffer, and each read that goes on gave some. Assumes nothing.
use Prim.Native.Nat.{◌≤◌, ◌-◌}
use Rattle.std.proofs.Common.{length}
use Rattle.comparison.proofs.records.read_full.Given as goal

abbrev pub invariant-loop-done : goal.invariant-loop-done
invariant-loop-done l = l.done ≤ length l.buffer

abbrev pub decreases-loop-done : goal.decreases-loop-done
decreases-loop-done l = length l.buffer - l.done
