-- `merge::merged`: every site below the last one taken is done; the places that are left become fewer with each step.
-- Assumes nothing.
use Prim.Native.Nat.{◌+◌, ◌-◌}
use Rattle.letters.specs.Matrices.{letters_of}
use Rattle.merging.proofs.MergeLaws.{Merging}
use Rattle.merging.proofs.merge.merged.Given as goal

abbrev pub invariant-loop-i : goal.invariant-loop-i
invariant-loop-i l = Merging (letters_of l.kind) l.p l.q l.i l.j l.count l.sites l.letters l.power

abbrev pub decreases-loop-i : goal.decreases-loop-i
decreases-loop-i l = l.p.count + l.q.count - (l.i + l.j)
