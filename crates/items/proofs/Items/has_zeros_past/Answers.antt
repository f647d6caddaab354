-- `Items::has_zeros_past`: the loop has together the bits of all sites past the count and below i, and those of the letters; at the end they tell.
-- Assumes nothing.
use native.Mathlib.Omega.{arith}
use Rattle.items.proofs.RecordLaws.{zeros_more, zeros_done}
use Rattle.items.proofs.Items.has_zeros_past.Goals as goal

pub loop-i-preserved : goal.loop-i-preserved
loop-i-preserved c = zeros_more c.loop-i.invariant (omega arith)

pub returns : goal.returns
returns c = zeros_done c.loop-i.invariant (omega arith)
