-- `Items::masks`: the loop holds the bits of the places below i (`Masked`).
-- Assumes nothing.
use native.Mathlib.Omega.{arith}
use borrow.Author.Rules.{rules}
use Rattle.items.proofs.MaskLaws.{masked_none, masked_more, masked_done}
use Rattle.items.proofs.Items.masks.Goals as goal

pub loop-i-init : goal.loop-i-init
loop-i-init c = masked_none (omega arith)

pub loop-i-preserved : goal.loop-i-preserved
loop-i-preserved c = masked_more c.loop-i.invariant (omega arith) c.bits_at-x.ensures

pub returns : goal.returns
returns c = masked_done _ (search rules) c.loop-i.invariant (omega arith)
