-- `Items::masks`: the loop holds the bits of the places below i (`Masked`).
-- Assumes nothing.
use Rattle.items.proofs.MaskLaws.{Masked}
use Rattle.items.proofs.Items.masks.Given as goal

abbrev pub invariant-loop-i : goal.invariant-loop-i
invariant-loop-i l = Masked l.self.sites l.self.letters l.i-end l.i l.x
