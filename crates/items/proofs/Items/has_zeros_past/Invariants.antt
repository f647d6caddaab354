-- `Items::has_zeros_past`: the loop has together the bits of all sites past the count and below i, and those of the letters; at the end they tell.
-- Assumes nothing.
use Rattle.items.proofs.RecordLaws.{Zeros}
use Rattle.items.proofs.Items.has_zeros_past.Given as goal

abbrev pub invariant-loop-i : goal.invariant-loop-i
invariant-loop-i l = Zeros l.self.count l.self.sites l.self.letters l.i l.site_bits l.letter_bits
