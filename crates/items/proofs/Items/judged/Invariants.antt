-- `Items::judged`: the places below i have passed, and the loop has their bits (`Judging`); it ends at the first place that fails, or at the count,
-- where the zeros past it decide.
-- Assumes nothing.
use Rattle.items.proofs.JudgedLaws.{Judging}
use Rattle.items.proofs.Items.judged.Given as goal

abbrev pub invariant-loop-i : goal.invariant-loop-i
invariant-loop-i l = Judging l.self l.i l.low l.masks
