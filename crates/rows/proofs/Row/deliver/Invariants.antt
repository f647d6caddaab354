-- The parts of the entries so far are laid.
use Rattle.rows.proofs.DeliveryLaws.{Laid}
use Rattle.rows.proofs.Row.deliver.Given as goal

abbrev pub invariant-loop-i : goal.invariant-loop-i
invariant-loop-i g l = Laid g.V.Parts.parts l.entries l.initial.out_columns l.out_columns l.initial.out_re l.out_re l.initial.out_im l.out_im l.i
