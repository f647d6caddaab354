-- The masks of the terms before the place are joined (`LeftBelow`).
use lib.ListN.{take}
use Rattle.terms.proofs.KeyedLaws.{All}
use Rattle.open_rows.proofs.MaskedLaws.{LeftBelow}
use Rattle.open_rows.proofs.fitting.terms_fit.Given as goal

abbrev pub invariant-loop-t : goal.invariant-loop-t
invariant-loop-t l = All (LeftBelow l.all) (take l.t-index l.t-items)
