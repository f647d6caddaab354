-- Both masks of the terms before the place are joined (`BothBelow`).
use lib.ListN.{take}
use Rattle.terms.proofs.KeyedLaws.{All}
use Rattle.open_rows.proofs.MaskedLaws.{BothBelow}
use Rattle.open_rows.proofs.fitting.pairs_fit.Given as goal

abbrev pub invariant-loop-t : goal.invariant-loop-t
invariant-loop-t l = All (BothBelow l.all) (take l.t-index l.t-items)
