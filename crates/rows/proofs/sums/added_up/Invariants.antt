-- What is stored, and the sum begun, with the entries left, are all added up (`Summing`).
use Rattle.rows.proofs.SumLaws.{Summing}
use Rattle.rows.proofs.sums.added_up.Given as goal

abbrev pub invariant-loop-at : goal.invariant-loop-at
invariant-loop-at g l = Summing g.V.Number.numbers.sum l.es l.places l.rest l.out.items l.last l.at-index
