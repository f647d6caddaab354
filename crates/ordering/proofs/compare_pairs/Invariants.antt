-- `compare_pairs` meets its contract. The loop's invariant: the pairs passed are equal; the first that differs decides.
use mathlib.Core.Path.{◌≡◌}
use Rattle.ordering.specs.Orders.{equal}
use Rattle.ordering.proofs.ComparisonLaws.{first_decided, pair_at}
use Rattle.ordering.proofs.compare_pairs.Given as goal

abbrev pub invariant-loop-i : goal.invariant-loop-i
invariant-loop-i l = first_decided (pair_at l.p.sites l.p.letters l.q.sites l.q.letters) l.i ≡ equal
