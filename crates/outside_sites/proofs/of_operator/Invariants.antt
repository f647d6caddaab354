-- No term before the index has a site at `spins` or above.
use Rattle.std.proofs.Common.{◌≡◌, drop}
use Rattle.terms.specs.Keyed.{concat_map}
use Rattle.rows.specs.Calls.{outside}
use Rattle.outside_sites.proofs.OutsideLaws.{product}
use Rattle.outside_sites.proofs.of_operator.Given as goal

abbrev pub invariant-loop-t : goal.invariant-loop-t
invariant-loop-t l = outside l.spins (concat_map product l.t-items) ≡ outside l.spins (concat_map product (drop l.t-index l.t-items))
