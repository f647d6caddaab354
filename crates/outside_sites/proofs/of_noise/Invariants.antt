-- No term before the index has a site at `spins` or above on a side.
use Rattle.std.proofs.Common.{◌≡◌, drop}
use Rattle.terms.specs.Keyed.{concat_map}
use Rattle.rows.specs.Calls.{outside}
use Rattle.noise_sets.specs.Pairs.{sides}
use Rattle.outside_sites.proofs.of_noise.Given as goal

abbrev pub invariant-loop-t : goal.invariant-loop-t
invariant-loop-t l = outside l.spins (concat_map sides l.t-items) ≡ outside l.spins (concat_map sides (drop l.t-index l.t-items))
