-- `phases::total_power`: after i places the sum is that of the sites below a bound between two places; free sites give none.
-- Assumes nothing.
use Rattle.std.proofs.Common.{◌≡◌, ℕ, ◌<◌}
use Rattle.phases.proofs.ChangeLaws.{Powers}
use Rattle.phases.proofs.total_power.Given as goal

abbrev pub invariant-loop-i : goal.invariant-loop-i
invariant-loop-i g l =
    (l.sum < 4)
    × ((power : ℕ → ℕ) → power 0 ≡ 0 → ((x r : ℕ) → x < 4 → goal.F-post g l.power_of_letter x r → r ≡ power x) → Powers power l.p.items l.i l.sum)
