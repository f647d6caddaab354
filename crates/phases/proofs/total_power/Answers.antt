-- `phases::total_power`: after i places the sum is that of the sites below a bound between two places; free sites give none.
-- Assumes nothing.
use Rattle.std.proofs.Common.{◌<◌, arith, of_calls, rules}
use Rattle.items.specs.Lists.{at}
use Rattle.items.proofs.RecordLaws.{place_fits}
use Rattle.phases.proofs.ChangeLaws.{letter_lt, powers_none, powers_more, powers_done}
use Rattle.phases.proofs.total_power.Goals as goal

pub loop-i-init : goal.loop-i-init
loop-i-init g c = (omega arith, λ power none gives. powers_none _ _)

pub bounds-p-i : goal.bounds-p-i
bounds-p-i g c = place_fits _ _ c.args.p.now.is_valid c.loop-i-test.true

pub power_of_letter-requires : goal.power_of_letter-requires
power_of_letter-requires g c =
    let known : at c.args.p.now.items.letters c.loop-i.i < 4 = letter_lt _ c.args.p.now.is_valid _ c.loop-i-test.true in
    search rules

pub overflow_add-sum : goal.overflow_add-sum
overflow_add-sum g c =
    let known : at c.args.p.now.items.letters c.loop-i.i < 4 = letter_lt _ c.args.p.now.is_valid _ c.loop-i-test.true in
    let small : c.power_of_letter.result < 4 = search rules in
    omega (arith, c.loop-i.invariant.0)

pub loop-i-preserved : goal.loop-i-preserved
loop-i-preserved g c =
    let known = letter_lt _ c.args.p.now.is_valid _ c.loop-i-test.true in (
      omega arith,
      λ power none gives. powers_more power _ c.args.p.now.is_valid none (c.loop-i.invariant.1 power none gives) c.loop-i-test.true (gives _ _ known (search of_calls)),
    )

pub returns : goal.returns
returns g c = λ power none gives. powers_done power _ c.args.p.now.is_valid none (c.loop-i.invariant.1 power none gives) c.loop-i-test.false
