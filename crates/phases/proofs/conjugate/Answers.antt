-- `phases::conjugate`: the letters stay, and the closure gives the power of each.
-- Assumes nothing.
use Rattle.std.proofs.Common.{◌≡◌, arith, rules}
use Rattle.letters.specs.Matrices.{letters_of}
use Rattle.letters.specs.Single.{power_of, conjugated}
use Rattle.phases.proofs.ChangeLaws.{conjugate_keeps, power_lt, unwrapped, powers_told, conjugate_done}
use Rattle.phases.proofs.conjugate.Goals as goal

pub total_power-power-requires : goal.total_power-power-requires
total_power-power-requires c =
    let keeps = conjugate_keeps c.args.kind in
    record {
      can = λ l h. search (rules, unwrapped);
      small = λ l r h k. let e : r ≡ power_of (conjugated (letters_of c.args.kind) l) = search (rules, powers_told) in omega (arith, power_lt keeps l h);
    }

pub returns : goal.returns
returns c =
    let e = c.total_power-power.ensures (λ l. power_of (conjugated (letters_of c.args.kind) l)) (conjugate_keeps c.args.kind).none (λ l r h k. search (rules, powers_told)) in
    rw (← c.in_ok-valid.ensures) (conjugate_done _ _ _ c.in_ok-valid.valid.is_valid e)
