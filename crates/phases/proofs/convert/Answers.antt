-- `phases::convert`: the letters stay, and the closure gives the power of each.
-- Assumes nothing.
use Rattle.std.proofs.Common.{◌≡◌, arith, rules}
use Rattle.letters.specs.Matrices.{letters_of}
use Rattle.letters.specs.Single.{power_of, converted}
use Rattle.letters.specs.Answers.{other}
use Rattle.phases.proofs.ChangeLaws.{convert_keeps, power_lt, unwrapped, powers_told, convert_done}
use Rattle.phases.proofs.convert.Goals as goal

pub total_power-power-requires : goal.total_power-power-requires
total_power-power-requires c =
    let keeps = convert_keeps c.args.kind in
    record {
      can = λ l h. search (rules, unwrapped);
      small = λ l r h k. let e : r ≡ power_of (converted (letters_of c.args.kind) (letters_of (other c.args.kind)) l) = search (rules, powers_told) in omega (arith, power_lt keeps l h);
    }

pub returns : goal.returns
returns c =
    let e = c.total_power-power.ensures (λ l. power_of (converted (letters_of c.args.kind) (letters_of (other c.args.kind)) l)) (convert_keeps c.args.kind).none (λ l r h k. search (rules, powers_told)) in
    rw (← c.in_ok-valid.ensures) (convert_done _ _ _ c.in_ok-valid.valid.is_valid e)
