-- `new`: the empty set, with no numbers that count.
use Rattle.std.proofs.Common.{arith, refl, []}
use Rattle.terms.proofs.FilledLaws.{held-from}
use Rattle.term_sets.proofs.SetLaws.{sets}
use Rattle.term_writing.proofs.NumberLaws.{numbered_by}
use Rattle.term_writing.proofs.adding.Adding.new.Goals as goal

pub invariant_of-result : goal.invariant_of-result
invariant_of-result g c =
    record { numbered = numbered_by g.K.Key.keys g.N.Coefficient.numbers c.new.result _ [] c.new.ensures (omega arith) refl refl }

pub returns : goal.returns
returns g c = held-from (sets g.K.Key.keys g.N.Coefficient.numbers) c.new.result [] c.new.ensures
