-- Zero where the key is free (`coefficient_by`).
use Rattle.term_sets.specs.Sets.{held_by}
use Rattle.term_sets.proofs.FoundLaws.{coefficient_by}
use Rattle.term_sets.proofs.Set.coefficient_at.Goals as goal

pub returns : goal.returns
returns g c =
    rw (c.unwrap_or.ensures, c.zero.ensures)
    (coefficient_by g.K.Key.keys g.N.Coefficient.numbers c.args.key.now (held_by c.args.self.now) c.coefficient_of.result c.coefficient_of.ensures)
