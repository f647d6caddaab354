-- Every place holds the blank term.
use mathlib.Core.List.{[]}
use mathlib.Core.Path.{refl, ap}
use lib.ListN.{replicate}
use Rattle.terms.proofs.FilledLaws.{filled_by}
use Rattle.term_sets.specs.declared.Term.{Term}
use Rattle.term_sets.proofs.SetLaws.{sets}
use Rattle.term_sets.proofs.Set.new.Goals as goal

pub returns : goal.returns
returns g c = filled_by (sets g.K.Key.keys g.N.Coefficient.numbers) _ [] refl (ap (λ (t : Term g.row.K.Denot g.row.N.Denot). replicate 64 t) c.blank.ensures)
