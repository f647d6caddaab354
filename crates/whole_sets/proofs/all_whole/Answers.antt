-- Each held term is tested (`all_each`).
use mathlib.Core.Path.{◌∙◌}
use borrow.Author.Tests.{tests}
use Rattle.std.proofs.Common.{rules}
use Rattle.std.proofs.lemmas.Iterator.{YieldsList-from_slice}
use Rattle.std.proofs.lemmas.Iterator.Search.{all_from_yields_List}
use Rattle.complex.specs.Wholes.{both_whole}
use Rattle.complex.specs.declared.Complex.{Complex}
use Rattle.term_sets.specs.Sets.{held_by}
use Rattle.term_sets.specs.declared.Term.{Term}
use Rattle.term_sets.proofs.MaskedLaws.{all_each}
use Rattle.whole_sets.proofs.all_whole.Goals as goal

pub returns : goal.returns
returns g c =
    let whole = λ (t : Term g.row.K.Denot Complex). both_whole t.coefficient in
    let terms = held_by c.args.s.now in
    all_from_yields_List whole _ _ _ c.all.ensures.ran (YieldsList-from_slice terms (c.iter.ensures.rest ∙ c.held.ensures)) (λ x b q k. search (rules, tests)) ∙ all_each whole terms
