-- `finished`: every coefficient is judged (`all_each`).
use Rattle.std.proofs.Common.{◌∙◌, rules}
use borrow.Author.Tests.{tests}
use Rattle.std.proofs.lemmas.Iterator.{YieldsList-from_slice}
use Rattle.std.proofs.lemmas.Iterator.Search.{all_from_yields_List}
use Rattle.term_sets.proofs.MaskedLaws.{all_each}
use Rattle.term_sets.specs.Sets.{held_by}
use Rattle.term_writing.proofs.EntryLaws.{finish_in, finish_out}
use Rattle.term_writing.proofs.adding.Adding.finished.Goals as goal

pub returns-then-all : goal.returns-then-all
returns-then-all g c =
    let l = held_by c.args.self.set in
    finish_in g.K.Key.keys g.N.Coefficient.numbers l c.all.result
    (all_from_yields_List (λ t. g.N.Coefficient.numbers.in_range t.coefficient) _ _ _ c.all.ensures.ran (YieldsList-from_slice l (c.iter.ensures.rest ∙ c.held.ensures)) (λ x b q k. search (rules, tests)) ∙ all_each _ l)
    c.if-all.true _ c.args.self.numbered.own

pub returns : goal.returns
returns g c =
    let l = held_by c.args.self.set in
    finish_out g.K.Key.keys g.N.Coefficient.numbers l c.all.result
    (all_from_yields_List (λ t. g.N.Coefficient.numbers.in_range t.coefficient) _ _ _ c.all.ensures.ran (YieldsList-from_slice l (c.iter.ensures.rest ∙ c.held.ensures)) (λ x b q k. search (rules, tests)) ∙ all_each _ l)
    c.if-all.false
