-- Each of the places past the count is tested (`all_each`).
use mathlib.Core.Path.{ap, ◌∙◌}
use Prim.Native.Nat.{◌-◌}
use native.Mathlib.Omega.{arith}
use lib.ListN.{length, drop, length-drop}
use lib.Seq.{take_all}
use borrow.Author.Tests.{tests}
use Rattle.std.proofs.Common.{rules}
use Rattle.std.proofs.lemmas.Iterator.{YieldsList-from_slice}
use Rattle.std.proofs.lemmas.Iterator.Search.{all_from_yields_List}
use Rattle.term_sets.specs.Sets.{is_blank}
use Rattle.term_sets.proofs.MaskedLaws.{all_each}
use Rattle.term_sets.proofs.judging.has_blanks_past.Goals as goal

pub returns-clause-past : goal.returns-clause-past
returns-clause-past g c =
    let blank = is_blank g.K.Key.keys g.N.Coefficient.numbers in
    let past = drop c.args.s.now.count c.args.s.now.terms in
    let t = c.places.result.now in
    let rest = take_all (length t - c.args.s.now.count) (drop c.args.s.now.count t) (omega (arith, length-drop c.args.s.now.count t)) in
    all_from_yields_List blank _ _ _ c.all.ensures.ran (YieldsList-from_slice past (c.iter.ensures.rest ∙ rest ∙ ap (drop c.args.s.now.count) c.places.ensures.0)) (λ x b q k. search (rules, tests)) ∙ all_each blank past
