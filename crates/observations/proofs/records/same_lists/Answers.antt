-- `same_lists` compares the lengths, and then place by place. Assumes nothing.
use Rattle.std.proofs.Common.{◌≡◌, ◌∙◌, rules, ne_eqb}
use Rattle.std.proofs.lemmas.Iterator.{YieldsList-from_slice, YieldsList-from_zip}
use Rattle.std.proofs.lemmas.Iterator.Search.{all_from_yields_List}
use Rattle.observations.proofs.SameLaws.{same_zip, lengths_differ}
use Rattle.observations.proofs.records.same_lists.Goals as goal

pub returns-then-xs-ys : goal.returns-then-xs-ys
returns-then-xs-ys g c =
    let same = g.T.Same.same c.args.to_the_bit in
    all_from_yields_List (λ p. same p.0 p.1) c.all.new.self _ _ c.all.ensures.ran
    (YieldsList-from_zip (YieldsList-from_slice c.args.xs.now (cc)) (YieldsList-from_slice c.args.ys.now (cc)))
    (λ x b q k. search rules)
    ∙ same_zip same c.args.xs.now c.args.ys.now c.if-xs-ys.true

pub returns-else-xs-ys : goal.returns-else-xs-ys
returns-else-xs-ys g c = ne_eqb _ _ c.if-xs-ys.false ∙ lengths_differ (g.T.Same.same c.args.to_the_bit) c.args.xs.now c.args.ys.now c.if-xs-ys.false
