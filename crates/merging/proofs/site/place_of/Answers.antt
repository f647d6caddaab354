-- `site::place_of`: the places before the one found have lower sites.
-- Assumes nothing.
use Rattle.std.proofs.Common.{◌≤◌, ◌<◌, ◌∙◌, rules}
use Rattle.std.proofs.lemmas.Iterator.{YieldsList-from_slice, YieldsList-from_take, IsFirst-from_position}
use borrow.Author.Tests.{tests}
use Rattle.merging.proofs.FindLaws.{place_searched}
use Rattle.merging.proofs.site.place_of.Goals as goal

pub returns : goal.returns
returns c =
    c.unwrap_or.ensures
    ∙ place_searched _ c.args.p.now.is_valid _ _
    (IsFirst-from_position _ _ c.position.result (λ x. c.args.site ≤ x) (λ x. x < c.args.site) c.position.ensures.ran
    (YieldsList-from_take c.args.p.now.items.count (YieldsList-from_slice c.args.p.now.items.sites cc) cc)
    (λ x q k. search (rules, tests))
    (λ x q k. search (rules, tests)))
