-- `site::letter_at`: the place found is the only one that has the site.
-- Assumes nothing.
use Rattle.std.proofs.Common.{◌≡◌, ◌<◌, MatchOption, rules}
use Rattle.std.proofs.lemmas.Iterator.{YieldsList-from_slice, YieldsList-from_take, IsFirst-from_position}
use Rattle.std.proofs.lemmas.Option.{MatchOption-at_none, MatchOption-at_some}
use borrow.Author.Tests.{tests}
use Rattle.items.specs.Lists.{at}
use Rattle.items.specs.Record.{letter_at}
use Rattle.merging.proofs.FindLaws.{letter_searched}
use Rattle.merging.proofs.site.letter_at.Goals as goal
use Rattle.merging.proofs.site.letter_at.Goals.{After-position}

-- the place found, or that the site is free
found : (c : After-position) → MatchOption c.position.result (letter_at c.args.p.now.items c.args.site ≡ 0)
    (λ i. (i < c.args.p.now.items.count) × (at c.args.p.now.items.letters i ≡ letter_at c.args.p.now.items c.args.site) × (0 < at c.args.p.now.items.letters i))
found c =
    letter_searched _ c.args.p.now.is_valid _ _
    (IsFirst-from_position _ _ c.position.result (λ x. x ≡ c.args.site) (λ x. x ≡ c.args.site → ⊥) c.position.ensures.ran
    (YieldsList-from_take c.args.p.now.items.count (YieldsList-from_slice c.args.p.now.items.sites cc) cc)
    (λ x q k. search (rules, tests))
    (λ x q k. search (rules, tests)))

pub returns-in_err-place : goal.returns-in_err-place
returns-in_err-place c =
    rw c.from_residual.ensures
    (MatchOption-at_none _ _ c.in_err-place.was (found (goal.at.returns-in_err-place c).After-position))

pub returns : goal.returns
returns c =
    let k = MatchOption-at_some _ _ _ c.in_ok-place.was (found (goal.at.returns c).After-position) in
    (k.1, k.2)
