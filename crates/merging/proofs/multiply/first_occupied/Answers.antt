-- `multiply::first_occupied`: the first site that is found occupied in p.
-- Assumes nothing.
use Rattle.std.proofs.Common.{◌≡◌, ◌<◌, rules}
use Rattle.std.proofs.lemmas.Iterator.{YieldsList-from_slice, YieldsList-from_take, first_from_find}
use Rattle.std.proofs.lemmas.Iterator.Consumers.{YieldsList-from_copied}
use Rattle.items.specs.Record.{letter_at}
use Rattle.merging.proofs.SiteLaws.{letter_there, letter_none, first_searched}
use Rattle.merging.proofs.multiply.first_occupied.Goals as goal

pub returns : goal.returns
returns c =
    first_searched _ _ c.args.q.now.is_valid _
    (first_from_find _ _ c.find.result (λ x. 0 < letter_at c.args.p.now.items x) (λ x. letter_at c.args.p.now.items x ≡ 0) c.find.ensures.ran
    (YieldsList-from_copied (YieldsList-from_take c.args.q.now.items.count (YieldsList-from_slice c.args.q.now.items.sites cc) cc))
    (λ x q k. search (rules, letter_there))
    (λ x q k. search (rules, letter_none)))
