-- The answer is the place of the first term with the key (`stands_by`).
use Rattle.std.proofs.Common.{◌≡◌, true, false, rules}
use borrow.Author.Tests.{tests}
use Rattle.std.proofs.lemmas.Iterator.{IsFirst-from_position, YieldsList-from_slice}
use Rattle.term_sets.specs.Sets.{held_by}
use Rattle.term_sets.proofs.FoundLaws.{stands_by}
use Rattle.term_sets.proofs.Set.find.Goals as goal

pub returns : goal.returns
returns g c =
    let k = g.K.Key.keys in
    let key = c.args.key.now in
    stands_by k g.N.Coefficient.numbers key (held_by c.args.self.now) c.position.result
    (IsFirst-from_position _ _ _ (λ t. k.same t.key key ≡ true) (λ t. k.same t.key key ≡ false) c.position.ensures.ran
    (YieldsList-from_slice (held_by c.args.self.now) cc) (λ x q r. search (rules, tests)) (λ x q r. search (rules, tests)))
