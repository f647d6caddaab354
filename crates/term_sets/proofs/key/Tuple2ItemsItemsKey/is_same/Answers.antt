-- The left products decide first; what `==` answers on records is `same_items`.
use mathlib.Core.Path.{sym, ◌∙◌}
use Rattle.items.proofs.SameLaws.{items_eq}
use Rattle.term_sets.proofs.key.Tuple2ItemsItemsKey.is_same.Goals as goal

pub returns-then-eq : goal.returns-then-eq
returns-then-eq c =
    let left = sym (c.eq.ensures ∙ items_eq c.args.self.now.0 c.args.other.now.0) ∙ c.if-eq.true in
    rw left (c.eq-then-eq.ensures ∙ items_eq c.args.self.now.1 c.args.other.now.1)

pub returns-else-eq : goal.returns-else-eq
returns-else-eq c =
    let left = sym (c.eq.ensures ∙ items_eq c.args.self.now.0 c.args.other.now.0) ∙ c.if-eq.false in
    rw left c.if-eq.false
