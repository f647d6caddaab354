-- What `==` answers on records is `same_items`.
use mathlib.Core.Path.{◌∙◌}
use Rattle.items.proofs.SameLaws.{items_eq}
use Rattle.term_sets.proofs.key.ItemsKey.is_same.Goals as goal

pub returns : goal.returns
returns c = c.eq.ensures ∙ items_eq c.args.self.now c.args.other.now
