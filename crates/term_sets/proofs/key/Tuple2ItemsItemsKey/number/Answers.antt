-- Both products' masks.
use Rattle.term_sets.specs.Keys.{pair_number}
use Rattle.term_sets.proofs.key.Tuple2ItemsItemsKey.number.Goals as goal

pub returns : goal.returns
unfolding pair_number
returns c = rw (c.masks.ensures, c.masks-2.ensures)
