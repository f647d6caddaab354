-- `Items::new` is the record of no letters, by computation.
-- Assumes nothing.
use mathlib.Core.Path.{refl}
use Rattle.items.specs.Lists.{support, padded}
use Rattle.items.specs.Record.{record_of, empty_product}
use Rattle.items.proofs.Items.new.Goals as goal

pub returns : goal.returns
unfolding empty_product record_of support padded
returns c = refl
