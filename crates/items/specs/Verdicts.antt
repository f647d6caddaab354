-- What judging a record answers beside number 0: a number that equal records share.
use Rattle.std.specs.Prelude.{ℕ, cond, Option, Some, None}
use Rattle.items.specs.Record.{valid}
use Rattle.items.specs.Masks.{masks_of}
use Rattle.items.specs.declared.Items.{Items}

-- the masks of a record that number 0 lets pass, and none of any other
abbrev pub judged : Items → Option ℕ
judged p = cond (valid p) (Some (masks_of p)) None
