-- Of so few spins the size is 2^spins.
use Prim.Native.Nat.{◌%◌, ◌/◌, ◌^◌}
use native.Mathlib.Omega.{arith}
use borrow.Author.Tests.{ltb-true}
use Rattle.row_entries.proofs.RowLaws.{size_few}
use Rattle.open_rows.proofs.fitting.is_below.Goals as goal

pub returns-then-masks-size : goal.returns-then-masks-size
returns-then-masks-size c e =
    let size = size_few _ c.requires c.size_of-size.ensures in
    (omega arith, omega (arith, ltb-true (c.args.masks / 2 ^ 32) c.size_of-size.result e))

pub returns-else-masks-size : goal.returns-else-masks-size
returns-else-masks-size c e = absurd (omega (arith, c.if-masks-size.false, ltb-true (c.args.masks % 2 ^ 32) c.size_of-size.result e))
