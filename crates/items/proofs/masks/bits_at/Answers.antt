-- `masks::bits_at`: the two bits of a letter, and a shift to its site, which loses nothing.
-- Assumes nothing.
use Prim.Native.Nat.{◌%◌}
use native.Mathlib.Nat.{mod-lt}
use native.Mathlib.Omega.{arith}
use Rattle.items.proofs.JudgedLaws.{shifted_bits}
use Rattle.items.proofs.masks.bits_at.Goals as goal

pub returns : goal.returns
returns c =
    let fits = shifted_bits (c.args.letter % 4) (c.args.site % 32) (mod-lt _ (omega arith)) (mod-lt _ (omega arith)) in
    cc
