-- `is_plus_zero` meets its contract: of the two zeros, +0 is the one whose bits are 0.
-- Assumes nothing.
use mathlib.Core.Path.{sym, ◌∙◌}
use lib.Dec.{T}
use lib.Ieee.{binary64, fits}
use borrow.Author.Rules.{rules}
use Rattle.complex.proofs.ZeroLaws.{bits_zero, plus_zero_no}
use Rattle.complex.proofs.is_plus_zero.Goals as goal

pub returns-then-x : goal.returns-then-x
returns-then-x c =
    let x = c.args.x in
    let f : T (fits binary64 x) = search rules in
    bits_zero x f

pub returns-else-x : goal.returns-else-x
returns-else-x c = c.if-x.false ∙ sym (plus_zero_no c.args.x c.if-x.false)
