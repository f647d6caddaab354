-- `merge::next_site`: the test is that of `next_site`.
-- Assumes nothing.
use mathlib.Core.Path.{sym, ap, ◌∙◌}
use Prim.Native.Nat.{ℕ, ◌+◌}
use Rattle.merging.proofs.StepLaws.{next_in, next_out}
use Rattle.merging.proofs.merge.next_site.Goals as goal

pub returns-then-i-count : goal.returns-then-i-count
returns-then-i-count c = c.from.ensures ∙ sym (next_in _ _ _ c.if-i-count.true)

pub returns : goal.returns
returns c = ap (λ (n : ℕ). n + 1) c.from-2.ensures ∙ sym (next_out _ _ _ c.if-i-count.false)
