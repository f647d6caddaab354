-- `Items::reach`: the last site is the highest; a count past the array reads as site 0.
-- Assumes nothing.
use mathlib.Core.Path.{sym}
use borrow.Author.Rules.{rules}
use Rattle.items.proofs.RecordLaws.{reach_none, reach_past, reach-from}
use Rattle.items.proofs.Items.reach.Goals as goal

pub returns-then-self-eq0 : goal.returns-then-self-eq0
returns-then-self-eq0 c = sym (reach_none _ c.if-self-eq0.true)

pub returns-then-self-gt-CAPACITY : goal.returns-then-self-gt-CAPACITY
returns-then-self-gt-CAPACITY c = sym (reach_past _ (search rules) c.if-self-gt-CAPACITY.true)

pub returns : goal.returns
returns c = reach-from _ c.if-self-eq0.false (search rules)
