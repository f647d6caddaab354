-- The columns below i are there.
use Rattle.std.proofs.Common.{◌≡◌, ◌<◌, ℕ, slice_index_or}
use Rattle.rows.specs.declared.Entry.{Entry}
use Rattle.rows.proofs.sums.columns_of.Given as goal

abbrev pub invariant-loop-i : goal.invariant-loop-i
invariant-loop-i g l = (j : ℕ) (d : Entry g.row.V.Denot) → j < l.i → slice_index_or l.columns j 0 ≡ (slice_index_or l.es j d).column
