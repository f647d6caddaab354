-- `multiply::concatenate`: where no site is in both, the product is the sum.
-- Assumes nothing.
use Rattle.merging.proofs.SiteLaws.{join_done}
use Rattle.merging.proofs.multiply.concatenate.Goals as goal

pub returns : goal.returns
returns c =
    rw (← c.in_ok-p.ensures, ← c.in_ok-q.ensures)
    (join_done _ _ c.in_ok-p.p.is_valid c.in_ok-q.q.is_valid c.in_default.ensures c.merged.ensures.items)
