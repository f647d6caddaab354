-- The count is at most the places lent (`call_fits`). Assumes nothing.
use Rattle.std.proofs.Common.{◌≤◌, length, arith}
use Rattle.std.specs.Result.{result_unwrap_or}
use Rattle.worked.proofs.CountLaws.{call_fits}
use Rattle.worked.proofs.report.row_into.Goals as goal

pub returns : goal.returns
returns c =
    let held : result_unwrap_or c.exact_row-answer.result 0 ≤ length c.args.lent.now.columns = call_fits _ c.exact_row-answer.ensures in
    rw c.unwrap_or.ensures (omega (arith, held))
