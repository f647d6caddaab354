-- All of them, or none where there is no room (`array_added`, `array_full`), and what is answered (`array_done`, `array_refused`).
use Rattle.std.proofs.Common.{rules, ◌≡◌, ◌+◌, ◌<◌, ◌≤◌, ◌++◌, ◌∙◌, ap, length}
use Rattle.rows.specs.Buffers.{most_entries}
use Rattle.rows.specs.Pairs.{pairs}
use Rattle.rows.proofs.RoomLaws.{array_added, array_full, array_done, array_refused}
use Rattle.rows.proofs.Contributions.add.Goals as goal

pub returns-then-is_err : goal.returns-then-is_err
returns-then-is_err g c =
    let l = c.args.self.now.entries.items in
    let same : c.try_extend_from_slice.new.self.items ≡ l = search rules in
    let full : most_entries < length l + length c.args.es.now = search rules in
    record { answer = array_refused c.args.es.now l full; list = ap pairs same ∙ array_full c.args.es.now l full }

pub returns : goal.returns
returns g c =
    let l = c.args.self.now.entries.items in
    let more : c.try_extend_from_slice.new.self.items ≡ l ++ c.args.es.now = search rules in
    let room : length l + length c.args.es.now ≤ most_entries = search rules in
    record { answer = array_done c.args.es.now l room; list = array_added c.args.es.now _ l more room }
