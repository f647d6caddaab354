-- Sorted by their places and added up (`sorted_row`); zero sums are kept or go (`kept_filtered`).
use Rattle.std.proofs.Common.{rules, ◌≡◌, ◌≤◌, ◌||◌, not, ◌∙◌, ap, filter, length}
use Rattle.arrayvec.proofs.ArrayVecLemmas.{filter-from_retain}
use Rattle.rows.specs.Buffers.{most_entries}
use Rattle.rows.specs.Pairs.{pairs}
use Rattle.rows.specs.Placing.{row_of, row_in, kept_by}
use Rattle.rows.proofs.KeptLaws.{kept_filtered}
use Rattle.rows.proofs.SortedLaws.{sorted_row, taken_few, sorted_below}
use Rattle.rows.proofs.Contributions.row.Goals as goal

pub added_up-entries-requires : goal.added_up-entries-requires
added_up-entries-requires g c =
    let n = length c.as_slice-es.result.now in
    let few : n ≤ most_entries = search rules in
    (search rules, (taken_few n c.sorted_places-places.result few, rw c.sorted_places-places.ensures (sorted_below c.columns_of.result n few)))

pub returns : goal.returns
unfolding row_in
returns g c =
    let numbers = g.V.Number.numbers in
    let es = c.as_slice-es.result.now in
    let out = c.added_up-entries.result.items in
    let few : length es ≤ most_entries = search rules in
    let kept : c.retain.new.self.items ≡ filter (λ e. c.args.zeros || not (numbers.is_zero e.value)) out =
    filter-from_retain _ _ _ (λ x b f' y called. search rules) _ _ c.retain.ensures.filtered in
    let sums = rw c.sorted_places-places.ensures at c.added_up-entries.ensures in
    ap pairs kept
    ∙ kept_filtered numbers.is_zero c.args.zeros out
    ∙ ap (kept_by numbers.is_zero c.args.zeros) (sorted_row numbers.sum c.columns_of.result es out c.columns_of.ensures few sums.few sums.sums)
    ∙ ap (λ l. kept_by numbers.is_zero c.args.zeros (row_of numbers.sum (pairs l))) c.as_slice-es.ensures.value
