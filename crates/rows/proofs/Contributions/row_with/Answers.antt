-- Where both have room together, both rows are merged by column and added up: the noise's placed into the commutator's (`merged_row`).
use Rattle.std.proofs.Common.{rules, ◌≡◌, ◌≤◌, ◌<◌, ◌+◌, ◌++◌, ◌∙◌, ap, ap₂, arith, sym, subst, true, false, length}
use lib.ListN.{length-map, length-append}
use Rattle.sorted_lists.specs.Sorting.{merged_places}
use Rattle.master_equation.specs.Sums.{Ascending}
use Rattle.rows.specs.Buffers.{most_entries}
use Rattle.rows.specs.Entries.{contributions_of}
use Rattle.rows.specs.Pairs.{pair, pairs}
use Rattle.rows.specs.Placing.{place_all, open_row_in}
use Rattle.rows.proofs.PlacingLaws.{row_in_ascending}
use Rattle.rows.proofs.RoomLaws.{length-row_in, says_full, says_room}
use Rattle.rows.proofs.SortedLaws.{merged_row, taken_few, merged_below}
use Rattle.rows.proofs.Contributions.row_with.Goals.{After-row-2}
use Rattle.rows.proofs.Contributions.row_with.Goals as goal

-- both together have room
together : (g : _) (c : After-row-2 g) → length (contributions_of c.args.self.now) + length (contributions_of c.args.noise.now) ≤ most_entries
together g c =
    omega (arith, c.if-len.false, c.len.ensures.value, c.len-2.ensures.value, c.len.ensures.fits, length-map c.args.self.now.entries.items pair, length-map c.args.noise.now.entries.items pair)

pub returns-then-len : goal.returns-then-len
returns-then-len g c =
    says_full _ _
    (omega (arith, c.if-len.true, c.len.ensures.value, c.len-2.ensures.value, c.len.ensures.fits, length-map c.args.self.now.entries.items pair, length-map c.args.noise.now.entries.items pair))

pub returns-then-is_err : goal.returns-then-is_err
returns-then-is_err g c =
    let few = together g (goal.at.returns-then-is_err g c).After-row-2 in
    let a = c.row.result.entries.items in
    let b = c.row-2.result.entries.items in
    let full : most_entries < length a + length b = search rules in
    absurd
    (omega (
      arith,
      few,
      full,
      length-map a pair,
      length-map b pair,
      ap length c.row.ensures,
      ap length c.row-2.ensures,
      length-row_in g.V.Number.numbers false (contributions_of c.args.self.now),
      length-row_in g.V.Number.numbers true (contributions_of c.args.noise.now),
    ))

pub added_up-entries-requires : goal.added_up-entries-requires
added_up-entries-requires g c =
    let a = c.row.result.entries.items in
    let b = c.row-2.result.entries.items in
    let both : c.deref-3.result.now ≡ a ++ b = search rules in
    let n : c.len-4.result ≡ length a + length b = search rules in
    let few : length a + length b ≤ most_entries = search rules in
    let long : length c.deref-3.result.now ≡ length a + length b = ap length both ∙ length-append a b in
    let places : c.merged_places-places.result ≡ merged_places c.columns_of.result (length a) (length b) = search rules in
    (search rules, (taken_few c.len-4.result c.merged_places-places.result (omega (arith, n, few)), rw (long, n, places) (merged_below c.columns_of.result (length a) (length b) few)))

pub returns : goal.returns
unfolding open_row_in
returns g c =
    let A = g.V.Number.numbers in
    let a = c.row.result.entries.items in
    let b = c.row-2.result.entries.items in
    let es = c.deref-3.result.now in
    let both : es ≡ a ++ b = search rules in
    let read : c.deref-2.result.now ≡ es = search rules in
    let n : c.len-4.result ≡ length es = search rules in
    let few : length es ≤ most_entries = search rules in
    let places : c.merged_places-places.result ≡ merged_places c.columns_of.result (length a) (length b) = search rules in
    let sums = rw (n, places) at c.added_up-entries.ensures in
    let left : Ascending 0 (pairs a) = subst (Ascending 0) (sym c.row.ensures) (row_in_ascending A false (contributions_of c.args.self.now)) in
    let right : Ascending 0 (pairs b) = subst (Ascending 0) (sym c.row-2.ensures) (row_in_ascending A true (contributions_of c.args.noise.now)) in
    says_room _ _ (together g (goal.at.returns g c).After-row-2)
    (merged_row A.sum c.columns_of.result es a b c.added_up-entries.result.items both (rw read at c.columns_of.ensures) left right few sums.few sums.sums
    ∙ ap₂ (place_all A.sum) c.row-2.ensures c.row.ensures)
