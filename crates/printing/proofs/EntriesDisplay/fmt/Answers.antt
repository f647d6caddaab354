-- `fmt` of a row's entries writes the lines of all of them. Assumes nothing.
use Rattle.std.proofs.Common.{◌≡◌, [], ◌++◌, append-nil, rules, inl, inr, codes}
use Rattle.std.specs.Iterator.Adapters.{zip_first, zip_second}
use Rattle.std.specs.Slice.Iter.{iter_rest}
use Rattle.printing.specs.Lines.{entry_line, row_lines}
use Rattle.std.proofs.Output.{has_written_append, has_written_of_eq}
use Rattle.printing.proofs.LineLaws.{lines_more, line_added, no_columns, no_reals, no_imaginaries}
use Rattle.printing.proofs.EntriesDisplay.fmt.Goals as goal

pub loop-column-init : goal.loop-column-init
loop-column-init g c = (search rules, search rules, λ plain. ([], search rules, (cc)))

pub loop-column-preserved : goal.loop-column-preserved
loop-column-preserved g c =
    let row = c.args.self.now.row in
    let rest = c.next.new.self in
    let steps = c.in-Some.ensures.steps in
    let line = entry_line (record { row = row; column = c.in-Some.column.now; re = c.in-Some.re.now; im = c.in-Some.im.now }) ++ codes "\n" in (
      search rules,
      search rules,
      λ plain.
          let so_far = c.loop-column.invariant.2 plain in
          let more = lines_more row {columns' = iter_rest (zip_first (zip_first rest))} {re' = iter_rest (zip_second (zip_first rest))} {im' = iter_rest (zip_second rest)} steps.0.0 steps.0.1 steps.1 in (
            so_far.0 ++ line,
            has_written_append _ _ _ _ _ _ so_far.1 (search rules),
            line_added so_far.0 line _ more so_far.2,
          ),
    )

pub returns-clause-writes : goal.returns-clause-writes
returns-clause-writes g c = λ plain _.
    let row = c.args.self.now.row in
    let so_far = c.loop-column.invariant.2 plain in
    let at = c.loop-column.column-iterator in
    let none : row_lines row (iter_rest (zip_first (zip_first at))) (iter_rest (zip_second (zip_first at))) (iter_rest (zip_second at)) ≡ [] = elim c.in-None.ensures.steps [
      | inl (u, first) ↦ elim first [ inl (v, h) ↦ no_columns row _ _ _ h.0 | inr (v, h) ↦ no_reals row _ _ _ h.0 ]
      | inr (u, h) ↦ no_imaginaries row _ _ _ h.0
    ] in
    has_written_of_eq _ _ _ _ _ (rw (none, append-nil) at so_far.2) so_far.1
