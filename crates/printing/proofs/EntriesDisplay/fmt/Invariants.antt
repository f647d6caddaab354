-- The lines printed so far and those of the entries that are left are all lines. Assumes nothing.
use Rattle.std.proofs.Common.{◌≡◌, ℕ, List, ◌++◌}
use Rattle.std.specs.Fmt.{HasWritten, IsPlainFormatter}
use Rattle.std.specs.Iterator.Adapters.{zip_first, zip_second}
use Rattle.std.specs.Slice.Iter.{iter_rest}
use Rattle.printing.specs.Lines.{row_lines}
use Rattle.printing.proofs.EntriesDisplay.fmt.Given as goal

abbrev pub invariant-loop-column : goal.invariant-loop-column
invariant-loop-column g l =
    (goal.iterator-loop-column g).can_next l.column-iterator
    × (goal.iterator-loop-column g).is_finite l.column-iterator
    × (IsPlainFormatter l.initial.f → (done : List ℕ) × HasWritten g.W.Write.write_str_gives l.initial.f done l.f
    × (done ++ row_lines l.fn.self.row (iter_rest (zip_first (zip_first l.column-iterator))) (iter_rest (zip_second (zip_first l.column-iterator))) (iter_rest (zip_second l.column-iterator)) ≡ row_lines l.fn.self.row l.fn.self.columns.now l.fn.self.re.now l.fn.self.im.now))
