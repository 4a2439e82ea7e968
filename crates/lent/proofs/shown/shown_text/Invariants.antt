-- `shown_text`: the runs that are put, and those of the bytes that are left, are all the runs.
use Rattle.std.proofs.Common.{take}
use Rattle.std.specs.Slice.Iter.{chunk_by_rest}
use Rattle.lent.specs.Size.{max_table}
use Rattle.lent.proofs.Showing.{Showing}
use Rattle.lent.proofs.shown.shown_text.Given as goal

abbrev pub invariant-loop-run : goal.invariant-loop-run
invariant-loop-run l =
    (goal.iterator-loop-run).can_next l.run-iterator
    × (goal.iterator-loop-run).is_finite l.run-iterator
    × Showing (take max_table l.lent) (chunk_by_rest l.run-iterator) l.text
