-- `fill` meets its contract. The loop's invariant is that of a table that is filled job by job.
use Rattle.select.proofs.Tables.{Filling}
use Rattle.select.proofs.table.fill.Given as goal

abbrev pub invariant-loop-i : goal.invariant-loop-i
invariant-loop-i l =
    Filling l.fn.list l.opening l.width l.initial.table l.scores l.words l.table l.from l.i
