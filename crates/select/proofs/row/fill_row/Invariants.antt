-- `fill_row` meets its contract. The loop's invariant is that of a row.
use Rattle.select.proofs.Rows.{Ready, Row}
use Rattle.select.proofs.row.fill_row.Given as goal

abbrev pub invariant-loop-i : goal.invariant-loop-i
invariant-loop-i l =
    Ready l.fn.j l.opening l.due l.from l.scores × Row l.fn.j l.opening l.due l.scores l.words l.level l.next l.i
