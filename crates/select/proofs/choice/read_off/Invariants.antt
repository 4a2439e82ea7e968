-- `read_off` meets its contract. The loop's invariant is that of the traceback, before the last of the jobs that are left.
use lib.ListN.{length}
use Rattle.arrays.proofs.Back.{Back, left}
use Rattle.select.proofs.Traceback.{Traceback}
use Rattle.select.proofs.choice.read_off.Given as goal

abbrev pub invariant-loop-at : goal.invariant-loop-at
invariant-loop-at l =
    Back l.fn.list.jobs l.at-iterator
    × Traceback l.fn.list l.opening l.width l.close l.table l.choice l.bound (length (left l.at-iterator))
