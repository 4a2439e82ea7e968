-- `stretch_all` meets its contract. The loop's invariant is that of the pass, before the last of the jobs that are left.
use lib.ListN.{length}
use Rattle.arrays.proofs.Back.{Back, left}
use Rattle.jobs.proofs.Pass.{Pass}
use Rattle.jobs.proofs.rule.stretch_all.Given as goal

abbrev pub invariant-loop-i : goal.invariant-loop-i
invariant-loop-i l =
    Back l.fn.list.jobs l.i-iterator
    × Pass l.fn.list.jobs l.choice l.close l.fn.list.count l.stretches l.bound (length (left l.i-iterator))
