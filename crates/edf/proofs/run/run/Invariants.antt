-- `run` meets its contract. The loop's invariant is that of `Running`.
use lib.ListN.{length}
use Rattle.edf.specs.Workload.{ready_in, left_in}
use Rattle.edf.proofs.RunLoop.{Running}
use Rattle.edf.proofs.run.run.Given as goal

abbrev pub invariant-loop-m : goal.invariant-loop-m
invariant-loop-m l =
    Running l.work.count (ready_in l.work.tasks) (left_in l.work.tasks) l.opening (length l.initial.log) l.log l.tasks l.m
