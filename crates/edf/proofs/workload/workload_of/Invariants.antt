-- `workload_of` meets its contract. The invariant: below i the array has what the choice gives.
use Prim.Native.Nat.{suc}
use Rattle.arrays.proofs.Stores.{Padding}
use Rattle.jobs.specs.Model.{max_jobs}
use Rattle.edf.specs.Workload.{task_at, no_task}
use Rattle.edf.proofs.workload.workload_of.Given as goal

abbrev pub invariant-loop-i : goal.invariant-loop-i
invariant-loop-i l = Padding (λ k. task_at l.fn.list l.choice (suc k)) max_jobs no_task l.fn.list.count l.i l.tasks
