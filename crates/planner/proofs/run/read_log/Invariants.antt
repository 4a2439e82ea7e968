-- `read_log` meets its contract. The invariant: below i the array has what the log says of each job.
use Prim.Native.Nat.{suc}
use Rattle.arrays.proofs.Stores.{Padding}
use Rattle.edf.specs.Workload.{outcome_at}
use Rattle.week.specs.Record.{max_batches}
use Rattle.planner.specs.Run.{set_aside}
use Rattle.planner.proofs.run.read_log.Given as goal

abbrev pub invariant-loop-i : goal.invariant-loop-i
invariant-loop-i l = Padding (λ k. outcome_at l.fn.work l.opening l.log (suc k)) max_batches set_aside l.fn.work.count l.i l.batches
