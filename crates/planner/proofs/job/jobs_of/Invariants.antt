-- `jobs_of` meets its contract. The invariant: below i the array has the jobs of the batches.
use Rattle.arrays.proofs.Stores.{Padding}
use Rattle.week.specs.Record.{max_batches, batch_at, empty_batch}
use Rattle.planner.specs.Job.{job_from}
use Rattle.planner.proofs.job.jobs_of.Given as goal

abbrev pub invariant-loop-i : goal.invariant-loop-i
invariant-loop-i l =
    Padding (λ k. job_from l.fn.week.opening (batch_at l.fn.week k)) max_batches (job_from 0 empty_batch) max_batches l.i l.jobs
