-- What the run's functions ask and answer.
use Rattle.std.specs.Prelude.{ℕ, ◌+◌, ◌≤◌}
use Rattle.arrays.specs.Bits.{max16}
use Rattle.jobs.specs.Model.{max_jobs}
use Rattle.edf.specs.declared.workload.Workload.{Workload}

-- a workload and a log of some size whose minutes, from minute t, are numbers of 16 bits. No struct holds the three: a log is bytes
-- that a caller lends, and each of the three functions that ask this would take it apart again.
pub record Runnable (work : Workload) (t size : ℕ) : Type 0 where
  pub most : work.count ≤ max_jobs
  pub ends : t + size ≤ max16
