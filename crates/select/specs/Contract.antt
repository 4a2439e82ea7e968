-- What `fill` and `read_off` ask and answer.
use Rattle.std.specs.Prelude.{ℕ, ◌+◌, ◌*◌, ◌≤◌, ◌<◌, ◌≡◌, List, length, get_or, take, Option, Some, None}
use Rattle.std.proofs.Math.Option as math
use Rattle.std.proofs.Math.Option.{none, some}
use Rattle.arrays.specs.Made.{placed}
use Rattle.jobs.specs.declared.model.JobList.{JobList}
use Rattle.jobs.specs.Model.{max_jobs, max_versions, no_job, jobs_of}
use Rattle.select.specs.Row.{row_length}
use Rattle.select.specs.Table.{picks}

-- a list of jobs and the shape of a table that holds its rows
pub record Fillable (list : JobList) (t w size : ℕ) : Type 0 where
  pub most : list.count ≤ max_jobs
  pub few : (i : ℕ) → i < list.count → (get_or list.jobs i no_job).count ≤ max_versions
  pub ready : (i : ℕ) → i < list.count → t ≤ (get_or list.jobs i no_job).ready
  pub wide : w ≤ row_length
  pub long : list.count * w ≤ size

-- a table that holds the picks of the list, as filling leaves them, and a close that is one of its minutes
pub record Readable (list : JobList) (t w close : ℕ) (table : List ℕ) : Type 0 where
  pub fillable : Fillable list t w (length table)
  pub opened : t ≤ close
  pub inside : close < t + w
  pub rows : take (list.count * w) table ≡ picks (jobs_of list) t w

-- a choice that may not exist, in list order
abbrev pub best_choice : math.Option (List ℕ) → Option (List ℕ)
best_choice none = None
best_choice (some ks) = Some (placed max_jobs 0 ks)
