-- The workload of a choice: what its tasks say at a position, and so the run over them, are those of the choice.
use Prim.Native.Nat.{ℕ, suc, ◌≤◌, ◌<◌}
use mathlib.Core.Path.{◌≡◌, ap}
use mathlib.Core.Bool.{Bool}
use mathlib.Core.List.{List}
use lib.ListN.{get_or, take}
use lib.Seq.{get_or-take}
use Rattle.std.specs.Prelude.{is_none}
use Rattle.arrays.specs.Position.{at_position}
use Rattle.arrays.proofs.Tabulates.{position_padded}
use Rattle.jobs.specs.declared.model.Version.{Version}
use Rattle.jobs.specs.declared.model.JobList.{JobList}
use Rattle.jobs.specs.Model.{max_jobs, no_job, version_of, minutes_of}
use Rattle.edf.specs.declared.workload.Task.{Task}
use Rattle.edf.specs.Run.{outcome_of}
use Rattle.edf.specs.Workload.{minutes_at, aside_at, choice_log, task_at, no_task, workload_of, work_log, outcome_at}
use Rattle.edf.proofs.Logs.{log_same}

module _ (list : JobList) (choice : List ℕ) where
  -- the task that is made at index i of a slice of the jobs
  pub made_task : (i : ℕ) → i < list.count → {v : Version} →
      v ≡ version_of (get_or (take list.count list.jobs) i no_job) (get_or choice i 0) →
      {m : ℕ} → m ≡ minutes_of v → {aside : Bool} → aside ≡ is_none v.minutes →
      record { ready = (get_or (take list.count list.jobs) i no_job).ready; minutes = m; aside = aside } ≡ task_at list choice (suc i)
  made_task i inside {v} named {m} minutes {aside} set =
      rw (minutes, set, named, get_or-take list.count list.jobs i no_job inside)

  task_in : (i : ℕ) → 1 ≤ i → i ≤ list.count → at_position no_task (workload_of list choice).tasks i ≡ task_at list choice i
  unfolding workload_of
  task_in = position_padded max_jobs no_task (task_at list choice) list.count

  pub workload_log : (t w : ℕ) → work_log (workload_of list choice) t w ≡ choice_log list choice t w
  unfolding workload_of work_log choice_log
  workload_log =
      log_same (λ i low high. ap (λ (task : Task). task.ready) (task_in i low high))
      (λ i low high. ap (λ (task : Task). task.minutes) (task_in i low high))

  pub workload_outcome : (t : ℕ) (log : List ℕ) (i : ℕ) → 1 ≤ i → i ≤ list.count →
      outcome_at (workload_of list choice) t log i ≡ outcome_of (aside_at list choice i) (minutes_at list choice i) t log i
  unfolding outcome_at
  workload_outcome t log i low high = ap (λ (task : Task). outcome_of task.aside task.minutes t log i) (task_in i low high)
