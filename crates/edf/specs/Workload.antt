-- What a choice gives the station to read, and its run. The choice is an array in list order; positions count from 1.
use Rattle.std.specs.Prelude.{ℕ, suc, Bool, false, ◌&&◌, leb, ltb, List, is_none}
use Rattle.arrays.specs.Position.{at_position}
use Rattle.arrays.specs.Made.{tabulate, padded}
use Rattle.jobs.specs.declared.model.JobList.{JobList}
use Rattle.jobs.specs.Model.{max_jobs, no_job, version_at, minutes_of}
use Rattle.edf.specs.declared.workload.Task.{Task}
use Rattle.edf.specs.declared.workload.Workload.{Workload}
use Rattle.edf.specs.declared.outcome.Outcome.{Outcome}
use Rattle.edf.specs.Run.{log_of, outcome_of}

-- the ready minute of position i
abbrev pub ready_at : JobList → ℕ → ℕ
ready_at list i = (at_position no_job list.jobs i).ready

-- the minutes that a choice gives the station to read there
abbrev pub minutes_at : JobList → List ℕ → ℕ → ℕ
minutes_at list choice i = minutes_of (version_at list choice i)

-- and whether it sets it aside
abbrev pub aside_at : JobList → List ℕ → ℕ → Bool
aside_at list choice i = is_none (version_at list choice i).minutes

-- the run of a choice: w minutes from minute t
unfoldable pub choice_log : JobList → List ℕ → (t w : ℕ) → List ℕ
choice_log list choice t w = log_of list.count (ready_at list) (minutes_at list choice) t w

-- the same as one task for each position
abbrev pub task_at : JobList → List ℕ → ℕ → Task
task_at list choice i = record { ready = ready_at list i; minutes = minutes_at list choice i; aside = aside_at list choice i }

-- what stands beyond the list: nothing is to be read
abbrev pub no_task : Task
no_task = record { ready = 0; minutes = 0; aside = false }

-- what the station is handed
unfoldable pub workload_of : JobList → List ℕ → Workload
workload_of list choice =
    record {
      count = list.count;
      tasks = padded max_jobs no_task (tabulate (λ i. task_at list choice (suc i)) 0 list.count);
    }

-- whether the station can read a task in minute m
abbrev pub is_pending : ℕ → Task → Bool
is_pending m task = leb task.ready m && ltb 0 task.minutes

-- the ready minute of the task at position i, and the minutes that the station has to read of it
abbrev pub ready_in : List Task → ℕ → ℕ
ready_in tasks i = (at_position no_task tasks i).ready

abbrev pub left_in : List Task → ℕ → ℕ
left_in tasks i = (at_position no_task tasks i).minutes

-- the run of a workload: w minutes from minute t
unfoldable pub work_log : Workload → (t w : ℕ) → List ℕ
work_log work t w = log_of work.count (ready_in work.tasks) (left_in work.tasks) t w

-- what became of position i after a log that starts at minute t
unfoldable pub outcome_at : Workload → ℕ → List ℕ → ℕ → Outcome
outcome_at work t log i =
    let task = at_position no_task work.tasks i in
    outcome_of task.aside task.minutes t log i
