-- What the core's functions ask and answer.
use Rattle.std.specs.Prelude.{ℕ, ◌≤◌, ◌<◌, cond, List, length, get_or, eqb, Result, Ok, Err}
use Rattle.arrays.specs.Each.{OneOfEach}
use Rattle.arrays.specs.Bits.{max32}
use Rattle.jobs.specs.declared.model.Job.{Job}
use Rattle.jobs.specs.declared.model.JobList.{JobList}
use Rattle.jobs.specs.declared.rule.Stretch.{Stretch}
use Rattle.jobs.specs.declared.rule.Failing.{Failing}
use Rattle.jobs.specs.Model.{max_jobs, max_versions, no_job, jobs_of, chosen}
use Rattle.jobs.specs.Rule.{failing}
use Rattle.jobs.specs.Choice.{total}
use Rattle.jobs.specs.Stretches.{stretches_of}

-- a choice, in list order, that names one of its versions for each job of a list. No struct holds the two: a choice is bytes that a
-- caller lends, and the struct would be made for one or two calls and taken apart in each.
pub record Names (list : JobList) (choice : List ℕ) : Type 0 where
  pub most : list.count ≤ max_jobs
  pub whole : list.count ≤ length choice
  pub each : OneOfEach list.count (λ i. (get_or list.jobs i no_job).count) choice
  pub few : (i : ℕ) → i < list.count → (get_or list.jobs i no_job).count ≤ max_versions

-- and whose total 32 bits hold
pub record Answerable (list : JobList) (choice : List ℕ) : Type 0 where
  pub names : Names list choice
  pub small : total (jobs_of list) (chosen list choice) ≤ max32

-- every stretch, or the position where the rule fails
unfoldable pub stretched : List Job → ℕ → List ℕ → Result (List Stretch) Failing
stretched js x ks =
    cond (eqb (failing js x ks) 0) (Ok (stretches_of js x ks)) (Err (record { position = failing js x ks }))
