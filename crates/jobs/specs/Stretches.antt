-- The stretches that the rule gives a choice, in list order; positions count from 1.
use Rattle.std.specs.Prelude.{ℕ, List}
use Rattle.arrays.specs.Position.{at_position}
use Rattle.arrays.specs.Made.{placed}
use Rattle.jobs.specs.declared.model.Job.{Job}
use Rattle.jobs.specs.declared.model.JobList.{JobList}
use Rattle.jobs.specs.declared.rule.Stretch.{Stretch}
use Rattle.jobs.specs.Model.{max_jobs, jobs_of, chosen}
use Rattle.jobs.specs.Rule.{stretches}

-- what stands where there is none
abbrev pub no_stretch : Stretch
no_stretch = record { start = 0; end = 0 }

-- the stretches of a choice in list order, each in its place
abbrev pub stretches_of : List Job → ℕ → List ℕ → List Stretch
stretches_of js x ks = placed max_jobs no_stretch (stretches js x ks)

-- the stretch that the rule gives position i, the close being x
abbrev pub stretch_at : JobList → List ℕ → ℕ → ℕ → Stretch
stretch_at list choice x i = at_position no_stretch (stretches_of (jobs_of list) x (chosen list choice)) i
