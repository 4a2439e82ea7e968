-- The limits, and the jobs and versions that an array of jobs and a choice name.
use Rattle.std.specs.Prelude.{ℕ, List, [], None, unwrap_or}
use Rattle.arrays.specs.Position.{at_position, backward}
use Rattle.jobs.specs.declared.model.Version.{Version}
use Rattle.jobs.specs.declared.model.Job.{Job}
use Rattle.jobs.specs.declared.model.JobList.{JobList}

-- the limits of `JobList` and `Job`
abbrev pub max_jobs : ℕ
max_jobs = 16

abbrev pub max_span : ℕ
max_span = 2400

abbrev pub max_versions : ℕ
max_versions = 10

-- what stands past the end of an array
abbrev pub no_version : Version
no_version = record { minutes = None; worth = 0 }

abbrev pub no_job : Job
no_job = record { ready = 0; due = 0; count = 0; versions = [] }

-- 01: "recipes numbered from 1"
abbrev pub version_of : Job → ℕ → Version
version_of j k = at_position no_version j.versions k

-- the minutes that the station has to read of a version: 0 if it is set aside
abbrev pub minutes_of : Version → ℕ
minutes_of v = unwrap_or v.minutes 0

-- the jobs of a list, the last first
abbrev pub jobs_of : JobList → List Job
jobs_of list = backward no_job list.jobs list.count

-- the choice that an array holds for the jobs of a list, the last first
abbrev pub chosen : JobList → List ℕ → List ℕ
chosen list choice = backward 0 choice list.count

-- the version that a choice, in list order, names for the job at position i
abbrev pub version_at : JobList → List ℕ → ℕ → Version
version_at list choice i = version_of (at_position no_job list.jobs i) (at_position 0 choice i)
