-- A week as the scheduling core sees it: the one place where a batch becomes a job.
use Rattle.std.specs.Prelude.{ℕ, cond, List, take, eqb, Some, None}
use Rattle.arrays.specs.Made.{tabulate}
use Rattle.jobs.specs.declared.model.Version.{Version}
use Rattle.jobs.specs.declared.model.Job.{Job}
use Rattle.jobs.specs.declared.model.JobList.{JobList}
use Rattle.jobs.specs.Model.{jobs_of, chosen}
use Rattle.week.specs.declared.record.Recipe.{Recipe}
use Rattle.week.specs.declared.record.Batch.{Batch}
use Rattle.week.specs.Record.{Week, max_batches, max_recipes, batch_at, recipe_at, ready_of}
use Rattle.week.specs.Ordered.{ordered_week}

-- a recipe, and the recipe of index k. 01: one that costs 0 "means that the batch is set aside"
abbrev pub recipe_version : Recipe → Version
recipe_version r = record { minutes = cond (eqb r.cost 0) None (Some r.cost); worth = r.worth }

abbrev pub version_from : Batch → ℕ → Version
version_from b k = recipe_version (recipe_at b k)

-- a batch, the week opening at t: its ready minute, its due minute, and a version for each place of its recipes
abbrev pub job_from : ℕ → Batch → Job
job_from t b =
    record { ready = ready_of t b; due = b.due; count = b.count; versions = tabulate (version_from b) 0 max_recipes }

-- a job for each place of a list as it stands, those beyond n too: the core looks at the first n
abbrev pub listed_jobs : Week → JobList
listed_jobs w = record { count = w.count; jobs = tabulate (λ i. job_from w.opening (batch_at w i)) 0 max_batches }

-- 02: "Choices, answers, tables, logs and the recipe buffer follow the ordered list": the jobs of a week are those of its list in order
abbrev pub job_list_of : Week → JobList
job_list_of w = listed_jobs (ordered_week w)

-- the jobs of a week, the last first
abbrev pub week_jobs : Week → List Job
week_jobs w = jobs_of (job_list_of w)

-- a choice that is handed in, the last batch's recipe first
abbrev pub week_choice : Week → List ℕ → List ℕ
week_choice w choice = chosen (job_list_of w) choice

-- the choice that the first n bytes of an array are: one recipe a batch
abbrev pub list_choice : Week → List ℕ → List ℕ
list_choice w bytes = take w.count bytes
