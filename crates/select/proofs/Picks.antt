-- The rows of picks in a table: how long they are, and one row more.
use Prim.Native.Nat.{ℕ, ◌*◌, ◌≤◌}
use native.Mathlib.Nat.{zero-mul, suc-mul}
use mathlib.Core.Path.{◌≡◌, sym, ◌∙◌}
use mathlib.Core.List.{List, [], ◌∷◌, ◌++◌, append_assoc}
use lib.ListN.{length, take, drop, length-append}
use lib.Seq.{take_at, drop_at, drop-drop}
use Rattle.arrays.specs.Made.{tabulate}
use Rattle.arrays.proofs.Places.{length_backward}
use Rattle.arrays.proofs.Tabulates.{length_tabulate}
use Rattle.arrays.proofs.Front.{length_kept}
use Rattle.jobs.specs.declared.model.Job.{Job}
use Rattle.jobs.specs.declared.model.JobList.{JobList}
use Rattle.jobs.specs.Model.{no_job, jobs_of}
use Rattle.jobs.specs.Best.{pick}
use Rattle.select.specs.Table.{picks, filled}

pub length_picks : (js : List Job) (t w : ℕ) → length (picks js t w) ≡ length js * w
length_picks [] t w = sym (zero-mul w)
length_picks (j ∷ js) t w = rw (length-append, length_tabulate, length_picks js t w, suc-mul)

pub length_filled : (js : List Job) (t w : ℕ) (table : List ℕ) → length js * w ≤ length table →
    length (filled js t w table) ≡ length table
unfolding filled
length_filled js t w table long = length_kept (picks js t w) table (length js * w) (length_picks js t w) long

-- the same of the jobs of a list
pub filled_size : (list : JobList) (t w : ℕ) (table : List ℕ) → list.count * w ≤ length table →
    length (filled (jobs_of list) t w table) ≡ length table
filled_size list t w table long =
    length_filled (jobs_of list) t w table (rw (length_backward no_job list.jobs list.count) long)

pub filled_none : (t w : ℕ) (table : List ℕ) → filled [] t w table ≡ table
unfolding filled
filled_none t w table = rw zero-mul

-- the row of one job more, put in after the rows that stand
pub filled_more : (j : Job) (js : List Job) (t w at : ℕ) (table : List ℕ) → length js * w ≡ at →
    {table' row : List ℕ} → table' ≡ filled js t w table → row ≡ tabulate (pick (j ∷ js)) t w →
    take at table' ++ (row ++ drop w (drop at table')) ≡ filled (j ∷ js) t w table
unfolding filled
filled_more j js t w at table e stands exact =
    let rest = drop (length js * w) table in
    let size = length_picks js t w ∙ e in
    rw (stands, exact, take_at (picks js t w) rest at size, drop_at (picks js t w) rest at size, drop-drop, suc-mul, append_assoc)
