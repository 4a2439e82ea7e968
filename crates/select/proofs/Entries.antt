-- The entries of the picks table, one by one, in 01's own words.
use Prim.Native.Nat.{ℕ, zero, suc, ◌+◌, ◌*◌, ◌-◌, ◌≤◌, ◌<◌}
use native.Mathlib.Decide.{ℕ_discrete}
use native.Mathlib.Nat.{mul-le-mul_right}
use native.Mathlib.Omega.{arith}
use mathlib.Core.Path.{◌≡◌, sym, ap, ap₂, ◌∙◌}
use mathlib.Core.List.{List, ◌++◌}
use lib.ListN.{length, get_or, take, drop, get_or-append}
use lib.Seq.{get_or-append-add, get_or-take, take_at}
use Rattle.arrays.specs.Position.{backward}
use Rattle.arrays.proofs.Places.{length_backward}
use Rattle.arrays.proofs.Tabulates.{tabulate_from}
use Rattle.arrays.proofs.Front.{later_kept}
use Rattle.jobs.specs.declared.model.Job.{Job}
use Rattle.jobs.specs.declared.model.JobList.{JobList}
use Rattle.jobs.specs.Model.{no_job, jobs_of}
use Rattle.jobs.specs.Best.{pick}
use Rattle.select.specs.Table.{picks, filled, entry_at}
use Rattle.select.proofs.Picks.{length_picks}

-- "For position i (from 1) and minute x from t to c": w is c − t + 1
pub record Entry (list : JobList) (t w i x : ℕ) : Type 0 where
  pub first : 1 ≤ i
  pub last : i ≤ list.count
  pub from : t ≤ x
  pub to : x < t + w

module _ (t w : ℕ) where
  length_rows : (jobs : List Job) (n : ℕ) → length (picks (backward no_job jobs n) t w) ≡ n * w
  length_rows jobs n = length_picks (backward no_job jobs n) t w ∙ ap (λ (k : ℕ). k * w) (length_backward no_job jobs n)

  -- entry m of row i, both from 0
  picks_at : (jobs : List Job) (n i m : ℕ) → i < n → m < w →
      get_or (picks (backward no_job jobs n) t w) (i * w + m) 0 ≡ pick (backward no_job jobs (suc i)) (t + m)
  picks_at jobs zero i m row col = absurd (omega arith)
  picks_at jobs (suc n) i m row col =
      let rows = picks (backward no_job jobs n) t w in
      let size : length rows ≡ n * w = length_rows jobs n in
      elim (ℕ_discrete i n) [
        | yes e ↦ rw (e, ← size, get_or-append-add) (tabulate_from (pick (backward no_job jobs (suc n))) t w m 0 col)
        | no other ↦
            let before : suc i ≤ n = omega arith in
            get_or-append rows _ 0 (i * w + m) (omega (arith, mul-le-mul_right w before)) ∙ picks_at jobs n i m before col
      ]

module _ {list : JobList} {t w i x : ℕ} (entry : Entry list t w i x) where
  pub entry_in : entry_at t w i x < list.count * w
  entry_in =
      let row : suc (i - 1) ≤ list.count = omega arith in
      omega (arith, mul-le-mul_right w row)

  -- "the recipe that the best choice for batches 1 to i, with x as the closing minute, gives to batch i"
  picks_entry : get_or (picks (jobs_of list) t w) (entry_at t w i x) 0 ≡ pick (backward no_job list.jobs i) x
  picks_entry =
      let position : suc (i - 1) ≡ i = omega arith in
      let minute : t + (x - t) ≡ x = omega arith in
      picks_at t w list.jobs list.count (i - 1) (x - t) (omega arith) (omega arith)
      ∙ ap₂ (λ (k y : ℕ). pick (backward no_job list.jobs k) y) position minute

  -- the same of a table that starts with the rows
  pub table_entry : (table : List ℕ) → take (list.count * w) table ≡ picks (jobs_of list) t w →
      get_or table (entry_at t w i x) 0 ≡ pick (backward no_job list.jobs i) x
  table_entry table same =
      sym (get_or-take (list.count * w) table (entry_at t w i x) 0 entry_in) ∙ rw same picks_entry

-- a table that is filled
module _ (list : JobList) (t w : ℕ) (table : List ℕ) where
  size : length (picks (jobs_of list) t w) ≡ list.count * w
  size = length_rows t w list.jobs list.count

  filled_rows : filled (jobs_of list) t w table ≡ picks (jobs_of list) t w ++ drop (list.count * w) table
  unfolding filled
  filled_rows = rw (length_backward no_job list.jobs list.count)

  pub filled-take : take (list.count * w) (filled (jobs_of list) t w table) ≡ picks (jobs_of list) t w
  filled-take = rw filled_rows (take_at (picks (jobs_of list) t w) (drop (list.count * w) table) (list.count * w) size)

  pub filled_entry : {i x : ℕ} → Entry list t w i x →
      get_or (filled (jobs_of list) t w table) (entry_at t w i x) 0 ≡ pick (backward no_job list.jobs i) x
  filled_entry entry = table_entry entry (filled (jobs_of list) t w table) filled-take

  -- "Later bytes of the table keep their values."
  pub filled_later : (e : ℕ) → list.count * w ≤ e → get_or (filled (jobs_of list) t w table) e 0 ≡ get_or table e 0
  filled_later e later = rw filled_rows (later_kept (picks (jobs_of list) t w) table (list.count * w) size 0 e later)
