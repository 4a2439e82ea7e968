-- How long the stretches are: where a choice meets the rule, each has the minutes of its version.
use Prim.Native.Nat.{ℕ, zero, suc, ◌+◌, ◌≤◌}
use native.Mathlib.Decide.{ℕ_discrete}
use native.Mathlib.Omega.{arith}
use mathlib.Core.Path.{◌≡◌, refl}
use mathlib.Core.Bool.{true, and-eq-true_iff}
use mathlib.Core.List.{List}
use lib.ListN.{get_or}
use Rattle.std.specs.Prelude.{Option, Some, None, unwrap_or}
use Rattle.arrays.specs.Position.{at_position, backward}
use Rattle.jobs.specs.declared.model.Version.{Version}
use Rattle.jobs.specs.declared.model.Job.{Job}
use Rattle.jobs.specs.declared.model.JobList.{JobList}
use Rattle.jobs.specs.declared.rule.Stretch.{Stretch}
use Rattle.jobs.specs.Model.{no_job, version_at, minutes_of, jobs_of, chosen}
use Rattle.jobs.specs.Rule.{stretch_of, fits, next_bound, meets, stretches}
use Rattle.jobs.specs.Stretches.{no_stretch, stretches_of, stretch_at}
use Rattle.jobs.proofs.Rules.{fits_read}
use Rattle.jobs.proofs.Pass.{placed_stretches}

-- a stretch of that many minutes
abbrev Long : Stretch → ℕ → Type 0
Long stretch minutes = stretch.start + minutes ≡ stretch.end

-- of one job
one_long : (j : Job) (v : Version) (x : ℕ) → fits j v x ≡ true → Long (stretch_of j v x) (minutes_of v)
unfolding stretch_of
one_long j v x fit = by_minutes v.minutes refl
  where
    by_minutes : (o : Option ℕ) → v.minutes ≡ o → Long (stretch_of j v x) (unwrap_or o 0)
    by_minutes (Some m) r = rw r (omega (arith, fits_read j v x fit r))
    by_minutes None r = rw r (omega arith)

module _ (list : JobList) (choice : List ℕ) where
  -- of an array that holds the stretches of jobs 1 to n under the bound x
  each_long : (array : List Stretch) (n x : ℕ) → meets (backward no_job list.jobs n) x (backward 0 choice n) ≡ true →
      backward no_stretch array n ≡ stretches (backward no_job list.jobs n) x (backward 0 choice n) →
      (i : ℕ) → 1 ≤ i → i ≤ n → Long (at_position no_stretch array i) (minutes_of (version_at list choice i))
  each_long array zero x meeting same i low high = absurd (omega arith)
  each_long array (suc n) x meeting same i low high =
      let job = at_position no_job list.jobs (suc n) in
      let version = version_at list choice (suc n) in
      let before = meets (backward no_job list.jobs n) (next_bound job version x) (backward 0 choice n) in
      let met : (fits job version x ≡ true) × (before ≡ true) = (and-eq-true_iff _ _).0 meeting in
      elim (ℕ_discrete i (suc n)) [
        | yes e ↦
            let here : get_or array n no_stretch ≡ stretch_of job version x = cc in
            rw (e, here) (one_long job version x met.0)
        | no other ↦ each_long array n (next_bound job version x) met.1 (cc) i low (omega arith)
      ]

  -- 01: "its stretch ends at the smaller of d and the bound, and starts its recipe's cost earlier"
  pub stretch_long : (x : ℕ) → meets (jobs_of list) x (chosen list choice) ≡ true → (i : ℕ) → 1 ≤ i → i ≤ list.count →
      (stretch_at list choice x i).start + minutes_of (version_at list choice i) ≡ (stretch_at list choice x i).end
  stretch_long x meeting =
      each_long (stretches_of (jobs_of list) x (chosen list choice)) list.count x meeting
      (placed_stretches list.jobs choice x list.count)
