-- The pick for a batch that does not arrive before the close needs no minutes.
use Prim.Native.Nat.{ℕ, zero, suc, ◌-◌, ◌≤◌}
use native.Mathlib.Decide.{ℕ_discrete}
use native.Mathlib.Omega.{arith}
use mathlib.Core.Path.{◌≡◌, sym, ap, ◌∙◌}
use mathlib.Core.List.{List, ◌∷◌}
use Rattle.arrays.proofs.Places.{position_index}
use Rattle.jobs.specs.declared.model.Job.{Job}
use Rattle.jobs.specs.Model.{minutes_of}
use Rattle.jobs.specs.Best.{PickSays}
use Rattle.jobs.proofs.Late.{late_version}
use Rattle.week.specs.declared.record.Recipe.{Recipe}
use Rattle.week.specs.declared.record.Batch.{Batch}
use Rattle.week.specs.Record.{Week, max_recipes, no_recipe, batch_at, batch_of, recipe_at, recipe_of}
use Rattle.week.specs.Ordered.{ordered_week}
use Rattle.judge.proofs.Sound.{Sound}
use Rattle.planner.specs.Job.{job_from}
use Rattle.planner.specs.Choose.{first_jobs}
use Rattle.planner.proofs.Jobs.{version_at_lem, job_at_lem}
use Rattle.planner.proofs.AsWritten.{recipe_minutes}

-- of the last of some jobs, which is batch b's
late_job : (t : ℕ) (b : Batch) (js : List Job) (x k : ℕ) → PickSays (job_from t b ∷ js) x k → b.count ≤ max_recipes → x ≤ b.arrival →
    (recipe_of b k).cost ≡ 0
late_job t b js x k says few late =
    elim (ℕ_discrete k 0) [
      | yes z ↦ rw z
      | no n ↦
          let (ks, best) = says.some (omega arith) in
          let at = version_at_lem t b k (omega arith) (omega (arith, best.valid.1)) in
          ap (λ (r : Recipe). r.cost) (position_index no_recipe b.recipes k (omega arith))
          ∙ sym (ap minutes_of at ∙ recipe_minutes (recipe_at b (k - 1)))
          ∙ late_version (job_from t b) js x k ks (omega arith) best.meeting
    ]

pub late_recipe : (w : Week) → Sound (ordered_week w) → (i x k : ℕ) → 1 ≤ i → i ≤ w.count → PickSays (first_jobs w i) x k →
    x ≤ (batch_of (ordered_week w) i).arrival → (recipe_of (batch_of (ordered_week w) i) k).cost ≡ 0
late_recipe w sound zero x k first last says late = absurd (omega arith)
late_recipe w sound (suc h) x k first last says late =
    late_job w.opening (batch_at (ordered_week w) h) (first_jobs w h) x k (rw (job_at_lem w sound h (omega arith)) at says)
    (sound.few h (omega arith)) late
