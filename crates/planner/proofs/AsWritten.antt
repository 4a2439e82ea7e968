-- Demand 2: "the desk's minutes stand as written". What the core is given of a week, by its records: the job and the version at each
-- position.
use Prim.Native.Nat.{ℕ, zero, suc, ◌≤◌, ◌<◌}
use native.Mathlib.Omega.{arith}
use mathlib.Core.Path.{◌≡◌, refl, sym, ap, ◌∙◌}
use mathlib.Core.List.{List}
use lib.ListN.{get_or}
use lib.Dec.{eqb}
use borrow.Author.Tests.{eqb-true}
use Rattle.std.specs.Prelude.{Option, is_none, unwrap_or}
use Rattle.arrays.specs.Position.{at_position, backward}
use Rattle.arrays.specs.Sum.{sum_to}
use Rattle.arrays.proofs.Cases.{cond_cases}
use Rattle.arrays.proofs.Places.{position_index}
use Rattle.jobs.specs.declared.model.Version.{Version}
use Rattle.jobs.specs.declared.model.Job.{Job}
use Rattle.jobs.specs.Model.{no_job, version_of, version_at, minutes_of}
use Rattle.jobs.specs.Choice.{total}
use Rattle.edf.specs.Workload.{ready_at, minutes_at, aside_at}
use Rattle.week.specs.declared.record.Recipe.{Recipe}
use Rattle.week.specs.Record.{Week, max_recipes, no_recipe, batch_at, batch_of, ready_of}
use Rattle.week.specs.Ordered.{ordered_week}
use Rattle.judge.proofs.Sound.{Sound, Named}
use Rattle.planner.specs.Job.{recipe_version, job_from, job_list_of, week_jobs, week_choice}
use Rattle.planner.specs.Written.{chosen_recipe, chosen_minutes, chosen_worth}
use Rattle.planner.proofs.Jobs.{version_at_lem, job_at_lem}

-- a recipe of cost 0 is set aside, and has nothing to read either way
pub recipe_minutes : (r : Recipe) → minutes_of (recipe_version r) ≡ r.cost
recipe_minutes r =
    cond_cases (λ (minutes : Option ℕ). unwrap_or minutes 0 ≡ r.cost) (eqb r.cost 0) (λ e. sym (eqb-true r.cost 0 e)) (λ e. refl)

recipe_aside : (r : Recipe) → is_none (recipe_version r).minutes ≡ eqb r.cost 0
recipe_aside r = cond_cases (λ (minutes : Option ℕ). is_none minutes ≡ eqb r.cost 0) (eqb r.cost 0) sym sym

module _ (w : Week) (sound : Sound (ordered_week w)) where
  pub job_written : (i : ℕ) → 1 ≤ i → i ≤ w.count →
      at_position no_job (job_list_of w).jobs i ≡ job_from w.opening (batch_of (ordered_week w) i)
  job_written zero low high = absurd (omega arith)
  job_written (suc i) low high = job_at_lem w sound i (omega arith)

  pub ready_written : (i : ℕ) → 1 ≤ i → i ≤ w.count → ready_at (job_list_of w) i ≡ ready_of w.opening (batch_of (ordered_week w) i)
  ready_written i low high = ap (λ (j : Job). j.ready) (job_written i low high)

  module _ {choice : List ℕ} (named : Named (ordered_week w) choice) where
    -- the recipe by its index is the one by its number
    pub version_written : (i : ℕ) → 1 ≤ i → i ≤ w.count →
        version_at (job_list_of w) choice i ≡ recipe_version (chosen_recipe w choice i)
    version_written zero low high = absurd (omega arith)
    version_written (suc i) low high =
        let below : i < w.count = omega arith in
        let k = get_or choice i 0 in
        let few : k ≤ max_recipes = omega (arith, named.each i below, sound.few i below) in
        ap (λ (j : Job). version_of j k) (job_at_lem w sound i below)
        ∙ version_at_lem w.opening (batch_at (ordered_week w) i) k (named.each i below).0 few
        ∙ ap recipe_version (sym (position_index no_recipe (batch_at (ordered_week w) i).recipes k (named.each i below).0))

    pub minutes_written : (i : ℕ) → 1 ≤ i → i ≤ w.count → minutes_at (job_list_of w) choice i ≡ chosen_minutes w choice i
    minutes_written i low high = ap minutes_of (version_written i low high) ∙ recipe_minutes (chosen_recipe w choice i)

    pub aside_written : (i : ℕ) → 1 ≤ i → i ≤ w.count → aside_at (job_list_of w) choice i ≡ eqb (chosen_minutes w choice i) 0
    aside_written i low high =
        ap (λ (v : Version). is_none v.minutes) (version_written i low high) ∙ recipe_aside (chosen_recipe w choice i)

    -- the total of a choice is the sum of the worths
    total_to : (n : ℕ) → n ≤ w.count →
        total (backward no_job (job_list_of w).jobs n) (backward 0 choice n) ≡ sum_to (chosen_worth w choice) n
    unfolding sum_to
    total_to zero within = refl
    total_to (suc n) within =
        omega (arith, ap (λ (v : Version). v.worth) (version_written (suc n) (omega arith) within), total_to n (omega arith))

    pub total_written : total (week_jobs w) (week_choice w choice) ≡ sum_to (chosen_worth w choice) w.count
    total_written = total_to w.count (omega arith)
