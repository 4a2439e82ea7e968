-- What the line of a batch says, by the desk's records, the rule and the run.
use Prim.Native.Nat.{ℕ, zero, suc, ◌+◌, ◌≤◌}
use native.Mathlib.Omega.{arith}
use mathlib.Core.Path.{◌≡◌, refl, sym, ap, ◌∙◌}
use mathlib.Core.Bool.{true}
use mathlib.Core.List.{List, [], ◌∷◌}
use lib.Seq.{get_or-take}
use borrow.Author.Tests.{eq-eqb}
use Rattle.arrays.specs.Position.{at_position}
use Rattle.jobs.specs.Rule.{meets}
use Rattle.jobs.specs.Stretches.{no_stretch, stretch_at}
use Rattle.jobs.proofs.Lengths.{stretch_long}
use Rattle.edf.specs.declared.outcome.Outcome.{Outcome}
use Rattle.edf.specs.declared.outcome.Outcome.TheVariants.{SetAside, Finished, Unfinished}
use Rattle.edf.specs.Run.{idle, changes, outcome_numbers}
use Rattle.edf.specs.Workload.{workload_of}
use Rattle.week.specs.Record.{Week, max_minutes}
use Rattle.week.specs.Ordered.{ordered_week}
use Rattle.judge.specs.Fault.{WellFormed}
use Rattle.judge.proofs.Sound.{sound, Named, choice_passes}
use Rattle.planner.specs.Job.{job_list_of, week_jobs, week_choice}
use Rattle.planner.specs.Check.{CheckAnswer, passed, check_answer}
use Rattle.planner.specs.Choose.{ChooseAnswer, plan_choice}
use Rattle.planner.specs.Written.{chosen_minutes}
use Rattle.planner.specs.Run.{RunAnswer, week_log, set_aside, log_answer, run_answer, outcome_said}
use Rattle.planner.proofs.Running.{log_enough, run_faultless, run_answers}
use Rattle.planner.proofs.Station.{take_week}
use Rattle.planner.proofs.Outcomes.{log_says, finished}
use Rattle.planner.proofs.AsWritten.{minutes_written}
use Rattle.planner.proofs.Demands.{check_passes}
use Rattle.report.specs.Report.{finish_of, batch_answer, LineSays}

-- the finish of an outcome, by its number and value
finish_said : (o : Outcome) (k f : ℕ) → k ≤ 1 → outcome_numbers o ≡ k ∷ f ∷ [] → finish_of o ≡ f
unfolding outcome_numbers
finish_said SetAside k f low e = cc
finish_said (Finished minute) k f low e = cc
finish_said (Unfinished left) k f low e = let two : k ≡ 2 = cc in absurd (omega arith)

-- of a choice that meets the rule
module _
    (w : Week) (plan : ChooseAnswer) (list : WellFormed w) (names : Named (ordered_week w) (plan_choice w plan))
    (meeting : meets (week_jobs w) w.closing (week_choice w (plan_choice w plan)) ≡ true)
  where
    abbrev choice : List ℕ
    choice = plan_choice w plan

    abbrev ran : RunAnswer
    ran = run_answer w choice max_minutes

    checked : check_answer w choice ≡ passed w choice
    checked = check_passes w choice list ((choice_passes w choice).1 names) meeting

    ran_log : ran ≡ log_answer (workload_of (job_list_of w) choice) w.opening (week_log w choice)
    ran_log =
        (run_answers w choice max_minutes).passed
        ((run_faultless w choice max_minutes).1 (list, (choice_passes w choice).1 names, log_enough w max_minutes list (omega arith)))

    pub counts_said : (ran.changes ≡ changes (week_log w choice)) × (ran.idle ≡ idle (week_log w choice))
    unfolding log_answer
    counts_said = rw ran_log (refl, refl)

    -- neither Check nor Run refuses it
    pub accepts : ((check_answer w choice).refusal.number ≡ 0) × (ran.refusal.number ≡ 0)
    unfolding passed log_answer
    accepts = (ap (λ (a : CheckAnswer). a.refusal.number) checked, ap (λ (a : RunAnswer). a.refusal.number) ran_log)

    -- the position in the array that Choose answers is that in the choice
    recipe_at_lem : (i : ℕ) → 1 ≤ i → i ≤ w.count → at_position 0 plan.choice i ≡ at_position 0 choice i
    recipe_at_lem zero low high = absurd (omega arith)
    recipe_at_lem (suc i) low high = sym (get_or-take w.count plan.choice i 0 (omega arith))

    -- the stretch that Check answers has the minutes of its recipe
    pub minutes_long : (i : ℕ) → 1 ≤ i → i ≤ w.count →
        let stretch = at_position no_stretch (check_answer w choice).stretches i in
        stretch.start + chosen_minutes w choice i ≡ stretch.end
    unfolding passed
    minutes_long i low high =
        rw (checked, ← minutes_written w (sound w list) names i low high)
        (stretch_long (job_list_of w) choice w.closing meeting i low high)

    -- what Run says of position i
    said : (i : ℕ) → 1 ≤ i → i ≤ w.count →
        outcome_numbers (at_position set_aside ran.batches i) ≡ outcome_said w choice (week_log w choice) i
    said i low high =
        rw ran_log
        ((log_says w (sound w list) choice names []).outcome i low high
        ∙ ap (λ (log : List ℕ). outcome_said w choice log i) (take_week w choice []))

    aside_said : (i : ℕ) → chosen_minutes w choice i ≡ 0 → outcome_said w choice (week_log w choice) i ≡ 0 ∷ 0 ∷ []
    aside_said i none = rw (eq-eqb (chosen_minutes w choice i) 0 none)

    by_stretch : (i : ℕ) → 1 ≤ i → i ≤ w.count → 1 ≤ chosen_minutes w choice i →
        (f : ℕ)
        × (outcome_numbers (at_position set_aside ran.batches i) ≡ 1 ∷ f ∷ [])
        × (f ≤ (stretch_at (job_list_of w) choice w.closing i).end)
    by_stretch = rw ran_log (finished w (sound w list) choice names meeting)

    pub line_says : (i : ℕ) → 1 ≤ i → i ≤ w.count → LineSays w choice i (batch_answer (ordered_week w) plan (check_answer w choice) ran i)
    unfolding batch_answer passed
    line_says i low high =
        let line = batch_answer (ordered_week w) plan (check_answer w choice) ran i in
        let cost : line.cost ≡ chosen_minutes w choice i = omega (arith, minutes_long i low high) in
        let outcome = (at_position set_aside ran.batches i) in
        record {
          number = refl;
          recipe = recipe_at_lem i low high;
          cost = cost;
          start = rw checked;
          end = rw checked;
          aside = λ none. finish_said outcome 0 0 (omega arith) (said i low high ∙ aside_said i (sym cost ∙ none));
          finish = λ some.
              let by = by_stretch i low high (omega arith) in
              sym (said i low high)
              ∙ by.1
              ∙ ap (λ (f : ℕ). 1 ∷ f ∷ []) (sym (finish_said outcome 1 by.0 (omega arith) by.1));
          in_time = λ some.
              let by = by_stretch i low high (omega arith) in
              rw checked (omega (arith, by.2, finish_said outcome 1 by.0 (omega arith) by.1));
        }
