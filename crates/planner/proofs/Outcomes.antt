-- What Run answers of the log that it leaves: the outcome at each position, by the records, and of a choice that meets the rule.
use Prim.Native.Nat.{ℕ, suc, ◌≤◌}
use native.Mathlib.Omega.{arith}
use mathlib.Core.Path.{◌≡◌, sym, ap, ap₂, ◌∙◌}
use mathlib.Core.Bool.{Bool, true, false}
use mathlib.Core.List.{List, [], ◌∷◌, ◌++◌}
use lib.ListN.{drop}
use borrow.Author.Tests.{ne_eqb}
use Rattle.arrays.specs.Position.{at_position}
use Rattle.arrays.specs.Made.{tabulate}
use Rattle.arrays.proofs.Tabulates.{length_tabulate, position_padded}
use Rattle.arrays.proofs.Places.{position_beyond}
use Rattle.jobs.specs.Rule.{meets}
use Rattle.jobs.specs.Stretches.{stretch_at}
use Rattle.edf.specs.declared.outcome.Outcome.{Outcome}
use Rattle.edf.specs.Run.{entries, idle, changes, outcome_of, outcome_numbers}
use Rattle.edf.specs.Workload.{ready_at, minutes_at, aside_at, choice_log, workload_of, outcome_at}
use Rattle.edf.proofs.OutcomeNumbers.{outcome_numbers_lem}
use Rattle.edf.proofs.Workloads.{workload_outcome}
use Rattle.edf.proofs.InTime.{stretch_in, choice_in_time}
use Rattle.edf.proofs.Finished.{finished_by}
use Rattle.week.specs.Record.{Week, max_batches, span_of}
use Rattle.week.specs.Ordered.{ordered_week}
use Rattle.judge.proofs.Sound.{Sound, Named}
use Rattle.planner.specs.Job.{job_list_of, week_jobs, week_choice}
use Rattle.planner.specs.Written.{chosen_minutes}
use Rattle.planner.specs.Run.{RunAnswer, week_log, set_aside, log_answer, outcome_said, LogSays}
use Rattle.planner.proofs.AsWritten.{minutes_written, aside_written}
use Rattle.planner.proofs.Station.{take_week, feasible}

module _ (w : Week) (sound : Sound (ordered_week w)) (choice : List ℕ) (named : Named (ordered_week w) choice) (log : List ℕ) where
  -- the answer's place at position i
  place_at : (i : ℕ) → 1 ≤ i → i ≤ w.count →
      at_position set_aside (log_answer (workload_of (job_list_of w) choice) w.opening log).batches i
      ≡ outcome_of (aside_at (job_list_of w) choice i) (minutes_at (job_list_of w) choice i) w.opening log i
  unfolding log_answer workload_of
  place_at i low high =
      position_padded max_batches set_aside (outcome_at (workload_of (job_list_of w) choice) w.opening log) w.count i low high
      ∙ workload_outcome (job_list_of w) choice w.opening log i low high

  said_at : (i : ℕ) → 1 ≤ i → i ≤ w.count →
      outcome_numbers (at_position set_aside (log_answer (workload_of (job_list_of w) choice) w.opening log).batches i)
      ≡ outcome_said w choice log i
  said_at i low high =
      ap outcome_numbers (place_at i low high)
      ∙ ap₂ (λ (aside : Bool) (m : ℕ). outcome_numbers (outcome_of aside m w.opening log i))
      (aside_written w sound named i low high) (minutes_written w sound named i low high)
      ∙ outcome_numbers_lem _ _ w.opening log i

  -- a batch that is read has the outcome of its minutes
  read_at_lem : (i : ℕ) → 1 ≤ i → i ≤ w.count → 1 ≤ chosen_minutes w choice i →
      at_position set_aside (log_answer (workload_of (job_list_of w) choice) w.opening log).batches i
      ≡ outcome_of false (minutes_at (job_list_of w) choice i) w.opening log i
  read_at_lem i low high some =
      place_at i low high
      ∙ ap (λ (aside : Bool). outcome_of aside (minutes_at (job_list_of w) choice i) w.opening log i)
      (aside_written w sound named i low high ∙ ne_eqb (chosen_minutes w choice i) 0 (λ z. omega arith))

module _ (w : Week) (sound : Sound (ordered_week w)) (choice : List ℕ) (named : Named (ordered_week w) choice) where
  -- the answer by the log
  abbrev answer : RunAnswer
  answer = log_answer (workload_of (job_list_of w) choice) w.opening (week_log w choice)

  pub log_says : (log : List ℕ) → LogSays w choice (week_log w choice ++ drop (span_of w) log) answer
  unfolding log_answer idle workload_of
  log_says log =
      let week = sym (take_week w choice log) in
      let outcomes : ℕ → Outcome = λ i. outcome_at (workload_of (job_list_of w) choice) w.opening (week_log w choice) (suc i) in
      record {
        idle = ap (entries 0) week;
        changes = ap changes week;
        outcome = λ i low high.
            said_at w sound choice named (week_log w choice) i low high ∙ ap (λ (l : List ℕ). outcome_said w choice l i) week;
        beyond = λ i past.
            position_beyond max_batches set_aside (tabulate outcomes 0 w.count) i
            (omega (arith, length_tabulate outcomes 0 w.count));
      }

  -- a choice that meets the rule
  pub finished : meets (week_jobs w) w.closing (week_choice w choice) ≡ true →
      (i : ℕ) → 1 ≤ i → i ≤ w.count → 1 ≤ chosen_minutes w choice i →
      (f : ℕ)
      × (outcome_numbers (at_position set_aside answer.batches i) ≡ 1 ∷ f ∷ [])
      × (f ≤ (stretch_at (job_list_of w) choice w.closing i).end)
  unfolding outcome_numbers week_log choice_log
  finished meeting i low high some =
      let plan = feasible w choice sound named meeting in
      let by =
      finished_by w.count (ready_at (job_list_of w)) (minutes_at (job_list_of w) choice) w.opening (span_of w)
      (stretch_at (job_list_of w) choice w.closing i).end i low (stretch_in plan i low high).from
      (choice_in_time plan (span_of w) (omega arith) i low high)
      in
      (by.0, ap outcome_numbers (read_at_lem w sound choice named (week_log w choice) i low high some ∙ by.1), by.2)
