-- The buyer's demands, each sentence above its theorem; docs/PROMISES.md has a row for each, and 01's "The words of demand 3" says what
-- their words mean. The contracts say that the code answers what the definitions say, on every input; the theorems here say that the
-- definitions are what the buyer asked for.
use Prim.Native.Nat.{ℕ, ◌-◌, ◌≤◌, ◌<◌}
use native.Mathlib.Decide.{ℕ_discrete}
use native.Mathlib.Omega.{arith}
use mathlib.Core.Path.{◌≡◌, refl, sym, ap, ◌∙◌}
use mathlib.Core.Logic.{◌↔◌, ◌⊎◌, inl, inr, ⊎_elim}
use mathlib.Core.Bool.{true}
use mathlib.Core.List.{List, [], ◌∷◌, ◌++◌}
use lib.ListN.{length, get_or, drop}
use borrow.Author.Tests.{eqb-true, not-false}
use Rattle.arrays.specs.Position.{at_position, forward}
use Rattle.arrays.specs.Rearranged.{Perm}
use Rattle.arrays.specs.Sum.{sum_to}
use Rattle.arrays.proofs.Places.{length_backward, length_forward, position_beyond}
use Rattle.jobs.specs.Model.{no_job}
use Rattle.jobs.specs.declared.rule.Stretch.{Stretch}
use Rattle.jobs.specs.Rule.{meets, failing, stretches}
use Rattle.jobs.specs.Stretches.{no_stretch, stretch_at}
use Rattle.jobs.specs.Choice.{total, Higher}
use Rattle.jobs.proofs.ChoiceArrays.{length_choice, names_valid}
use Rattle.jobs.proofs.Pass.{length_all}
use Rattle.jobs.proofs.Rules.{meets_failing}
use Rattle.jobs.proofs.BestOfAll.{best_some, best_none, none_best, pick_says}
use Rattle.edf.specs.Run.{outcome_numbers}
use Rattle.select.proofs.Picks.{filled_size}
use Rattle.select.proofs.Entries.{filled_entry, filled_later}
use Rattle.select.specs.Table.{entry_at}
use Rattle.week.specs.Record.{Week, max_batches, batch_of, recipe_of, span_of, ready_of}
use Rattle.week.specs.Order.{InOrder}
use Rattle.week.specs.Written.{batches_of}
use Rattle.week.specs.Ordered.{ordered_week, Rearranged}
use Rattle.week.specs.Refusal.{refused}
use Rattle.week.specs.RefusalOrder.{AtFault}
use Rattle.judge.specs.Fault.{WellFormed, WellChosen}
use Rattle.week.proofs.First.{number_of_lem, refused_if_none, refuses_too}
use Rattle.week.proofs.Naming.{at_fault}
use Rattle.judge.proofs.Sound.{Sound, sound, Named, choice_passes, choice_proper, handed_passes}
use Rattle.judge.proofs.AnyOrder.{rearranged_passes, one_order, in_order_rearranged, in_order_strict}
use Rattle.judge.proofs.DueOrder.{position_order}
use Rattle.week.proofs.Passes.{first_of_passes}
use Rattle.judge.proofs.WellFormed.{list_proper}
use Rattle.planner.specs.Job.{job_list_of, week_jobs, week_choice}
use Rattle.planner.specs.Check.{rule_fault, check_fault, passed, refused_check, check_answer}
use Rattle.planner.specs.Choose.{width_of, choose_fault, refused_plan, plan_of, choose_answer, table_after, plan_choice, FillsTable}
use Rattle.planner.specs.Choose.{first_jobs, PicksTable, BestPlan, SomePlan, NoPlan, LongTable}
use Rattle.planner.specs.Written.{chosen_minutes, chosen_worth, written_stretch, MeetsAsWritten}
use Rattle.planner.specs.Run.{run_fault, week_log, set_aside, refused_run, run_answer, log_after, LongLog, unread_at}
use Rattle.planner.specs.Run.{StationLog, LogSays, InTime}
use Rattle.planner.specs.Holds.{CheckHolds, check_numbers, ChooseHolds, choose_numbers, RunHolds, run_numbers}
use Rattle.planner.proofs.Jobs.{handed_names, names_handed, plan_names, list_choice_lem}
use Rattle.planner.proofs.AsWritten.{total_written}
use Rattle.planner.proofs.WrittenRule.{rule_written, stretch_written, written_by_due}
use Rattle.planner.proofs.LateBatch.{late_recipe}
use Rattle.planner.proofs.Checking.{check_refusal, fault_rule, rule_met, rule_broken, check_answers}
use Rattle.planner.proofs.Choosing.{choose_refusal, long_table, fill_faultless, plan_passed, answer_fault, fills_faultless, plan_exists}
use Rattle.planner.proofs.Choosing.{plan_chosen, plan_absent, table_kept, table_filled}
use Rattle.planner.proofs.Running.{run_refusal, run_faultless, log_kept, log_written, long_log, run_answers}
use Rattle.planner.proofs.Holding.{check_holds, check_naming, choose_holds, choose_naming, run_holds, run_naming}
use Rattle.planner.proofs.Station.{station_log, week_in_time}
use Rattle.planner.proofs.Outcomes.{log_says, finished}
use Rattle.planner.proofs.AnyOrder.{same_check, same_choose, same_table, same_run, same_log}

-- Demand 1: "The answer to any list of batches, in order or damaged, is either a plan or one numbered refusal, which says which batch is at
-- fault where a batch is." 01: "The number answered is the first in this order whose condition holds, and nothing else is refused." The
-- condition holds of the very batch and recipe that are named, and none that stands before it in the order does: every batch before passes
-- whole.
pub check_at_fault : (w : Week) (choice : List ℕ) →
    AtFault (CheckHolds w choice) check_numbers w.count 0 (check_answer w choice).refusal
check_at_fault w choice = rw (check_refusal w choice) (at_fault (check_holds w choice) (check_naming w choice))

pub choose_at_fault : (w : Week) (size : ℕ) → AtFault (ChooseHolds w size) choose_numbers w.count 0 (choose_answer w size).refusal
choose_at_fault w size = rw (choose_refusal w size) (at_fault (choose_holds w size) (choose_naming w size))

pub run_at_fault : (w : Week) (choice : List ℕ) (size : ℕ) →
    AtFault (RunHolds w choice size) run_numbers w.count 0 (run_answer w choice size).refusal
run_at_fault w choice size = rw (run_refusal w choice size) (at_fault (run_holds w choice size) (run_naming w choice size))

-- Check's contract answers `check_answer` on every input. Where that refuses, it is the first refusal of Check's order and 0
-- everywhere else.
pub check_refuses : (w : Week) (choice : List ℕ) → ((check_answer w choice).refusal.number ≡ 0 → ⊥) →
    check_answer w choice ≡ refused_check (check_fault w choice)
check_refuses w choice n = (check_answers w choice).refused refl (refuses_too (check_refusal w choice) n)

-- Choose's contract answers `choose_answer` and leaves `table_after` on every input. Where it refuses, the answer is the first
-- refusal of Choose's order and 0 everywhere else ..
pub choose_refuses : (w : Week) (size : ℕ) → ((choose_answer w size).refusal.number ≡ 0 → ⊥) →
    choose_answer w size ≡ refused_plan (choose_fault w size)
choose_refuses = answer_fault

-- .. and "A refused call alters no memory it was lent, but for the one table that document 01 names."
pub choose_keeps : (w : Week) (table : List ℕ) → (FillsTable (choose_answer w (length table)) → ⊥) → table_after w table ≡ table
choose_keeps w table n = table_kept w table refl (λ z. n ((fills_faultless w (length table)).1 z))

-- That table, where Choose answers a plan or 14: each of its bytes is what 01 says of it ..
module _ (w : Week) (table : List ℕ) (fills : FillsTable (choose_answer w (length table))) where
  passed_both : WellFormed w × LongTable w (length table)
  passed_both = (fill_faultless w (length table)).0 ((fills_faultless w (length table)).0 fills)

  pub choose_fills : PicksTable w table (table_after w table)
  choose_fills =
      rw (table_filled w table ((fills_faultless w (length table)).0 fills))
      record {
        size = filled_size (job_list_of w) w.opening (width_of w) table ((long_table w (length table)).0 passed_both.1);
        entry = λ i x first last from to.
            rw (filled_entry (job_list_of w) w.opening (width_of w) table
            (record { first = first; last = last; from = from; to = omega arith }))
            (pick_says (first_jobs w i) x (omega (arith, length_backward no_job (job_list_of w).jobs i)));
        later = filled_later (job_list_of w) w.opening (width_of w) table;
      }

  -- .. and "A batch arriving at or after x is never given a recipe there that needs minutes".
  pub late_batch : (i x : ℕ) → 1 ≤ i → i ≤ w.count → w.opening ≤ x → x ≤ w.closing → x ≤ (batch_of (ordered_week w) i).arrival →
      (recipe_of (batch_of (ordered_week w) i) (get_or (table_after w table) (entry_at w.opening (width_of w) i x) 0)).cost ≡ 0
  late_batch i x first last from to =
      late_recipe w (sound w passed_both.0) i x _ first last (choose_fills.entry i x first last from to)

-- Run's contract answers `run_answer` and leaves `log_after` on every input. 01: "Run takes any well-formed choice, also one that
-- breaks the rule", of a well-formed list, with a log that 12 does not catch ..
pub run_runs : (w : Week) (choice : List ℕ) (size : ℕ) →
    ((run_answer w choice size).refusal.number ≡ 0) ↔ (WellFormed w × WellChosen w choice × LongLog w size)
run_runs w choice size =
    let same = number_of_lem (run_refusal w choice size) in
    let faultless = run_faultless w choice size in
    (λ z. faultless.0 (sym same ∙ z), λ h. same ∙ faultless.1 h)

-- .. and where it refuses, the answer is the first refusal of Run's order, 0 and set aside everywhere else, and the log is kept.
pub run_refuses : (w : Week) (choice : List ℕ) (size : ℕ) → ((run_answer w choice size).refusal.number ≡ 0 → ⊥) →
    run_answer w choice size ≡ refused_run (run_fault w choice size)
run_refuses w choice size n = (run_answers w choice size).refused refl (refuses_too (run_refusal w choice size) n)

pub run_keeps : (w : Week) (choice log : List ℕ) → ((run_answer w choice (length log)).refusal.number ≡ 0 → ⊥) →
    log_after w choice log ≡ log
run_keeps w choice log n = log_kept w choice log refl (refuses_too (run_refusal w choice (length log)) n)

-- 01, "Operations": "Places of an answer beyond n hold 0 (in the run's answer for each batch, set aside)." On every input: a refused
-- answer holds nothing else anywhere.
pub check_beyond : (w : Week) (choice : List ℕ) (i : ℕ) → w.count < i →
    at_position no_stretch (check_answer w choice).stretches i ≡ no_stretch
unfolding passed refused_check
check_beyond w choice i past =
    elim (ℕ_discrete (check_fault w choice).number 0) [
      | yes z ↦
          rw ((check_answers w choice).passed z)
          (position_beyond max_batches no_stretch (forward (stretches (week_jobs w) w.closing (week_choice w choice))) i
          (omega (
            arith,
            length_forward (stretches (week_jobs w) w.closing (week_choice w choice)),
            length_all (job_list_of w).jobs choice w.closing w.count,
          )))
      | no n ↦ rw ((check_answers w choice).refused refl n) (position_beyond max_batches no_stretch [] i (omega arith))
    ]

pub choose_beyond : (w : Week) (size i : ℕ) → w.count < i → at_position 0 (choose_answer w size).choice i ≡ 0
unfolding plan_of refused_plan
choose_beyond w size i past =
    elim (ℕ_discrete (choose_answer w size).refusal.number 0) [
      | yes z ↦
          let (ks, first) = plan_exists w size z in
          let whole = length_choice (job_list_of w) ks (best_some (week_jobs w) w.closing ks first).valid in
          rw (plan_passed w size ((fills_faultless w size).0 (inl z)) first)
          (position_beyond max_batches 0 (forward ks) i (omega (arith, length_forward ks, whole)))
      | no n ↦ rw (choose_refuses w size n) (position_beyond max_batches 0 [] i (omega arith))
    ]

pub run_beyond : (w : Week) (choice : List ℕ) (size i : ℕ) → w.count < i →
    at_position set_aside (run_answer w choice size).batches i ≡ set_aside
unfolding refused_run
run_beyond w choice size i past =
    elim (ℕ_discrete (run_fault w choice size).number 0) [
      | yes z ↦
          let passed = (run_faultless w choice size).0 z in
          rw ((run_answers w choice size).passed z)
          ((log_says w (sound w passed.0) choice ((choice_passes w choice).0 passed.1) []).beyond i past)
      | no n ↦ rw ((run_answers w choice size).refused refl n) (position_beyond max_batches set_aside [] i (omega arith))
    ]

-- Demand 2: "The rule that a plan must meet is the backward rule of the ECRTS 2008 paper on multiversion real-time systems, as document
-- 01 writes it out." "Guessing how long a reading may take is not wanted, so the desk's minutes stand as written." What it asks of the
-- jobs that a week becomes, it asks of the arrivals, dues and costs that the desk wrote ..
module _ (w : Week) (choice : List ℕ) (list : WellFormed w) (handed : WellChosen w choice) where
  pub rule_as_written : (meets (week_jobs w) w.closing (week_choice w choice) ≡ true) ↔ MeetsAsWritten w choice
  rule_as_written = rule_written w (sound w list) ((choice_passes w choice).0 handed)

  -- .. and the stretches that it gives them are those of these numbers.
  pub stretches_as_written : (i : ℕ) → 1 ≤ i → i ≤ w.count →
      stretch_at (job_list_of w) choice w.closing i ≡ written_stretch w choice i
  stretches_as_written = stretch_written w (sound w list) ((choice_passes w choice).0 handed)

  -- "For a well-formed list, a plan that meets it is passed" ..
  by_rule : check_fault w choice ≡ rule_fault w choice
  by_rule = fault_rule w choice ((handed_passes w choice).1 (list, handed))

  pub check_passes : meets (week_jobs w) w.closing (week_choice w choice) ≡ true → check_answer w choice ≡ passed w choice
  check_passes met =
      (check_answers w choice).passed
      (number_of_lem (by_rule ∙ rule_met w choice ((meets_failing (week_jobs w) w.closing (week_choice w choice)).0 met)))

  -- .. where it does not meet the rule, Check says 15 and "the first failing position met going backward" ..
  pub check_breaks : (meets (week_jobs w) w.closing (week_choice w choice) ≡ true → ⊥) →
      (check_answer w choice).refusal ≡ refused 15 (failing (week_jobs w) w.closing (week_choice w choice)) 0
  check_breaks unmet =
      check_refusal w choice
      ∙ by_rule
      ∙ rule_broken w choice (λ z. unmet ((meets_failing (week_jobs w) w.closing (week_choice w choice)).1 z))

-- .. "and no other is."
pub record Passed (w : Week) (choice : List ℕ) : Type 0 where
  pub list : WellFormed w
  pub handed : WellChosen w choice
  pub meeting : meets (week_jobs w) w.closing (week_choice w choice) ≡ true

pub check_passed : (w : Week) (choice : List ℕ) → (check_answer w choice).refusal.number ≡ 0 → Passed w choice
unfolding check_fault rule_fault
check_passed w choice z =
    let (list, (handed, (rule, _))) = (first_of_passes _).0 (number_of_lem (sym (check_refusal w choice)) ∙ z) in
    record {
      list = list_proper w list;
      handed = choice_proper (ordered_week w) choice handed;
      meeting =
          (meets_failing (week_jobs w) w.closing (week_choice w choice)).1
          (eqb-true _ _ (not-false _ (refused_if_none 15 _ 0 refl _ rule)));
    }

-- 01: "Check: list and choice, answering the stretches and the total." Of a choice that is passed, each stretch is the one that the
-- desk's own numbers have, and "The total of a choice is the sum of the chosen worths", those that the desk wrote.
module _ (w : Week) (choice : List ℕ) (passes : (check_answer w choice).refusal.number ≡ 0) where
  met : Passed w choice
  met = check_passed w choice passes

  answered : check_answer w choice ≡ passed w choice
  answered = check_passes w choice met.list met.handed met.meeting

  pub check_stretches : (i : ℕ) → 1 ≤ i → i ≤ w.count →
      at_position no_stretch (check_answer w choice).stretches i ≡ written_stretch w choice i
  unfolding passed
  check_stretches = rw answered (stretches_as_written w choice met.list met.handed)

  pub check_total : (check_answer w choice).total ≡ sum_to (chosen_worth w choice) w.count
  unfolding passed
  check_total = rw answered (total_written w (sound w met.list) ((choice_passes w choice).0 met.handed))

-- "The station's run is earliest due first, minute by minute, by the rule given there.": a log that Run has written ..
module _ (w : Week) (choice log : List ℕ) (runs : (run_answer w choice (length log)).refusal.number ≡ 0) where
  nothing_refuses : (run_fault w choice (length log)).number ≡ 0
  nothing_refuses = number_of_lem (sym (run_refusal w choice (length log))) ∙ runs

  all_passed : WellFormed w × WellChosen w choice × LongLog w (length log)
  all_passed = (run_faultless w choice (length log)).0 nothing_refuses

  list_sound : Sound (ordered_week w)
  list_sound = sound w all_passed.0

  choice_named : Named (ordered_week w) choice
  choice_named = (choice_passes w choice).0 all_passed.1

  written : log_after w choice log ≡ week_log w choice ++ drop (span_of w) log
  written = log_written w choice log nothing_refuses

  -- .. has each minute as 01 says, over the arrivals and costs that the desk wrote, and keeps the bytes after them; so here too "the
  -- desk's minutes stand as written";
  pub run_reads : StationLog w choice log (log_after w choice log)
  run_reads = rw written (station_log w choice log list_sound choice_named ((long_log w (length log)).0 all_passed.2))

  -- .. and a batch that is read in a minute is due no later than any other that has arrived and has minutes left.
  pub earliest_due : (m : ℕ) → w.opening ≤ m → m < w.closing →
      let k = get_or (log_after w choice log) (m - w.opening) 0 in
      1 ≤ k →
      (i : ℕ) → 1 ≤ i → i ≤ w.count → ready_of w.opening (batch_of (ordered_week w) i) ≤ m →
      1 ≤ unread_at w choice (log_after w choice log) m i → (batch_of (ordered_week w) k).due ≤ (batch_of (ordered_week w) i).due
  earliest_due m from to some i low high arrived unread =
      let reads = run_reads.reads m from to in
      position_order w all_passed.0 _ i some (reads.first i low high arrived unread).1 high

  -- The answer says of that log what 01 asks: each outcome, the idle minutes, the changes.
  pub run_says : LogSays w choice (log_after w choice log) (run_answer w choice (length log))
  run_says = rw (written, (run_answers w choice (length log)).passed nothing_refuses) (log_says w list_sound choice choice_named log)

-- Demand 3: "In the station's run of the chosen plan, the minutes that each batch gets before its stretch ends number exactly its recipe's
-- minutes." It holds of every choice that meets the rule, ..
module _
    (w : Week) (choice log : List ℕ) (runs : (run_answer w choice (length log)).refusal.number ≡ 0)
    (meeting : meets (week_jobs w) w.closing (week_choice w choice) ≡ true)
  where
    pub run_in_time : InTime w choice (log_after w choice log)
    run_in_time =
        rw (written w choice log runs)
        (week_in_time w choice log (list_sound w choice log runs) (choice_named w choice log runs) meeting)

    -- .. so that every batch that is read is finished by the end of its stretch.
    pub run_finishes : (i : ℕ) → 1 ≤ i → i ≤ w.count → 1 ≤ chosen_minutes w choice i →
        (f : ℕ)
        × (outcome_numbers (at_position set_aside (run_answer w choice (length log)).batches i) ≡ 1 ∷ f ∷ [])
        × (f ≤ (stretch_at (job_list_of w) choice w.closing i).end)
    run_finishes =
        rw ((run_answers w choice (length log)).passed (nothing_refuses w choice log runs))
        (finished w (list_sound w choice log runs) choice (choice_named w choice log runs) meeting)

    -- "No parish opens before its batch has been read.": it is finished by its due minute.
    pub run_by_due : (i : ℕ) → 1 ≤ i → i ≤ w.count → 1 ≤ chosen_minutes w choice i →
        (f : ℕ)
        × (outcome_numbers (at_position set_aside (run_answer w choice (length log)).batches i) ≡ 1 ∷ f ∷ [])
        × (f ≤ (batch_of (ordered_week w) i).due)
    run_by_due i low high some =
        let (f, is, in_time) = run_finishes i low high some in
        let written = stretch_written w (list_sound w choice log runs) (choice_named w choice log runs) i low high in
        (f, is, omega (arith, in_time, ap (λ (s : Stretch). s.end) written, written_by_due w choice i some))

-- A plan that Choose answers.
module _ (w : Week) (size : ℕ) (planned : (choose_answer w size).refusal.number ≡ 0) where
  list_passed : WellFormed w
  list_passed = ((fill_faultless w size).0 ((fills_faultless w size).0 (inl planned))).0

  -- it as a choice ..
  abbrev plan : List ℕ
  plan = plan_choice w (choose_answer w size)

  -- .. which is well formed
  pub choose_names : Named (ordered_week w) plan
  unfolding plan_of
  choose_names =
      let some = plan_exists w size planned in
      let fine = sound w list_passed in
      rw (plan_passed w size ((fills_faultless w size).0 (inl planned)) some.1)
      (names_handed w fine (plan_names w fine some.0 (best_some (week_jobs w) w.closing some.0 some.1).valid))

  -- "Whatever list a plan is chosen for, the plan meets the rule, and the total answered is the sum of its recipes' worths", those that
  -- the desk wrote.
  pub choose_meets : meets (week_jobs w) w.closing (week_choice w plan) ≡ true
  choose_meets = rw (list_choice_lem w (choose_answer w size).choice) (plan_chosen w size planned).0.meeting

  pub choose_total : (choose_answer w size).total ≡ sum_to (chosen_worth w plan) w.count
  choose_total =
      (plan_chosen w size planned).1
      ∙ ap (total (week_jobs w)) (sym (list_choice_lem w (choose_answer w size).choice))
      ∙ total_written w (sound w list_passed) choose_names

  -- 01: "Run with the same list, with that plan as its choice and with a log that 12 does not catch".
  module _ (log : List ℕ) (long : LongLog w (length log)) where
    pub choose_runs : (run_answer w plan (length log)).refusal.number ≡ 0
    choose_runs = (run_runs w plan (length log)).1 (list_passed, (choice_passes w plan).1 choose_names, long)

    pub choose_in_time : InTime w plan (log_after w plan log)
    choose_in_time = run_in_time w plan log choose_runs choose_meets

  -- "Every other choice of one recipe a batch that meets the rule has a smaller total, or the same total and a higher recipe number at the
  -- last batch where the two differ." With the two before: all that demand 3 says of the plan.
  pub choose_best : BestPlan w (choose_answer w size)
  choose_best =
      let best = plan_chosen w size planned in
      record { chosen = best.0; summed = best.1; in_time = choose_in_time }

-- "A well-formed list, with a table long enough (and a recipe buffer long enough, where one is lent), is refused for want of a plan
-- exactly when no choice meets the rule" ..
pub choose_none : (w : Week) (size : ℕ) →
    ((choose_answer w size).refusal.number ≡ 14) ↔ (WellFormed w × LongTable w size × NoPlan w)
unfolding plan_of refused_plan
choose_none w size = (
  λ f.
      let passed = (fill_faultless w size).0 ((fills_faultless w size).0 (inr f)) in
      (passed.0, passed.1, best_none (week_jobs w) w.closing (plan_absent w size f)),
  λ h. rw (plan_passed w size ((fill_faultless w size).1 (h.0, h.1)) (none_best (week_jobs w) w.closing h.2)),
)

-- .. "and is given a plan whenever one does." 01: "and nothing else is refused".
pub choose_plans : (w : Week) (size : ℕ) →
    ((choose_answer w size).refusal.number ≡ 0) ↔ (WellFormed w × LongTable w size × SomePlan w)
choose_plans w size = (
  λ z.
      let passed = (fill_faultless w size).0 ((fills_faultless w size).0 (inl z)) in
      let best = (plan_chosen w size z).0 in
      (passed.0, passed.1, (week_choice w (choose_answer w size).choice, best.valid, best.meeting)),
  λ (list, long, (choice, valid, meeting)).
      ⊎_elim (λ z. z) (λ f. absurd (((choose_none w size).0 f).2 choice valid meeting))
      ((fills_faultless w size).1 ((fill_faultless w size).1 (list, long))),
)

-- So no choice that Check passes is better than the one that Choose answers.
pub choose_over_check : (w : Week) (size : ℕ) → (choose_answer w size).refusal.number ≡ 0 →
    (choice : List ℕ) → (check_answer w choice).refusal.number ≡ 0 →
    (week_choice w choice ≡ week_choice w (choose_answer w size).choice → ⊥) →
    ((check_answer w choice).total < (choose_answer w size).total)
    ⊎ (((check_answer w choice).total ≡ (choose_answer w size).total)
    × Higher (week_choice w (choose_answer w size).choice) (week_choice w choice))
unfolding passed
choose_over_check w size z choice e other =
    let plan = choose_best w size z in
    let p = check_passed w choice e in
    let names = handed_names w (sound w p.list) ((choice_passes w choice).0 p.handed) in
    rw (check_passes w choice p.list p.handed p.meeting, plan.summed)
    (plan.chosen.others (week_choice w choice) (names_valid names) p.meeting other)

-- Document 02: "Choices, answers, tables, logs and the recipe buffer follow the ordered list": the batches of a list, none lost or doubled,
-- each of which stands before every later one; 01: "Batches stand in order of due minute, then ready minute, then number."
pub record Ordering (w : Week) : Type 0 where
  pub rearranged : Perm (batches_of w) (batches_of (ordered_week w))
  pub order : InOrder w.opening (batches_of (ordered_week w))

pub ordered_list : (w : Week) → WellFormed w → Ordering w
ordered_list w list = record { rearranged = (in_order_rearranged w list).batches; order = in_order_strict w list }

-- "Two accepted lists that are rearrangements of each other get the same plan.": where one is accepted so is the other, both have one list
-- in order, and they are checked, planned and run alike, with one table and one log.
pub record Alike (w v : Week) : Type 0 where
  pub list : WellFormed v
  pub ordered : ordered_week w ≡ ordered_week v
  pub checks : (choice : List ℕ) → check_answer w choice ≡ check_answer v choice
  pub plans : (size : ℕ) → choose_answer w size ≡ choose_answer v size
  pub fills : (table : List ℕ) → table_after w table ≡ table_after v table
  pub runs : (choice : List ℕ) (size : ℕ) → run_answer w choice size ≡ run_answer v choice size
  pub logs : (choice log : List ℕ) → log_after w choice log ≡ log_after v choice log

pub rearranged_alike : {w v : Week} → Rearranged w v → WellFormed w → Alike w v
rearranged_alike same list =
    record {
      list = rearranged_passes same list;
      ordered = one_order same list;
      checks = same_check same list;
      plans = same_choose same list;
      fills = same_table same list;
      runs = same_run same list;
      logs = same_log same list;
    }
