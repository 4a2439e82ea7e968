-- Rearrangements of each other are planned, checked and run alike.
use Prim.Native.Nat.{ℕ}
use mathlib.Core.Path.{◌≡◌, refl, sym, ap, ◌∙◌}
use mathlib.Core.List.{List}
use mathlib.Core.Option.{Option, none, some}
use Rattle.week.specs.Record.{Week}
use Rattle.week.specs.Ordered.{ordered_week, Rearranged}
use Rattle.judge.specs.Fault.{list_fault, WellFormed}
use Rattle.judge.proofs.AnyOrder.{rearranged_passes, one_order}
use Rattle.planner.specs.Job.{listed_jobs, job_list_of}
use Rattle.planner.specs.Check.{rule_fault, check_fault, passed, check_answer}
use Rattle.planner.specs.Choose.{table_fault, fill_fault, choose_fault, week_best, plan_of, choose_answer, table_after}
use Rattle.planner.specs.Run.{log_fault, run_fault, week_log, run_answer, log_after}

module _ {w v : Week} (same : Rearranged w v) (list : WellFormed w) where
  -- what a list is asked and answered by
  alike : (list_fault w ≡ list_fault v) × (ordered_week w ≡ ordered_week v) × (job_list_of w ≡ job_list_of v)
      × (w.opening ≡ v.opening) × (w.closing ≡ v.closing) × (w.count ≡ v.count)
  alike =
      let one = one_order same list in
      (list ∙ sym (rearranged_passes same list), one, ap listed_jobs one, same.opening, same.closing, same.count)

  pub same_check : (choice : List ℕ) → check_answer w choice ≡ check_answer v choice
  unfolding rule_fault check_fault passed check_answer
  same_check choice = let (fault, one, jobs, opening, closing, count) = alike in cc

  same_plan_of : (o : Option (List ℕ)) → plan_of w o ≡ plan_of v o
  unfolding plan_of
  same_plan_of none = refl
  same_plan_of (some ks) = let (fault, one, jobs, opening, closing, count) = alike in cc

  pub same_choose : (size : ℕ) → choose_answer w size ≡ choose_answer v size
  unfolding table_fault choose_fault choose_answer
  same_choose size =
      let (fault, one, jobs, opening, closing, count) = alike in
      let plan = same_plan_of (week_best w) in
      cc

  pub same_table : (table : List ℕ) → table_after w table ≡ table_after v table
  unfolding table_fault fill_fault table_after
  same_table table = let (fault, one, jobs, opening, closing, count) = alike in cc

  pub same_run : (choice : List ℕ) (size : ℕ) → run_answer w choice size ≡ run_answer v choice size
  unfolding log_fault run_fault week_log run_answer
  same_run choice size = let (fault, one, jobs, opening, closing, count) = alike in cc

  pub same_log : (choice log : List ℕ) → log_after w choice log ≡ log_after v choice log
  unfolding log_fault run_fault week_log log_after
  same_log choice log = let (fault, one, jobs, opening, closing, count) = alike in cc
