-- The report's lines: which of the three answers makes them, and that a plan which is chosen can be printed.
use Prim.Native.Nat.{ℕ, ◌≤◌}
use native.Mathlib.Omega.{arith}
use mathlib.Core.Path.{◌≡◌, refl, sym, ap, ap₂, subst, ◌∙◌}
use mathlib.Core.Logic.{inl}
use mathlib.Core.List.{List, flatten}
use Rattle.std.specs.Prelude.{Ok, Err}
use Rattle.arrays.proofs.Flattened.{flatten_one}
use Rattle.week.specs.declared.refusal.Fault.{Fault}
use Rattle.week.specs.Record.{Week, max_batches, max_minutes}
use Rattle.week.specs.Ordered.{ordered_week}
use Rattle.week.specs.Fault.{numbers}
use Rattle.judge.specs.Fault.{WellFormed}
use Rattle.week.proofs.First.{refuses_too}
use Rattle.week.proofs.Faults.{fault_refuses}
use Rattle.week.proofs.Answering.{answers}
use Rattle.judge.proofs.Sound.{sound}
use Rattle.judge.proofs.AnyOrder.{in_order_rearranged, in_order_again}
use Rattle.planner.specs.declared.choose.Plan.{Plan}
use Rattle.planner.specs.Check.{CheckAnswer, refused_check, checked_answer, check_answer}
use Rattle.planner.specs.Choose.{ChooseAnswer, max_picks, refused_plan, chosen_answer, plan_choice, choose_answer}
use Rattle.planner.specs.Run.{RunAnswer, refused_run, ran_answer, run_answer}
use Rattle.planner.proofs.Choosing.{fill_faultless, fills_faultless}
use Rattle.planner.proofs.Demands.{choose_names, choose_meets}
use Rattle.planner.proofs.AnyOrder.{same_check, same_choose, same_run}
use Rattle.sheet.specs.List.{sheet_week}
use Rattle.sheet.specs.Read.{ReadAnswer, refused_reading, answer_of, read_answer}
use Rattle.sheet.proofs.Reading.{handed_week}
use Rattle.sheet.proofs.WellWritten.{read_faultless}
use Rattle.text.specs.Line.{refusal_line}
use Rattle.report.specs.Report.{lines_by, plan_lines, week_lines, report_lines, report_of}
use Rattle.report.specs.Contract.{Printable}
use Rattle.report.proofs.Said.{minutes_long, accepts}

-- of a list
module _ (w : Week) where
  pub week_refused : ((choose_answer w max_picks).refusal.number ≡ 0 → ⊥) →
      flatten (week_lines w) ≡ refusal_line (choose_answer w max_picks).refusal
  unfolding week_lines
  week_refused n = ap flatten ((answers _ _ _).refused refl n) ∙ flatten_one _

  pub week_planned : (choose_answer w max_picks).refusal.number ≡ 0 → week_lines w ≡ plan_lines w (choose_answer w max_picks)
  unfolding week_lines
  week_planned z = (answers _ _ _).passed z

  pub planned_list : (choose_answer w max_picks).refusal.number ≡ 0 → WellFormed w
  planned_list z = ((fill_faultless w max_picks).0 ((fills_faultless w max_picks).0 (inl z))).0

  pub printable : (choose_answer w max_picks).refusal.number ≡ 0 →
      Printable w (check_answer w (plan_choice w (choose_answer w max_picks)))
  printable z =
      let list = planned_list z in
      record {
        most = (sound w list).most;
        forward = λ i low high.
            omega (
              arith,
              minutes_long w (choose_answer w max_picks) list (choose_names w max_picks z) (choose_meets w max_picks z) i low high,
            );
      }

  -- what refuses to choose a plan is reported
  pub choose_refused : (fault : Fault) → chosen_answer (Err fault) ≡ choose_answer w max_picks →
      flatten (week_lines w) ≡ refusal_line (numbers fault)
  unfolding refused_plan
  choose_refused fault is =
      let named : numbers fault ≡ (choose_answer w max_picks).refusal = ap (λ (a : ChooseAnswer). a.refusal) is in
      week_refused (refuses_too named (fault_refuses fault)) ∙ ap refusal_line (sym named)

  -- the list in order has the same lines
  pub in_order_lines : WellFormed w → week_lines (ordered_week w) ≡ week_lines w
  unfolding week_lines plan_lines
  in_order_lines list =
      let same = in_order_rearranged w list in
      let choice = plan_choice w (choose_answer w max_picks) in
      let plans = same_choose same list max_picks in
      let checks = same_check same list choice in
      let runs = same_run same list choice max_minutes in
      let again = in_order_again w list in
      cc

-- of a plan that the code has chosen: Check and Run do not refuse it, and their answers make its lines
module _ (w : Week) (plan : Plan) (is : chosen_answer (Ok plan) ≡ choose_answer w max_picks) where
  planned : (choose_answer w max_picks).refusal.number ≡ 0
  planned = sym (ap (λ (a : ChooseAnswer). a.refusal.number) is)

  abbrev best : ChooseAnswer
  best = choose_answer w max_picks

  abbrev choice : List ℕ
  choice = plan_choice w (chosen_answer (Ok plan))

  pub few : w.count ≤ max_batches
  few = (sound w (planned_list w planned)).most

  pub not_refused : (fault : Fault) →
      (checked_answer (Err fault) ≡ check_answer w choice → ⊥) × (ran_answer (Err fault) ≡ run_answer w choice max_minutes → ⊥)
  unfolding refused_check refused_run
  not_refused fault =
      let accepted =
      subst
      (λ (p : ChooseAnswer).
      ((check_answer w (plan_choice w p)).refusal.number ≡ 0)
      × ((run_answer w (plan_choice w p) max_minutes).refusal.number ≡ 0))
      (sym is)
      (accepts w best (planned_list w planned) (choose_names w max_picks planned) (choose_meets w max_picks planned)) in (
        λ e. fault_refuses fault (ap (λ (a : CheckAnswer). a.refusal.number) e ∙ accepted.0),
        λ e. fault_refuses fault (ap (λ (a : RunAnswer). a.refusal.number) e ∙ accepted.1),
      )

  module _ {checked : CheckAnswer} (done : checked ≡ check_answer w choice) where
    pub printable_lem : Printable w checked
    printable_lem =
        subst (Printable w) (sym done)
        (subst (λ (p : ChooseAnswer). Printable w (check_answer w (plan_choice w p))) (sym is) (printable w planned))

    pub lines_made : {ran : RunAnswer} → ordered_week w ≡ w → ran ≡ run_answer w choice max_minutes →
        flatten (lines_by w (chosen_answer (Ok plan)) checked ran) ≡ flatten (week_lines w)
    unfolding plan_lines
    lines_made order runs =
        ap₂ (λ (c : CheckAnswer) (r : RunAnswer). flatten (lines_by w (chosen_answer (Ok plan)) c r)) done runs
        ∙ ap (λ (v : Week). flatten (lines_by v (chosen_answer (Ok plan)) (check_answer w choice) (run_answer w choice max_minutes)))
        (sym order)
        ∙ ap (λ (p : ChooseAnswer). flatten (plan_lines w p)) is
        ∙ ap flatten (sym (week_planned w planned))

-- of a sheet
module _ (sheet : List ℕ) where
  pub report_refused : ((read_answer sheet).refusal.number ≡ 0 → ⊥) → report_of sheet ≡ refusal_line (read_answer sheet).refusal
  unfolding report_lines
  report_refused n = ap flatten ((answers _ _ _).refused refl n) ∙ flatten_one _

  pub report_read : (read_answer sheet).refusal.number ≡ 0 → report_lines sheet ≡ week_lines (read_answer sheet).week
  unfolding report_lines
  report_read z = (answers _ _ _).passed z

  -- by what the reader answers: what refuses to read it is reported, or the lines of its list are
  pub read_refused : (fault : Fault) → answer_of (Err fault) ≡ read_answer sheet → report_of sheet ≡ refusal_line (numbers fault)
  unfolding refused_reading
  read_refused fault is =
      let named : numbers fault ≡ (read_answer sheet).refusal = ap (λ (a : ReadAnswer). a.refusal) is in
      report_refused (refuses_too named (fault_refuses fault)) ∙ ap refusal_line (sym named)

  -- that list is in order
  pub read_in_order : (week : Week) → answer_of (Ok week) ≡ read_answer sheet → ordered_week week ≡ week
  read_in_order week is =
      let read = handed_week sheet week is in
      rw read.1 (in_order_again (sheet_week sheet) ((read_faultless sheet).0 read.0).list)

  pub read_lines : (week : Week) → answer_of (Ok week) ≡ read_answer sheet → flatten (week_lines week) ≡ report_of sheet
  read_lines week is =
      ap (λ (a : ReadAnswer). flatten (week_lines a.week)) is
      ∙ ap flatten (sym (report_read (sym (ap (λ (a : ReadAnswer). a.refusal.number) is))))
