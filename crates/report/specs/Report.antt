-- The report of a sheet, line by line: document 01, "The sheet".
use Rattle.std.specs.Prelude.{ℕ, suc, ◌-◌, ◌≤◌, ◌≡◌}
use mathlib.Core.List.{List, [], ◌∷◌, ◌++◌, flatten}
use Rattle.arrays.specs.Position.{at_position}
use Rattle.arrays.specs.Made.{tabulate}
use Rattle.jobs.specs.declared.rule.Stretch.{Stretch}
use Rattle.jobs.specs.Stretches.{no_stretch, stretch_at}
use Rattle.edf.specs.declared.outcome.Outcome.{Outcome}
use Rattle.edf.specs.declared.outcome.Outcome.TheVariants.{SetAside, Finished, Unfinished}
use Rattle.week.specs.declared.record.Batch.{Batch}
use Rattle.week.specs.declared.refusal.Refusal.{Refusal}
use Rattle.week.specs.Record.{Week, max_minutes, batch_of}
use Rattle.week.specs.Ordered.{ordered_week}
use Rattle.week.specs.Refusal.{refused, first_of, answer_by}
use Rattle.week.specs.RefusalOrder.{◌when◌, ◌or◌}
use Rattle.planner.specs.Job.{job_list_of}
use Rattle.planner.specs.Check.{CheckAnswer, check_answer}
use Rattle.planner.specs.Choose.{ChooseAnswer, max_picks, plan_fault, week_best, plan_choice, choose_answer, NoPlan}
use Rattle.planner.specs.Written.{chosen_minutes}
use Rattle.planner.specs.Run.{RunAnswer, set_aside, week_log, run_answer, outcome_said}
use Rattle.sheet.specs.List.{sheet_week}
use Rattle.sheet.specs.Read.{read_faults, read_answer}
use Rattle.sheet.specs.Holds.{ReadHolds, read_numbers}
use Rattle.text.specs.Line.{week_line, refusal_line}
use Rattle.report.specs.declared.line.BatchLine.{BatchLine}
use Rattle.report.specs.Line.{total_line, batch_line}

-- "finish (0 if set aside)". No batch of a plan is unfinished: `report_says`.
abbrev pub finish_of : Outcome → ℕ
finish_of SetAside = 0
finish_of (Finished minute) = minute
finish_of (Unfinished left) = 0

-- what the line of a batch says, by its recipe, its stretch and its outcome. "cost as it counts in the rule": a stretch "starts its
-- recipe's cost earlier" than it ends.
abbrev pub line_by : Batch → ℕ → Stretch → Outcome → BatchLine
line_by b recipe stretch outcome =
    record {
      number = b.number;
      recipe = recipe;
      cost = stretch.end - stretch.start;
      start = stretch.start;
      end = stretch.end;
      finish = finish_of outcome;
    }

-- the line of position i, by a plan, the stretches that Check answers of it and the outcomes that Run does
unfoldable pub batch_answer : Week → ChooseAnswer → CheckAnswer → RunAnswer → ℕ → BatchLine
batch_answer w plan checked ran i =
    line_by (batch_of w i) (at_position 0 plan.choice i) (at_position no_stretch checked.stretches i)
    (at_position set_aside ran.batches i)

-- the lines of the batches, in list order
unfoldable pub batch_lines : Week → ChooseAnswer → CheckAnswer → RunAnswer → ℕ → List (List ℕ)
batch_lines w plan checked ran n = tabulate (λ i. batch_line (batch_answer w plan checked ran (suc i))) 0 n

-- of a plan: the week, the total and the batches, by these answers ..
abbrev pub lines_by : Week → ChooseAnswer → CheckAnswer → RunAnswer → List (List ℕ)
lines_by w plan checked ran =
    week_line w.opening w.closing ∷ total_line plan.total ran.changes ran.idle ∷ batch_lines w plan checked ran w.count

-- .. as Check and Run give them, of the list in order
unfoldable pub plan_lines : Week → ChooseAnswer → List (List ℕ)
plan_lines w plan = lines_by (ordered_week w) plan (check_answer w (plan_choice w plan)) (run_answer w (plan_choice w plan) max_minutes)

-- of a refusal: one line only
abbrev pub refusal_lines : Refusal → List (List ℕ)
refusal_lines r = refusal_line r ∷ []

-- of a list: Choose, with a table that is long enough for every list
unfoldable pub week_lines : Week → List (List ℕ)
week_lines w =
    let plan = choose_answer w max_picks in
    answer_by plan.refusal refusal_lines (plan_lines w plan)

-- of a sheet
unfoldable pub report_lines : List ℕ → List (List ℕ)
report_lines sheet =
    let reading = read_answer sheet in
    answer_by reading.refusal refusal_lines (week_lines reading.week)

-- "It writes the whole of": the lines, one after the other
abbrev pub report_of : List ℕ → List ℕ
report_of sheet = flatten (report_lines sheet)

-- what the line of position i in the list in order says: the desk's own number and minutes, the stretch that the rule gives it, and the
-- finish that Run answers, which is in time. A batch that is set aside has 0 there.
pub record LineSays (w : Week) (choice : List ℕ) (i : ℕ) (line : BatchLine) : Type 0 where
  pub number : line.number ≡ (batch_of (ordered_week w) i).number
  pub recipe : line.recipe ≡ at_position 0 choice i
  pub cost : line.cost ≡ chosen_minutes w choice i
  pub start : line.start ≡ (stretch_at (job_list_of w) choice w.closing i).start
  pub end : line.end ≡ (stretch_at (job_list_of w) choice w.closing i).end
  pub aside : line.cost ≡ 0 → line.finish ≡ 0
  pub finish : 1 ≤ line.cost → outcome_said w choice (week_log w choice) i ≡ 1 ∷ line.finish ∷ []
  pub in_time : 1 ≤ line.cost → line.finish ≤ line.end

-- the refusals of a report in their order: "Order: 18; then line by line 16, 17; then 1, 2, 3; then batch by batch 4 to 10 ..;
-- then 14". 02: "10 no longer occurs". What 11, 12, 13 and 19 ask of a caller does not arise.
unfoldable pub report_fault : List ℕ → Refusal
report_fault sheet = first_of (read_faults sheet ++ (plan_fault (week_best (sheet_week sheet)) ∷ []))

-- when one of them holds, and where, and the numbers that they have
abbrev pub ReportHolds : List ℕ → Refusal → Type 0
ReportHolds sheet = ReadHolds sheet or (refused 14 0 0 when NoPlan (sheet_week sheet))

abbrev pub report_numbers : List ℕ
report_numbers = read_numbers ++ (14 ∷ [])
