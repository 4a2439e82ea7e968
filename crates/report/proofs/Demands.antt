-- What the buyer asks of the desk's program, each sentence above its theorem. The contract of `report` says that it answers `report_of`,
-- by value, on every sequence of bytes; the theorems here say that this is what the buyer asks for.
use Prim.Native.Nat.{ℕ, ◌≤◌}
use native.Mathlib.Decide.{ℕ_discrete}
use native.Mathlib.Omega.{arith}
use mathlib.Core.Path.{◌≡◌, refl, sym, ap, ◌∙◌}
use mathlib.Core.Logic.{◌↔◌, ⊎_elim}
use mathlib.Core.List.{List, [], ◌∷◌, flatten}
use lib.ListN.{length}
use Rattle.edf.specs.Run.{idle, changes}
use Rattle.week.specs.declared.refusal.Refusal.{Refusal}
use Rattle.week.specs.Record.{Week, max_minutes}
use Rattle.week.specs.Ordered.{ordered_week, Rearranged}
use Rattle.week.specs.RefusalOrder.{stage, FirstToHold, least_place, greatest_place, Naming, AtFault}
use Rattle.week.proofs.First.{number_of_lem, refuses_too, append_first, append_last}
use Rattle.week.proofs.Holding.{one_holds, append_holds, when_place, stage_ahead}
use Rattle.week.proofs.Naming.{when_naming, naming_after, at_fault}
use Rattle.planner.specs.Check.{check_answer}
use Rattle.planner.specs.Choose.{ChooseAnswer, max_picks, plan_fault, week_best, plan_choice, choose_answer, BestPlan, SomePlan}
use Rattle.planner.specs.Run.{week_log, run_answer}
use Rattle.planner.proofs.Choosing.{picks_enough, fill_faultless, plan_fault_lem, plan_proper}
use Rattle.planner.proofs.Holding.{plan_holds}
use Rattle.planner.proofs.Demands.{choose_best, choose_plans, choose_names, choose_meets}
use Rattle.sheet.specs.Line.{lines_of}
use Rattle.sheet.specs.List.{sheet_week}
use Rattle.sheet.specs.Read.{read_faults, read_fault, WellWritten}
use Rattle.sheet.specs.Holds.{read_numbers}
use Rattle.sheet.proofs.OneLine.{lines_flatten}
use Rattle.sheet.proofs.Holding.{read_holds, read_stages, sheet_naming}
use Rattle.sheet.proofs.Demands.{read_passes, read_refusal, read_reads, read_any_order}
use Rattle.text.specs.Decimal.{decimal, Numeral}
use Rattle.text.specs.Line.{refusal_line}
use Rattle.text.proofs.Numerals.{numeral}
use Rattle.report.specs.Report.{batch_answer, plan_lines, week_lines, report_lines, report_of, LineSays, report_fault}
use Rattle.report.specs.Report.{ReportHolds, report_numbers}
use Rattle.report.proofs.Ended.{report_ones}
use Rattle.report.proofs.Reporting.{week_refused, week_planned, planned_list, in_order_lines, report_refused, report_read}
use Rattle.report.proofs.Said.{counts_said, line_says}

-- 01, "The sheet": "Numbers are decimal." One digit or more that spell the number, the first of several not 0.
pub report_numbers_lem : (n : ℕ) → Numeral n (decimal n)
report_numbers_lem = numeral

module _ (sheet : List ℕ) where
  abbrev w : Week
  w = sheet_week sheet

  abbrev plan : ChooseAnswer
  plan = choose_answer w max_picks

  -- the sheet is refused, ..
  fault_sheet : ((read_fault sheet).number ≡ 0 → ⊥) → report_fault sheet ≡ read_fault sheet
  unfolding report_fault read_fault
  fault_sheet = append_first (read_faults sheet) (plan_fault (week_best w) ∷ [])

  -- .. or its list has no plan
  fault_plan : (read_fault sheet).number ≡ 0 → report_fault sheet ≡ plan.refusal
  unfolding report_fault read_fault
  fault_plan z =
      let list = ((read_reads sheet).0 (number_of_lem (read_refusal sheet) ∙ z)).list in
      append_last (read_faults sheet) (plan_fault (week_best w)) (plan_proper (week_best w)) z
      ∙ sym (plan_fault_lem w max_picks ((fill_faultless w max_picks).1 (list, picks_enough w max_picks list (omega arith))))

  -- a sheet that is read has the report of its list
  lines_read : (read_fault sheet).number ≡ 0 → report_lines sheet ≡ week_lines w
  lines_read z =
      let none = number_of_lem (read_refusal sheet) ∙ z in
      report_read sheet none ∙ ap week_lines (read_passes sheet none).1 ∙ in_order_lines w ((read_reads sheet).0 none).list

  report_holds : FirstToHold (ReportHolds sheet) (report_fault sheet)
  unfolding report_fault read_fault stage
  report_holds =
      append_holds (read_faults sheet) (plan_fault (week_best w) ∷ []) (read_holds sheet) (λ _. one_holds _ (plan_holds w))
      (stage_ahead (read_stages sheet) (λ r h. omega (arith, (when_place 14 0 0 r h).0)))

  report_naming : (r : Refusal) → ReportHolds sheet r → Naming report_numbers w.count (length (lines_of sheet)) r
  unfolding least_place greatest_place
  report_naming r =
      ⊎_elim (λ h. naming_after read_numbers (14 ∷ []) (sheet_naming sheet r h))
      (when_naming report_numbers w.count (length (lines_of sheet)) 14 0 0 refl (omega arith) (omega arith) (λ _. refl) r)

  -- Demand 1: "The answer to any list of batches, in order or damaged, is either a plan or one numbered refusal, which says which batch is
  -- at fault where a batch is." 01: "A refusal writes one line only, "refused" and its three numbers": those of the first refusal of the
  -- order whose condition holds, of the very line, or batch and recipe, that are named ..
  pub report_at_fault : AtFault (ReportHolds sheet) report_numbers w.count (length (lines_of sheet)) (report_fault sheet)
  report_at_fault = at_fault report_holds report_naming

  pub report_refuses : ((report_fault sheet).number ≡ 0 → ⊥) → report_of sheet ≡ refusal_line (report_fault sheet)
  report_refuses n =
      elim (ℕ_discrete (read_fault sheet).number 0) [
        | yes z ↦
            ap flatten (lines_read z)
            ∙ week_refused w (refuses_too (fault_plan z) n)
            ∙ ap refusal_line (sym (fault_plan z))
        | no f ↦
            report_refused sheet (refuses_too (sym (read_refusal sheet)) f)
            ∙ ap refusal_line (read_refusal sheet ∙ sym (fault_sheet f))
      ]

  -- "Every line ends with a line feed.", and has no other: cut as the lines of a sheet are, the report falls into its lines.
  pub report_lines_lem : lines_of (report_of sheet) ≡ report_lines sheet
  report_lines_lem = lines_flatten (report_lines sheet) (report_ones sheet)

  -- nothing refuses: the sheet is read, and its list has a plan
  report_passed : (report_fault sheet).number ≡ 0 → ((read_fault sheet).number ≡ 0) × (plan.refusal.number ≡ 0)
  report_passed none =
      elim (ℕ_discrete (read_fault sheet).number 0)
      [ yes z ↦ (z, number_of_lem (sym (fault_plan z)) ∙ none) | no f ↦ absurd (refuses_too (sym (fault_sheet f)) f none) ]

  -- .. "and nothing else is refused."
  pub report_plans : ((report_fault sheet).number ≡ 0) ↔ (WellWritten sheet × SomePlan w)
  report_plans = (
    λ none.
        let both = report_passed none in
        ((read_reads sheet).0 (number_of_lem (read_refusal sheet) ∙ both.0), ((choose_plans w max_picks).0 both.1).2),
    λ h.
        let list = h.0.list in
        let read = number_of_lem (sym (read_refusal sheet)) ∙ (read_reads sheet).1 h.0 in
        number_of_lem (fault_plan read) ∙ (choose_plans w max_picks).1 (list, picks_enough w max_picks list (omega arith), h.1),
  )

  -- A plan.
  module _ (none : (report_fault sheet).number ≡ 0) where
    planned : plan.refusal.number ≡ 0
    planned = (report_passed none).1

    abbrev choice : List ℕ
    choice = plan_choice w plan

    -- "It writes the whole of": the week, the total, and a line for each batch ..
    pub report_prints : report_lines sheet ≡ plan_lines w plan
    report_prints = lines_read (report_passed none).0 ∙ week_planned w planned

    -- .. of the plan that demand 3 asks for: "Whatever list a plan is chosen for, the plan meets the rule, and the total answered is the
    -- sum of its recipes' worths. Every other choice of one recipe a batch that meets the rule has a smaller total, or the same total
    -- and a higher recipe number at the last batch where the two differ."
    pub report_best : BestPlan w plan
    report_best = choose_best w max_picks planned

    -- "total 22 changes 4 idle 10": the changes and the idle minutes are those of the station's run of that plan.
    pub report_counts :
        ((run_answer w choice max_minutes).changes ≡ changes (week_log w choice))
        × ((run_answer w choice max_minutes).idle ≡ idle (week_log w choice))
    report_counts =
        counts_said w plan (planned_list w planned) (choose_names w max_picks planned) (choose_meets w max_picks planned)

    -- Each line says the desk's own number and minutes, the stretch that the rule gives its batch, and when Run finishes it. 01: "A batch
    -- line is number, recipe, cost as it counts in the rule, start and end of stretch, finish (0 if set aside)." Demand 3: "In the
    -- station's run of the chosen plan, the minutes that each batch gets before its stretch ends number exactly its recipe's minutes",
    -- so that every batch that is read is finished by the end of its stretch.
    pub report_says : (i : ℕ) → 1 ≤ i → i ≤ w.count →
        LineSays w choice i (batch_answer (ordered_week w) plan (check_answer w choice) (run_answer w choice max_minutes) i)
    report_says =
        line_says w plan (planned_list w planned) (choose_names w max_picks planned) (choose_meets w max_picks planned)

-- 02: "Two accepted lists that are rearrangements of each other get the same plan." "Sheets may come in any order as well.": two sheets
-- that are well written, and whose lists are rearrangements of each other, have one report.
pub report_any_order : (a b : List ℕ) → Rearranged (sheet_week a) (sheet_week b) → WellWritten a → WellWritten b →
    report_of a ≡ report_of b
report_any_order a b same written_a written_b =
    let read_a = (read_reads a).1 written_a in
    let read_b = (read_reads b).1 written_b in
    ap flatten
    (report_read a read_a ∙ ap week_lines (read_any_order a b same read_a read_b) ∙ sym (report_read b read_b))
