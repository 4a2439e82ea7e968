-- Case W as document 01 prints it, in order and not, a list of no batches, a batch that is set aside, and refusals that name a line, a
-- recipe and nothing, computed from the definitions: one table, one claim.
use Prim.Native.String.{String}
use Rattle.std.specs.Prelude.{◌≡◌, refl, true}
use mathlib.Core.List.{List, [], ◌∷◌, flatten}
use Rattle.arrays.specs.Each.{some_below}
use Rattle.arrays.specs.Example.{Example, ◌is◌, same, agree}
use Rattle.arrays.specs.Text.{bytes}
use Rattle.jobs.specs.Rule.{stretch_of, fits, next_bound}
use Rattle.jobs.specs.Best.{best}
use Rattle.edf.specs.Run.{entries, minutes_left, first_pending, log_of, idle, changes_after, changes, up_to_last, outcome_of}
use Rattle.edf.specs.Workload.{choice_log, workload_of, outcome_at}
use Rattle.week.specs.Order.{before, insert_in, among, ordered}
use Rattle.week.specs.Refusal.{refused_if, or_else, first_of, first, short_fault, unless_refused, answer_by, at_place}
use Rattle.judge.specs.Fault.{week_fault, number_fault, batch_fault, list_fault, name_fault, choice_fault}
use Rattle.judge.specs.BatchFault.{cost_fault, worth_fault}
use Rattle.planner.specs.Check.{rule_fault, check_fault, passed, refused_check, check_answer}
use Rattle.planner.specs.Choose.{table_fault, choose_fault, refused_plan, plan_of, choose_answer}
use Rattle.planner.specs.Run.{log_fault, run_fault, week_log, log_answer, refused_run, run_answer}
use Rattle.sheet.specs.Hex.{is_digit, digit_of, byte_at, word_at}
use Rattle.sheet.specs.Frame.{is_week, is_batch, frame_of}
use Rattle.sheet.specs.Fault.{size_fault, frame_fault, line_fault, lines_fault}
use Rattle.sheet.specs.List.{batch_from, week_from}
use Rattle.sheet.specs.Read.{read_fault, refused_reading, read_answer}
use Rattle.text.specs.Decimal.{spelt, decimal}
use Rattle.text.specs.Line.{spaced, week_line, refusal_line}
use Rattle.report.specs.Line.{total_line, batch_line}
use Rattle.report.specs.Report.{batch_answer, batch_lines, plan_lines, week_lines, report_lines, report_of}

-- a sheet is reported as a text
infixl 20 ◌gives◌
abbrev ◌gives◌ : String → String → Example
sheet gives text = report_of (bytes sheet) is bytes text

table : List Example
table =
    -- case W
    ("0100000064\n0200070000002802001E0009000A0004\n0200080014003C02001E000800000000\n02000900000064020032000A00140005\n"
    gives "week 0 100\ntotal 22 changes 4 idle 10\n7 2 10 10 20 10\n8 1 30 20 50 50\n9 1 50 50 100 90\n")
    -- and with its last batch first
    ∷ ("0100000064\n02000900000064020032000A00140005\n0200080014003C02001E000800000000\n0200070000002802001E0009000A0004\n"
    gives "week 0 100\ntotal 22 changes 4 idle 10\n7 2 10 10 20 10\n8 1 30 20 50 50\n9 1 50 50 100 90\n")
    -- no batches; a batch that is set aside: its stretch starts and ends at the bound, and its finish is 0
    ∷ ("010000000A\n" gives "week 0 10\ntotal 0 changes 0 idle 10\n")
    ∷ ("010000000A\n0200010000000502000B000100000000\n" gives "week 0 10\ntotal 0 changes 0 idle 10\n1 2 0 10 10 0\n")
    -- refusals: the empty sheet; a second week; a cost above the one before, at recipe 2 of batch 2; and no plan
    ∷ ("" gives "refused 17 1 0\n")
    ∷ ("0100000064\n0100000064\n" gives "refused 17 2 0\n")
    ∷ ("0100000064\n020001000000640100010001\n02000200000064020003000100040001\n" gives "refused 7 2 2\n")
    ∷ ("010000000A\n0200010000000A01000B0001\n" gives "refused 14 0 0\n")
    ∷ []

examples : agree table ≡ true
unfolding
    table same agree flatten stretch_of fits next_bound best
    entries minutes_left first_pending log_of idle changes_after changes up_to_last outcome_of choice_log workload_of outcome_at
    before insert_in among ordered refused_if or_else first_of first some_below at_place short_fault unless_refused answer_by
    week_fault cost_fault worth_fault number_fault batch_fault list_fault name_fault choice_fault
    rule_fault check_fault passed refused_check check_answer table_fault choose_fault refused_plan plan_of choose_answer
    log_fault run_fault week_log log_answer refused_run run_answer
    is_digit digit_of byte_at word_at is_week is_batch frame_of
    size_fault frame_fault line_fault lines_fault batch_from week_from read_fault refused_reading read_answer
    spelt decimal spaced week_line total_line batch_line refusal_line batch_answer batch_lines plan_lines week_lines report_lines
examples = refl
