-- Case W at weekdesk, in order and not, a list of no batches, batches that are unfinished and set aside, refusals, what the book's calls
-- answer, and lines that are no command, computed from the definitions: one table, one claim.
use Rattle.std.specs.Prelude.{ℕ, ◌≡◌, refl, true, replicate}
use Prim.Native.String.{String}
use mathlib.Core.List.{List, [], ◌∷◌, flatten}
use Rattle.arrays.specs.Each.{some_below}
use Rattle.arrays.specs.Example.{Example, ◌is◌, same, agree}
use Rattle.arrays.specs.Position.{forward}
use Rattle.arrays.specs.Text.{bytes}
use Rattle.jobs.specs.Rule.{stretch_of, fits, next_bound}
use Rattle.jobs.specs.Best.{best}
use Rattle.edf.specs.Run.{entries, minutes_left, first_pending, log_of, idle, changes_after, changes, up_to_last, outcome_of}
use Rattle.edf.specs.Workload.{choice_log, workload_of, outcome_at}
use Rattle.week.specs.Record.{Week, max_minutes, max_batches, empty_batch, empty_week}
use Rattle.week.specs.Order.{before, insert_in, among, ordered}
use Rattle.week.specs.Written.{batches_of, written}
use Rattle.week.specs.Refusal.{accepted, refused, refused_if, or_else, first_of, first, short_fault, unless_refused, answer_by, at_place}
use Rattle.judge.specs.Fault.{week_fault, number_fault, batch_fault, list_fault, name_fault, choice_fault}
use Rattle.judge.specs.BatchFault.{cost_fault, worth_fault}
use Rattle.planner.specs.Check.{rule_fault, check_fault, passed, refused_check, check_answer}
use Rattle.planner.specs.Choose.{max_picks, table_fault, choose_fault, refused_plan, plan_of, choose_answer}
use Rattle.planner.specs.Run.{log_fault, run_fault, week_log, log_answer, refused_run, run_answer}
use Rattle.planner.specs.Examples.{recipe, week_w, week_g, week_late}
use Rattle.text.specs.Decimal.{spelt, decimal}
use Rattle.text.specs.Line.{spaced, refusal_line}
use Rattle.answer.specs.Line.{total_line, ran_line, outcome_fields}
use Rattle.answer.specs.Answer.{plan_text, check_text, run_text, ok_text, no_command_text}

-- what is asked of a list, with the table and the log that are lent at the start
abbrev choose : Week → List ℕ
choose w = plan_text w.count (choose_answer w max_picks)

abbrev check : Week → List ℕ → List ℕ
check w choice = check_text w.count (check_answer w choice)

abbrev run : Week → List ℕ → List ℕ
run w choice = run_text w.count (run_answer w choice max_minutes)

-- is answered as a text
infixl 20 ◌gives◌
abbrev ◌gives◌ : List ℕ → String → Example
text gives answer = text is bytes answer

-- W with its last batch first
turned_w : Week
turned_w = written week_w.opening week_w.closing (forward (batches_of week_w))

-- seventeen batches are written down: an operation is handed the first 16 of them, and the count
week_many : Week
week_many = record { opening = 0; closing = 10; count = 17; batches = replicate max_batches empty_batch }

table : List Example
table =
    -- the example, and the stretches of its plan, which 01 prints for case W
    (choose week_w gives "plan 22\nrecipes 2 1 1\n")
    ∷ (run week_w (2 ∷ 1 ∷ 1 ∷ []) gives "ran changes 4 idle 10\noutcomes finished 10 finished 50 finished 90\n")
    ∷ (check week_w (1 ∷ 1 ∷ 1 ∷ []) gives "refused 15 1 0\n")
    ∷ (check week_w (2 ∷ 1 ∷ 1 ∷ []) gives "passed 22\nstretches 10 20 20 50 50 100\n")
    -- and with its last batch first: the answers follow the list in order
    ∷ (choose turned_w gives "plan 22\nrecipes 2 1 1\n")
    ∷ (check turned_w (2 ∷ 1 ∷ 1 ∷ []) gives "passed 22\nstretches 10 20 20 50 50 100\n")
    ∷ (run turned_w (2 ∷ 1 ∷ 1 ∷ []) gives "ran changes 4 idle 10\noutcomes finished 10 finished 50 finished 90\n")
    -- no batches
    ∷ (choose (empty_week 0 10) gives "plan 0\nrecipes\n")
    ∷ (check (empty_week 0 10) [] gives "passed 0\nstretches\n")
    ∷ (run (empty_week 0 10) [] gives "ran changes 0 idle 10\noutcomes\n")
    -- a late batch goes on, and the one behind it has two of its three minutes left; a batch that is set aside starts and ends at the bound
    ∷ (run week_late (1 ∷ 1 ∷ []) gives "ran changes 2 idle 0\noutcomes finished 3 unfinished 2\n")
    ∷ (run (week_g (recipe 11 1 ∷ recipe 0 0 ∷ [])) (2 ∷ []) gives "ran changes 0 idle 10\noutcomes aside\n")
    ∷ (check (week_g (recipe 11 1 ∷ recipe 0 0 ∷ [])) (2 ∷ []) gives "passed 0\nstretches 10 10\n")
    -- refusals: no plan; a table of a byte too few for 3 × 101; an empty choice; a recipe that batch 2 has not got; a log of 99 bytes for
    -- 100 minutes; a cost that rises, at recipe 2 of batch 1; and too many batches
    ∷ (choose (week_g (recipe 11 1 ∷ [])) gives "refused 14 0 0\n")
    ∷ (plan_text 3 (choose_answer week_w 302) gives "refused 11 0 0\n")
    ∷ (check week_w [] gives "refused 13 0 0\n")
    ∷ (run week_w (1 ∷ 3 ∷ 1 ∷ []) gives "refused 13 2 0\n")
    ∷ (run_text 3 (run_answer week_w (2 ∷ 1 ∷ 1 ∷ []) 99) gives "refused 12 0 0\n")
    ∷ (choose (week_g (recipe 1 1 ∷ recipe 2 1 ∷ [])) gives "refused 7 1 2\n")
    ∷ (check week_many (1 ∷ []) gives "refused 3 0 0\n")
    -- of the book: a call that is accepted, and two that are refused, the second at recipe 2 of its batch
    ∷ (ok_text accepted gives "ok\n")
    ∷ (ok_text (refused 20 0 0) gives "refused 20 0 0\n")
    ∷ (ok_text (refused 7 0 2) gives "refused 7 0 2\n")
    -- no command: a line's number is no number of a command, and can be above 65,535
    ∷ (no_command_text 3 gives "no command: line 3\n")
    ∷ (no_command_text 65536 gives "no command: line 65536\n")
    ∷ []

examples : agree table ≡ true
unfolding
    table same agree flatten week_w week_g week_late week_many turned_w stretch_of fits next_bound best
    entries minutes_left first_pending log_of idle changes_after changes up_to_last outcome_of choice_log workload_of outcome_at
    before insert_in among ordered refused_if or_else first_of first some_below at_place short_fault unless_refused answer_by
    week_fault cost_fault worth_fault number_fault batch_fault list_fault name_fault choice_fault
    rule_fault check_fault passed refused_check check_answer table_fault choose_fault refused_plan plan_of choose_answer
    log_fault run_fault week_log log_answer refused_run run_answer
    spelt decimal spaced refusal_line total_line ran_line outcome_fields
    plan_text check_text run_text ok_text no_command_text
examples = refl
