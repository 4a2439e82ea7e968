-- What weekdesk answers where an operation is asked, and where a line is no command: docs/WEEKDESK.md.
use Rattle.std.specs.Prelude.{ℕ, ◌+◌, List, [], ◌∷◌, ◌++◌, take, Result, Ok, Err}
use Rattle.arrays.specs.Text.{bytes}
use Rattle.week.specs.declared.refusal.Refusal.{Refusal}
use Rattle.week.specs.Refusal.{answer_by}
use Rattle.planner.specs.Check.{CheckAnswer}
use Rattle.planner.specs.declared.choose.Plan.{Plan}
use Rattle.planner.specs.Choose.{ChooseAnswer}
use Rattle.planner.specs.Run.{RunAnswer}
use Rattle.text.specs.Decimal.{decimal}
use Rattle.text.specs.Line.{line_of, refusal_line}
use Rattle.answer.specs.Line.{total_line, ran_line, recipes_line, stretches_line, outcomes_line, ran_width, batches_width}

-- `choose`, and `records` and `plan`, which answer ‘as `choose`’: ‘`plan TOTAL`, then `recipes K K ..`’, for a list of n batches; ‘A
-- refusal is answered `refused N P R` and nothing else.’
unfoldable pub plan_text : ℕ → ChooseAnswer → List ℕ
plan_text n plan =
    answer_by plan.refusal refusal_line (total_line (bytes "plan") plan.total ++ recipes_line (take n plan.choice))

-- the same of a plan, or of what refuses by its numbers, whatever they are
unfoldable pub told_plan : ℕ → Result Plan Refusal → List ℕ
told_plan n (Ok plan) = total_line (bytes "plan") plan.total ++ recipes_line (take n plan.choice)
told_plan n (Err refusal) = refusal_line refusal

-- `check`: ‘`passed TOTAL`, then `stretches S E S E ..`’
unfoldable pub check_text : ℕ → CheckAnswer → List ℕ
check_text n checked =
    answer_by checked.refusal refusal_line
    (total_line (bytes "passed") checked.total ++ stretches_line (take n checked.stretches))

-- `run`: ‘`ran changes N idle N`, then `outcomes ..`’
unfoldable pub run_text : ℕ → RunAnswer → List ℕ
run_text n ran =
    answer_by ran.refusal refusal_line (ran_line ran.changes ran.idle ++ outcomes_line (take n ran.batches))

-- `open`, `add`, `withdraw`: ‘`ok`’
unfoldable pub ok_text : Refusal → List ℕ
ok_text refusal = answer_by refusal refusal_line (line_of (bytes "ok") [])

-- the same of a call that is done, or of what refuses by its numbers, whatever they are
unfoldable pub told_call : {A : Type 0} → Result A Refusal → List ℕ
told_call (Ok done) = line_of (bytes "ok") []
told_call (Err refusal) = refusal_line refusal

-- ‘is answered `no command: line N`, N counted from 1’
unfoldable pub no_command_text : ℕ → List ℕ
no_command_text line = line_of (bytes "no command: line") (decimal line ∷ [])

-- the longest answer: that of a run
abbrev pub max_answer : ℕ
max_answer = ran_width + batches_width
