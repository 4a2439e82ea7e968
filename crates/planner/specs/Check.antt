-- Check: what it answers, on every list and every choice.
use Rattle.std.specs.Prelude.{ℕ, not, List, [], ◌∷◌, ◌++◌, replicate, eqb, Result, Ok, Err}
use Rattle.jobs.specs.declared.rule.Stretch.{Stretch}
use Rattle.jobs.specs.Rule.{failing}
use Rattle.jobs.specs.Choice.{total}
use Rattle.jobs.specs.Stretches.{no_stretch, stretches_of}
use Rattle.week.specs.declared.refusal.Fault.{Fault}
use Rattle.week.specs.declared.refusal.Refusal.{Refusal}
use Rattle.planner.specs.declared.check.Checked.{Checked}
use Rattle.week.specs.Record.{Week, max_batches}
use Rattle.week.specs.Refusal.{accepted, refused_if, first_of, answer_by}
use Rattle.week.specs.Fault.{numbers}
use Rattle.judge.specs.Fault.{handed_faults}
use Rattle.planner.specs.Job.{week_jobs, week_choice}

-- what Check answers: a refusal's three numbers, the total, and for each batch, in list order, the stretch that the rule gives it
pub record CheckAnswer : Type 0 where
  pub refusal : Refusal
  pub total : ℕ
  pub stretches : List Stretch

-- "15: the choice breaks it (Check), with the first failing position met going backward."
unfoldable pub rule_fault : Week → List ℕ → Refusal
rule_fault w choice =
    refused_if 15 (failing (week_jobs w) w.closing (week_choice w choice)) 0
    (not (eqb (failing (week_jobs w) w.closing (week_choice w choice)) 0))

-- the refusals of Check in their order
unfoldable pub check_fault : Week → List ℕ → Refusal
check_fault w choice = first_of (handed_faults w choice ++ (rule_fault w choice ∷ []))

-- "Check: list and choice, answering the stretches and the total."
unfoldable pub passed : Week → List ℕ → CheckAnswer
passed w choice =
    record {
      refusal = accepted;
      total = total (week_jobs w) (week_choice w choice);
      stretches = stretches_of (week_jobs w) w.closing (week_choice w choice);
    }

-- "Anything else that its record holds is 0".
unfoldable pub refused_check : Refusal → CheckAnswer
refused_check r = record { refusal = r; total = 0; stretches = replicate max_batches no_stretch }

-- the answer that the code's result is
abbrev pub checked_answer : Result Checked Fault → CheckAnswer
checked_answer (Ok checked) = record { refusal = accepted; total = checked.total; stretches = checked.stretches }
checked_answer (Err fault) = refused_check (numbers fault)

unfoldable pub check_answer : Week → List ℕ → CheckAnswer
check_answer w choice = answer_by (check_fault w choice) refused_check (passed w choice)
