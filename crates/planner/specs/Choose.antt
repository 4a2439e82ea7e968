-- Choose: what it answers and what it leaves in the picks table, on every list and every table.
use Rattle.std.specs.Prelude.{ℕ, ◌+◌, ◌*◌, ◌≤◌, ◌≡◌, ◌⊎◌, List, [], ◌∷◌, ◌++◌, length, get_or, replicate}
use Rattle.std.specs.Prelude.{Result, Ok, Err}
use Rattle.std.proofs.Math.Option.{Option, none, some}
use Rattle.arrays.specs.Position.{backward}
use Rattle.arrays.specs.Made.{placed}
use Rattle.jobs.specs.declared.model.Job.{Job}
use Rattle.jobs.specs.Model.{no_job}
use Rattle.jobs.specs.Choice.{total}
use Rattle.jobs.specs.Best.{best, Chosen, SomeMeets, NoneMeets, PickSays}
use Rattle.select.specs.Table.{filled, entry_at}
use Rattle.week.specs.declared.refusal.Fault.{Fault}
use Rattle.week.specs.declared.refusal.Refusal.{Refusal}
use Rattle.planner.specs.declared.choose.Plan.{Plan}
use Rattle.week.specs.Record.{Week, max_batches, max_minutes, span_of}
use Rattle.week.specs.Refusal.{accepted, refused, first_of, short_fault, unless_refused, answer_by}
use Rattle.week.specs.Fault.{numbers}
use Rattle.judge.specs.Fault.{list_fault}
use Rattle.planner.specs.Job.{job_list_of, week_jobs, week_choice, list_choice}
use Rattle.planner.specs.Run.{log_after, LongLog, InTime}

-- what Choose answers: a refusal's three numbers, the total, and for each batch, in list order, its recipe
pub record ChooseAnswer : Type 0 where
  pub refusal : Refusal
  pub total : ℕ
  pub choice : List ℕ

-- the minutes from t to c, both included: a row of the picks table has an entry for each
abbrev pub width_of : Week → ℕ
width_of w = span_of w + 1

-- a table that is long enough for every list has 16 rows of 2,401 entries
abbrev pub max_picks : ℕ
max_picks = max_batches * (max_minutes + 1)

-- "11: picks table shorter than n × (c − t + 1), n being the batches."
unfoldable pub table_fault : Week → ℕ → Refusal
table_fault w size = short_fault 11 (w.count * width_of w) size

-- "14: no choice meets the rule (Choose)."
abbrev pub plan_fault : Option (List ℕ) → Refusal
plan_fault none = refused 14 0 0
plan_fault (some ks) = accepted

-- the best choice of a week's jobs
abbrev pub week_best : Week → Option (List ℕ)
week_best w = best (week_jobs w) w.closing

-- the refusals that leave the table as it was, in their order
abbrev pub fill_faults : Week → ℕ → List Refusal
fill_faults w size = list_fault w ∷ table_fault w size ∷ []

unfoldable pub fill_fault : Week → ℕ → Refusal
fill_fault w size = first_of (fill_faults w size)

-- and all of Choose's: "Order: .. 1, 2, 3; then batch by batch 4 to 10 ..; 11; .. then 14"
unfoldable pub choose_fault : Week → ℕ → Refusal
choose_fault w size = first_of (fill_faults w size ++ (plan_fault (week_best w) ∷ []))

-- "Anything else that its record holds is 0".
unfoldable pub refused_plan : Refusal → ChooseAnswer
refused_plan r = record { refusal = r; total = 0; choice = replicate max_batches 0 }

-- the answer that the code's result is
abbrev pub chosen_answer : Result Plan Fault → ChooseAnswer
chosen_answer (Ok plan) = record { refusal = accepted; total = plan.total; choice = plan.choice }
chosen_answer (Err fault) = refused_plan (numbers fault)

-- "Choose: list, table, answering the choice and its total.": of a best choice; where there is none, 14 refuses
unfoldable pub plan_of : Week → Option (List ℕ) → ChooseAnswer
plan_of w none = refused_plan (plan_fault none)
plan_of w (some ks) = record { refusal = accepted; total = total (week_jobs w) ks; choice = placed max_batches 0 ks }

-- a plan as the choice that it is
abbrev pub plan_choice : Week → ChooseAnswer → List ℕ
plan_choice w plan = list_choice w plan.choice

unfoldable pub choose_answer : Week → ℕ → ChooseAnswer
choose_answer w size = answer_by (choose_fault w size) refused_plan (plan_of w (week_best w))

-- "Choosing fills a lent table of bytes." "The table is filled as well when refusal 14 is given." "Only 14 alters lent memory".
unfoldable pub table_after : Week → List ℕ → List ℕ
table_after w table =
    unless_refused (fill_fault w (length table)) (filled (week_jobs w) w.opening (width_of w) table) table

-- an answer with which the table is filled: a plan, or 14
abbrev pub FillsTable : ChooseAnswer → Type 0
FillsTable plan = (plan.refusal.number ≡ 0) ⊎ (plan.refusal.number ≡ 14)

-- the jobs of batches 1 to i, the last first
abbrev pub first_jobs : Week → ℕ → List Job
first_jobs w i = backward no_job (job_list_of w).jobs i

-- "For position i (from 1) and minute x from t to c, entry (i − 1) × (c − t + 1) + (x − t), counted from 0, is the recipe that
-- the best choice for batches 1 to i, with x as the closing minute, gives to batch i; it is 0 if no choice exists." "Later bytes
-- of the table keep their values."
pub record PicksTable (w : Week) (before after : List ℕ) : Type 0 where
  pub size : length after ≡ length before
  pub entry : (i x : ℕ) → 1 ≤ i → i ≤ w.count → w.opening ≤ x → x ≤ w.closing →
      PickSays (first_jobs w i) x (get_or after (entry_at w.opening (width_of w) i x) 0)
  pub later : (e : ℕ) → w.count * width_of w ≤ e → get_or after e 0 ≡ get_or before e 0

-- demand 3: "the plan meets the rule, and the total answered is the sum of its recipes' worths. Every other choice of one recipe a batch
-- that meets the rule has a smaller total, or the same total and a higher recipe number at the last batch where the two differ." "In the
-- station's run of the chosen plan, the minutes that each batch gets before its stretch ends number exactly its recipe's minutes."
pub record BestPlan (w : Week) (plan : ChooseAnswer) : Type 0 where
  pub chosen : Chosen (week_jobs w) w.closing (week_choice w plan.choice)
  pub summed : plan.total ≡ total (week_jobs w) (week_choice w plan.choice)
  pub in_time : (log : List ℕ) → LongLog w (length log) → InTime w (plan_choice w plan) (log_after w (plan_choice w plan) log)

-- some choice meets the rule; "no choice meets the rule"
abbrev pub SomePlan : Week → Type 0
SomePlan w = SomeMeets (week_jobs w) w.closing

abbrev pub NoPlan : Week → Type 0
NoPlan w = NoneMeets (week_jobs w) w.closing

-- 01, "The words of demand 3": "A table is long enough if 11 does not hold".
abbrev pub LongTable : Week → ℕ → Type 0
LongTable w size = table_fault w size ≡ accepted
