-- The control program's call: what it answers, and what it leaves in the picks table and in the recipe buffer, on every sheet and
-- every size of the two.
use Rattle.std.specs.Prelude.{ℕ, ◌≡◌, ◌⊎◌, List, [], ◌∷◌, ◌++◌, length, drop, ℤ, pos, neg_ℤ, Result, Ok, Err}
use Rattle.jobs.specs.Choice.{total}
use Rattle.jobs.specs.Best.{Chosen}
use Rattle.week.specs.Record.{Week}
use Rattle.week.specs.declared.refusal.Fault.{Fault}
use Rattle.week.specs.declared.refusal.Refusal.{Refusal}
use Rattle.week.specs.Refusal.{accepted, first_of, short_fault, unless_refused, answer_by}
use Rattle.week.specs.Fault.{number_of}
use Rattle.planner.specs.Job.{week_jobs, week_choice, list_choice}
use Rattle.planner.specs.Choose.{table_fault, plan_fault, week_best, plan_choice, choose_answer, table_after}
use Rattle.planner.specs.Run.{log_after, LongLog, InTime}
use Rattle.sheet.specs.List.{sheet_week}
use Rattle.sheet.specs.Read.{read_faults}

-- "19: recipe buffer shorter than n."
unfoldable pub buffer_fault : Week → ℕ → Refusal
buffer_fault w size = short_fault 19 w.count size

-- "11; .. 19": what is lent is too short. The sizes are those of the picks table and of the recipe buffer.
abbrev pub lent_faults : Week → (table_size buffer_size : ℕ) → List Refusal
lent_faults w table_size buffer_size = table_fault w table_size ∷ buffer_fault w buffer_size ∷ []

-- the refusals that keep all that is lent, in their order: "Order: 18; then line by line 16, 17; then 1, 2, 3; then batch by batch
-- 4 to 10 ..; 11; .. 19". 02: "10 no longer occurs"
abbrev pub keep_faults : List ℕ → (table_size buffer_size : ℕ) → List Refusal
keep_faults sheet table_size buffer_size = read_faults sheet ++ lent_faults (sheet_week sheet) table_size buffer_size

unfoldable pub keep_fault : List ℕ → (table_size buffer_size : ℕ) → Refusal
keep_fault sheet table_size buffer_size = first_of (keep_faults sheet table_size buffer_size)

-- and all of the call's: ".. then 14"
unfoldable pub call_fault : List ℕ → (table_size buffer_size : ℕ) → Refusal
call_fault sheet table_size buffer_size =
    first_of (keep_faults sheet table_size buffer_size ++ (plan_fault (week_best (sheet_week sheet)) ∷ []))

-- "minus the refusal number"
abbrev pub minus_of : ℕ → ℤ
minus_of number = neg_ℤ (pos number)

-- "It gets the total, or minus the refusal number."
unfoldable pub call_answer : List ℕ → (table_size buffer_size : ℕ) → ℤ
call_answer sheet table_size buffer_size =
    answer_by (call_fault sheet table_size buffer_size) (λ r. minus_of r.number) (pos (choose_answer (sheet_week sheet) table_size).total)

-- the same answer, of what the code hands back
abbrev pub answered : Result ℕ Fault → ℤ
answered (Ok total) = pos total
answered (Err fault) = minus_of (number_of fault.reason)

-- "Choosing fills a lent table of bytes." "The table is filled as well when refusal 14 is given." "Only 14 alters lent memory (the
-- picks table)."
unfoldable pub picks_after : List ℕ → (picks : List ℕ) (buffer_size : ℕ) → List ℕ
picks_after sheet picks buffer_size =
    unless_refused (keep_fault sheet (length picks) buffer_size) (table_after (sheet_week sheet) picks) picks

-- "Acceptance writes one byte a batch and keeps the rest of that buffer."
unfoldable pub recipes_after : List ℕ → (table_size : ℕ) (recipes : List ℕ) → List ℕ
recipes_after sheet table_size recipes =
    let w = sheet_week sheet in
    unless_refused (call_fault sheet table_size (length recipes))
    (plan_choice w (choose_answer w table_size) ++ drop w.count recipes)
    recipes

-- an answer that is a total: it is not negative
abbrev pub Planned : ℤ → Type 0
Planned answer = (sum : ℕ) × (answer ≡ pos sum)

-- an answer with which the table is filled: a total, or minus 14
abbrev pub CallFills : ℤ → Type 0
CallFills answer = Planned answer ⊎ (answer ≡ minus_of 14)

-- demand 3 of the call: "the plan meets the rule, and the total answered is the sum of its recipes' worths. Every other choice of one
-- recipe a batch that meets the rule has a smaller total, or the same total and a higher recipe number at the last batch where the two
-- differ." "In the station's run of the chosen plan, the minutes that each batch gets before its stretch ends number exactly its recipe's
-- minutes."
pub record BestCall (w : Week) (recipes : List ℕ) (answer : ℤ) : Type 0 where
  pub chosen : Chosen (week_jobs w) w.closing (week_choice w (list_choice w recipes))
  pub summed : answer ≡ pos (total (week_jobs w) (week_choice w (list_choice w recipes)))
  pub in_time : (log : List ℕ) → LongLog w (length log) → InTime w (list_choice w recipes) (log_after w (list_choice w recipes) log)

-- 01, "The words of demand 3": "A table is long enough if 11 does not hold, a recipe buffer if 19 does not."
abbrev pub LongBuffer : Week → ℕ → Type 0
LongBuffer w size = buffer_fault w size ≡ accepted
