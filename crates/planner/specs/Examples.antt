-- Document 01, "Fixed examples", A to L, computed from the definitions: one table, one claim.
use Rattle.std.specs.Prelude.{ℕ, zero, suc, ◌+◌, ◌*◌, ◌-◌, ◌≡◌, refl, true, List, [], ◌∷◌, ◌++◌, length, take, replicate}
use Rattle.arrays.specs.Each.{some_below}
use Rattle.arrays.specs.Position.{forward}
use Rattle.arrays.specs.Example.{Example, ◌is◌, same, agree}
use Rattle.jobs.specs.declared.rule.Stretch.{Stretch}
use Rattle.jobs.specs.Rule.{stretch_of, fits, next_bound}
use Rattle.jobs.specs.Best.{best}
use Rattle.edf.specs.declared.outcome.Outcome.{Outcome}
use Rattle.edf.specs.Run.{entries, minutes_left, first_pending, log_of, idle, changes_after, changes, up_to_last, outcome_of}
use Rattle.edf.specs.Run.{outcome_numbers}
use Rattle.edf.specs.Workload.{choice_log, workload_of, outcome_at}
use Rattle.select.specs.Table.{filled}
use Rattle.week.specs.declared.record.Recipe.{Recipe}
use Rattle.week.specs.declared.record.Batch.{Batch}
use Rattle.week.specs.Record.{Week, max_recipes, no_recipe, span_of}
use Rattle.week.specs.Order.{before, insert_in, among, ordered}
use Rattle.week.specs.Written.{batches_of, written}
use Rattle.week.specs.Refusal.{refused_if, or_else, first_of, first, short_fault, unless_refused, answer_by, at_place}
use Rattle.judge.specs.Fault.{week_fault, number_fault, batch_fault, list_fault, name_fault, choice_fault}
use Rattle.judge.specs.BatchFault.{cost_fault, worth_fault}
use Rattle.planner.specs.Check.{CheckAnswer, rule_fault, check_fault, passed, refused_check, check_answer}
use Rattle.planner.specs.Choose.{ChooseAnswer, width_of, table_fault, fill_fault, choose_fault, refused_plan, plan_of, choose_answer}
use Rattle.planner.specs.Choose.{table_after}
use Rattle.planner.specs.Run.{RunAnswer, log_fault, run_fault, week_log, log_answer, refused_run, run_answer, log_after}

-- The lists.
abbrev pub recipe : ℕ → ℕ → Recipe
recipe cost worth = record { cost = cost; worth = worth }

abbrev pub batch : (number r d : ℕ) → List Recipe → Batch
batch number r d rs =
    record { number = number; arrival = r; due = d; count = length rs; recipes = rs ++ replicate (max_recipes - length rs) no_recipe }

-- costs falling by u to u, worths falling to 1, n of them
abbrev falling : ℕ → ℕ → List Recipe
falling u zero = []
falling u (suc n) = recipe (u * suc n) (suc n) ∷ falling u n

unfoldable pub week_w : Week
week_w =
    written 0 100
    (batch 7 0 40 (recipe 30 9 ∷ recipe 10 4 ∷ [])
    ∷ batch 8 20 60 (recipe 30 8 ∷ recipe 0 0 ∷ [])
    ∷ batch 9 0 100 (recipe 50 10 ∷ recipe 20 5 ∷ [])
    ∷ [])

-- the source's example times ten, closing at c
week_e : ℕ → Week
week_e c =
    written 0 c
    (batch 1 0 900 (falling 31 10)
    ∷ batch 2 0 1010 (recipe 910 10 ∷ [])
    ∷ batch 3 540 2340 (falling 22 10)
    ∷ [])

unfoldable pub week_g : List Recipe → Week
week_g rs = written 0 10 (batch 1 0 10 rs ∷ [])

week_j : Week
week_j = written 0 10 (batch 1 5 9 (recipe 4 1 ∷ []) ∷ batch 2 0 10 (recipe 5 1 ∷ []) ∷ [])

week_k : ℕ → Week
week_k d = written 20 30 (batch 1 5 d (recipe 1 1 ∷ []) ∷ [])

unfoldable pub week_late : Week
week_late = written 0 4 (batch 1 0 2 (recipe 3 1 ∷ []) ∷ batch 2 0 4 (recipe 3 1 ∷ []) ∷ [])

-- two minutes read, one idle, two read, two idle
week_gap : Week
week_gap = written 0 7 (batch 1 0 3 (recipe 2 1 ∷ []) ∷ batch 2 3 6 (recipe 2 1 ∷ []) ∷ [])

-- a batch that arrives after the bound, and is set aside or not
week_aside : Week
week_aside =
    written 0 10
    (batch 1 0 4 (recipe 2 1 ∷ [])
    ∷ batch 2 8 9 (recipe 1 5 ∷ recipe 0 0 ∷ [])
    ∷ batch 3 0 10 (recipe 9 9 ∷ recipe 6 9 ∷ [])
    ∷ [])

-- two batches of one due minute: both are ready at the opening, so that the number decides, whichever arrives first
week_tie : Week
week_tie = written 20 40 (batch 2 0 30 (recipe 5 5 ∷ recipe 0 0 ∷ []) ∷ batch 1 10 30 (recipe 8 9 ∷ []) ∷ [])

-- a number that stands twice in a list: the second time it is due first
week_twice : Week
week_twice =
    written 0 100 (batch 5 0 40 (recipe 1 1 ∷ []) ∷ batch 7 0 10 (recipe 1 1 ∷ []) ∷ batch 5 0 5 (recipe 1 1 ∷ []) ∷ [])

-- a list with its last batch first
turned : Week → Week
turned w = written w.opening w.closing (forward (batches_of w))

week_p : List Recipe → Week
week_p rs = written 0 3 (batch 1 0 3 rs ∷ [])

-- The answers as numbers.
-- Choose's refusal, total and recipes, with a table that is just long enough
abbrev plan_numbers : ℕ → ChooseAnswer → List ℕ
plan_numbers n p = p.refusal.number ∷ p.refusal.place ∷ p.refusal.recipe ∷ p.total ∷ take n p.choice

abbrev choose : Week → List ℕ
choose w = plan_numbers w.count (choose_answer w (w.count * width_of w))

abbrev stretch_numbers : List Stretch → List ℕ
stretch_numbers [] = []
stretch_numbers (s ∷ ss) = s.start ∷ s.end ∷ stretch_numbers ss

-- Check's refusal, total and stretches
abbrev check_numbers : ℕ → CheckAnswer → List ℕ
check_numbers n a =
    a.refusal.number ∷ a.refusal.place ∷ a.refusal.recipe ∷ a.total ∷ stretch_numbers (take n a.stretches)

abbrev check : Week → List ℕ → List ℕ
check w choice = check_numbers w.count (check_answer w choice)

abbrev outcomes : List Outcome → List ℕ
outcomes [] = []
outcomes (o ∷ os) = outcome_numbers o ++ outcomes os

-- Run's refusal, changes, idle minutes and each batch's outcome: 0 0 set aside, 1 and the minute finished, 2 and the minutes left
abbrev run_numbers : ℕ → RunAnswer → List ℕ
run_numbers n a =
    a.refusal.number ∷ a.refusal.place ∷ a.refusal.recipe ∷ a.changes ∷ a.idle ∷ outcomes (take n a.batches)

-- with a log that is just long enough
abbrev run : Week → List ℕ → List ℕ
run w choice = run_numbers w.count (run_answer w choice (span_of w))

-- the log after Run: it was 255 everywhere, and has one byte more than the week has minutes
abbrev log : Week → List ℕ → List ℕ
log w choice = log_after w choice (replicate (span_of w + 1) 255)

-- the picks table after Choose: it was 255 everywhere, and has one byte more than the rows
abbrev picks : Week → List ℕ
picks w = table_after w (replicate (w.count * width_of w + 1) 255)

table : List Example
table =
    -- A, with the stretches that case W prints
    (choose week_w is (0 ∷ 0 ∷ 0 ∷ 22 ∷ 2 ∷ 1 ∷ 1 ∷ []))
    ∷ (check week_w (2 ∷ 1 ∷ 1 ∷ []) is (0 ∷ 0 ∷ 0 ∷ 22 ∷ 10 ∷ 20 ∷ 20 ∷ 50 ∷ 50 ∷ 100 ∷ []))
    -- B
    ∷ (check week_w (1 ∷ 1 ∷ 2 ∷ []) is (0 ∷ 0 ∷ 0 ∷ 22 ∷ 0 ∷ 30 ∷ 30 ∷ 60 ∷ 80 ∷ 100 ∷ []))
    -- C
    ∷ (check week_w (1 ∷ 1 ∷ 1 ∷ []) is (15 ∷ 1 ∷ 0 ∷ 0 ∷ 0 ∷ 0 ∷ 0 ∷ 0 ∷ 0 ∷ 0 ∷ []))
    -- D
    ∷ (run week_w (2 ∷ 1 ∷ 1 ∷ []) is (0 ∷ 0 ∷ 0 ∷ 4 ∷ 10 ∷ 1 ∷ 10 ∷ 1 ∷ 50 ∷ 1 ∷ 90 ∷ []))
    -- E: the bound for batch 1 is the start of batch 2's stretch, 100
    ∷ (choose (week_e 2340) is (0 ∷ 0 ∷ 0 ∷ 23 ∷ 8 ∷ 1 ∷ 1 ∷ []))
    ∷ (check (week_e 2340) (8 ∷ 1 ∷ 1 ∷ []) is (0 ∷ 0 ∷ 0 ∷ 23 ∷ 7 ∷ 100 ∷ 100 ∷ 1010 ∷ 2120 ∷ 2340 ∷ []))
    -- F, and the choice that ties and loses
    ∷ (choose (week_e 1000) is (0 ∷ 0 ∷ 0 ∷ 13 ∷ 10 ∷ 1 ∷ 9 ∷ []))
    ∷ (check (week_e 1000) (9 ∷ 1 ∷ 10 ∷ []) is (0 ∷ 0 ∷ 0 ∷ 13 ∷ 6 ∷ 68 ∷ 68 ∷ 978 ∷ 978 ∷ 1000 ∷ []))
    -- G, H, I
    ∷ (choose (week_g (recipe 10 1 ∷ [])) is (0 ∷ 0 ∷ 0 ∷ 1 ∷ 1 ∷ []))
    ∷ (choose (week_g (recipe 11 1 ∷ [])) is (14 ∷ 0 ∷ 0 ∷ 0 ∷ 0 ∷ []))
    ∷ (choose (week_g (recipe 11 1 ∷ recipe 0 0 ∷ [])) is (0 ∷ 0 ∷ 0 ∷ 0 ∷ 2 ∷ []))
    -- J: no plan, yet the run finishes at 9 and 5
    ∷ (choose week_j is (14 ∷ 0 ∷ 0 ∷ 0 ∷ 0 ∷ 0 ∷ []))
    ∷ (run week_j (1 ∷ 1 ∷ []) is (0 ∷ 0 ∷ 0 ∷ 2 ∷ 1 ∷ 1 ∷ 9 ∷ 1 ∷ 5 ∷ []))
    -- K
    ∷ (choose (week_k 21) is (0 ∷ 0 ∷ 0 ∷ 1 ∷ 1 ∷ []))
    ∷ (check (week_k 21) (1 ∷ []) is (0 ∷ 0 ∷ 0 ∷ 1 ∷ 20 ∷ 21 ∷ []))
    ∷ (choose (week_k 20) is (14 ∷ 0 ∷ 0 ∷ 0 ∷ 0 ∷ []))
    -- L
    ∷ (choose (written 0 10 []) is (0 ∷ 0 ∷ 0 ∷ 0 ∷ []))
    -- What A to L leave open, worked out from 01's text: a late batch goes on, and the one behind it is left with 2 minutes; a
    -- batch that is set aside; idle minutes between two batches and after them; and an entry that follows an idle minute
    ∷ (run week_late (1 ∷ 1 ∷ []) is (0 ∷ 0 ∷ 0 ∷ 2 ∷ 0 ∷ 1 ∷ 3 ∷ 2 ∷ 2 ∷ []))
    ∷ (run (week_g (recipe 11 1 ∷ recipe 0 0 ∷ [])) (2 ∷ []) is (0 ∷ 0 ∷ 0 ∷ 0 ∷ 10 ∷ 0 ∷ 0 ∷ []))
    ∷ (run week_gap (1 ∷ 1 ∷ []) is (0 ∷ 0 ∷ 0 ∷ 2 ∷ 3 ∷ 1 ∷ 2 ∷ 1 ∷ 5 ∷ []))
    ∷ ((changes (1 ∷ 0 ∷ 1 ∷ 1 ∷ 0 ∷ []) ∷ []) is (2 ∷ []))
    -- the log itself, and the byte after it; and of a run that is refused: a recipe that is not there, a log that is too short
    ∷ (log week_late (1 ∷ 1 ∷ []) is (1 ∷ 1 ∷ 1 ∷ 2 ∷ 255 ∷ []))
    ∷ (log week_gap (1 ∷ 1 ∷ []) is (1 ∷ 1 ∷ 0 ∷ 2 ∷ 2 ∷ 0 ∷ 0 ∷ 255 ∷ []))
    ∷ (run week_late (1 ∷ 2 ∷ []) is (13 ∷ 2 ∷ 0 ∷ 0 ∷ 0 ∷ 0 ∷ 0 ∷ 0 ∷ 0 ∷ []))
    ∷ (log week_late (1 ∷ 2 ∷ []) is (255 ∷ 255 ∷ 255 ∷ 255 ∷ 255 ∷ []))
    ∷ (run_numbers 2 (run_answer week_late (1 ∷ 1 ∷ []) 3) is (12 ∷ 0 ∷ 0 ∷ 0 ∷ 0 ∷ 0 ∷ 0 ∷ 0 ∷ 0 ∷ []))
    ∷ (log_after week_late (1 ∷ 1 ∷ []) (255 ∷ 255 ∷ 255 ∷ []) is (255 ∷ 255 ∷ 255 ∷ []))
    -- a set-aside batch asks nothing, though it arrives after the bound
    ∷ (choose week_aside is (0 ∷ 0 ∷ 0 ∷ 10 ∷ 1 ∷ 2 ∷ 2 ∷ []))
    ∷ (check week_aside (1 ∷ 2 ∷ 2 ∷ []) is (0 ∷ 0 ∷ 0 ∷ 10 ∷ 2 ∷ 4 ∷ 4 ∷ 4 ∷ 4 ∷ 10 ∷ []))
    -- and the picks table: of a plan, of a tie, of a reading worth nothing, of 14, and of a list that is refused
    ∷ (picks week_aside
    is (0 ∷ 0 ∷ 1 ∷ 1 ∷ 1 ∷ 1 ∷ 1 ∷ 1 ∷ 1 ∷ 1 ∷ 1
    ∷ 0 ∷ 0 ∷ 2 ∷ 2 ∷ 2 ∷ 2 ∷ 2 ∷ 2 ∷ 2 ∷ 1 ∷ 1
    ∷ 0 ∷ 0 ∷ 0 ∷ 0 ∷ 0 ∷ 0 ∷ 0 ∷ 0 ∷ 2 ∷ 2 ∷ 2
    ∷ 255 ∷ []))
    ∷ (picks (week_p (recipe 2 3 ∷ recipe 1 3 ∷ [])) is (0 ∷ 2 ∷ 1 ∷ 1 ∷ 255 ∷ []))
    ∷ (picks (week_p (recipe 2 0 ∷ recipe 0 0 ∷ [])) is (2 ∷ 2 ∷ 1 ∷ 1 ∷ 255 ∷ []))
    ∷ (picks week_j
    is (0 ∷ 0 ∷ 0 ∷ 0 ∷ 0 ∷ 0 ∷ 0 ∷ 0 ∷ 0 ∷ 1 ∷ 1
    ∷ 0 ∷ 0 ∷ 0 ∷ 0 ∷ 0 ∷ 0 ∷ 0 ∷ 0 ∷ 0 ∷ 0 ∷ 0
    ∷ 255 ∷ []))
    ∷ (picks (week_p (recipe 1 1 ∷ recipe 2 1 ∷ [])) is (255 ∷ 255 ∷ 255 ∷ 255 ∷ 255 ∷ []))
    -- 02, "Lists in any order": W, J and others with their last batch first; a choice names the recipes of the list in order, and so does
    -- 13; 9 names the place as handed in
    ∷ (choose (turned week_w) is (0 ∷ 0 ∷ 0 ∷ 22 ∷ 2 ∷ 1 ∷ 1 ∷ []))
    ∷ (check (turned week_w) (2 ∷ 1 ∷ 1 ∷ []) is (0 ∷ 0 ∷ 0 ∷ 22 ∷ 10 ∷ 20 ∷ 20 ∷ 50 ∷ 50 ∷ 100 ∷ []))
    ∷ (check (turned week_w) (1 ∷ 1 ∷ 1 ∷ []) is (15 ∷ 1 ∷ 0 ∷ 0 ∷ 0 ∷ 0 ∷ 0 ∷ 0 ∷ 0 ∷ 0 ∷ []))
    ∷ (run (turned week_w) (2 ∷ 1 ∷ 1 ∷ []) is (0 ∷ 0 ∷ 0 ∷ 4 ∷ 10 ∷ 1 ∷ 10 ∷ 1 ∷ 50 ∷ 1 ∷ 90 ∷ []))
    ∷ (log (turned week_gap) (1 ∷ 1 ∷ []) is (1 ∷ 1 ∷ 0 ∷ 2 ∷ 2 ∷ 0 ∷ 0 ∷ 255 ∷ []))
    ∷ (picks (turned week_aside) is picks week_aside)
    ∷ (choose (turned week_j) is (14 ∷ 0 ∷ 0 ∷ 0 ∷ 0 ∷ 0 ∷ []))
    ∷ (choose week_tie is (0 ∷ 0 ∷ 0 ∷ 9 ∷ 1 ∷ 2 ∷ []))
    ∷ (check week_tie (2 ∷ 1 ∷ []) is (13 ∷ 1 ∷ 0 ∷ 0 ∷ 0 ∷ 0 ∷ 0 ∷ 0 ∷ []))
    ∷ (choose week_twice is (9 ∷ 3 ∷ 0 ∷ 0 ∷ 0 ∷ 0 ∷ 0 ∷ []))
    ∷ []

examples : agree table ≡ true
unfolding
    table same agree week_w week_e week_g week_j week_k week_late week_gap week_aside week_tie week_twice turned week_p
    stretch_of fits next_bound best entries minutes_left first_pending log_of idle changes_after changes up_to_last outcome_of
    outcome_numbers choice_log workload_of outcome_at week_log before insert_in among ordered refused_if or_else first_of first some_below
    at_place short_fault unless_refused answer_by
    week_fault cost_fault worth_fault number_fault batch_fault list_fault name_fault choice_fault
    rule_fault check_fault passed refused_check check_answer table_fault fill_fault choose_fault refused_plan plan_of choose_answer filled table_after
    log_fault run_fault log_answer refused_run run_answer log_after
examples = refl
