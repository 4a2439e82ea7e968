-- Lists lent as records, computed from the definitions: one table, one claim.
use Rattle.std.specs.Prelude.{ℕ, suc, ◌+◌, ◌*◌, ◌-◌, ◌≡◌, refl, true, List, [], ◌∷◌, length, take, replicate}
use Rattle.arrays.specs.Each.{some_below}
use Rattle.arrays.specs.Example.{Example, ◌is◌, same, agree}
use Rattle.arrays.specs.Made.{tabulate}
use Rattle.arrays.specs.Position.{forward}
use Rattle.jobs.specs.Rule.{stretch_of, fits, next_bound}
use Rattle.jobs.specs.Best.{best}
use Rattle.select.specs.Table.{filled}
use Rattle.week.specs.declared.record.Batch.{Batch}
use Rattle.week.specs.Order.{before, insert_in, among, ordered}
use Rattle.week.specs.Written.{batches_of}
use Rattle.week.specs.Refusal.{refused_if, or_else, first_of, first, short_fault, unless_refused, answer_by, at_place}
use Rattle.judge.specs.Fault.{week_fault, number_fault, batch_fault, list_fault}
use Rattle.judge.specs.BatchFault.{cost_fault, worth_fault}
use Rattle.planner.specs.Choose.{width_of, table_fault, fill_fault, choose_fault, refused_plan, plan_of, choose_answer, table_after}
use Rattle.planner.specs.Examples.{recipe, batch, week_w}
use Rattle.records.specs.Records.{lent_week, records_after}

-- The calls as numbers.
abbrev numbers_of : List Batch → List ℕ
numbers_of [] = []
numbers_of (b ∷ bs) = b.number ∷ numbers_of bs

-- the refusal, and the numbers of the records after a call with a table of a size
abbrev refuses_with : (size t c : ℕ) → List Batch → List ℕ
refuses_with size t c rs =
    let plan = choose_answer (lent_week t c rs) size in
    plan.refusal.number ∷ plan.refusal.place ∷ plan.refusal.recipe ∷ numbers_of (records_after t c rs size)

-- a table that is just long enough
abbrev size_for : (t c : ℕ) → List Batch → ℕ
size_for t c rs = length rs * width_of (lent_week t c rs)

abbrev refuses : (t c : ℕ) → List Batch → List ℕ
refuses t c rs = refuses_with (size_for t c rs) t c rs

-- the total and the recipes
abbrev plans : (t c : ℕ) → List Batch → List ℕ
plans t c rs = let plan = choose_answer (lent_week t c rs) (size_for t c rs) in plan.total ∷ take (length rs) plan.choice

-- the table after a call: it was 255 everywhere, and has one byte more than the rows
abbrev picks : (t c : ℕ) → List Batch → List ℕ
picks t c rs = table_after (lent_week t c rs) (replicate (size_for t c rs + 1) 255)

-- The records.
-- W's and J's batches, the last first
records_w : List Batch
records_w = forward (batches_of week_w)

records_j : List Batch
records_j = batch 2 0 10 (recipe 5 1 ∷ []) ∷ batch 1 5 9 (recipe 4 1 ∷ []) ∷ []

-- a batch due at d
due_at : (number d : ℕ) → Batch
due_at number d = batch number 0 d (recipe 1 1 ∷ [])

-- a number that stands twice: the second time it is due first
records_twice : List Batch
records_twice = due_at 5 40 ∷ due_at 7 10 ∷ due_at 5 5 ∷ []

-- batches 1 to n, the last due first
records_down : ℕ → List Batch
records_down n = tabulate (λ i. due_at (suc i) (40 - i)) 0 n

table : List Example
table =
    -- W: the plan of A, over the records as they are left
    (refuses 0 100 records_w is (0 ∷ 0 ∷ 0 ∷ 7 ∷ 8 ∷ 9 ∷ []))
    ∷ (plans 0 100 records_w is (22 ∷ 2 ∷ 1 ∷ 1 ∷ []))
    -- with a table of a byte less 11, and they keep their places
    ∷ (refuses_with 302 0 100 records_w is (11 ∷ 0 ∷ 0 ∷ 9 ∷ 8 ∷ 7 ∷ []))
    -- J: 14, and they keep their places; the table is filled as for the list in order
    ∷ (refuses 0 10 records_j is (14 ∷ 0 ∷ 0 ∷ 2 ∷ 1 ∷ []))
    ∷ (picks 0 10 records_j
    is (0 ∷ 0 ∷ 0 ∷ 0 ∷ 0 ∷ 0 ∷ 0 ∷ 0 ∷ 0 ∷ 1 ∷ 1
    ∷ 0 ∷ 0 ∷ 0 ∷ 0 ∷ 0 ∷ 0 ∷ 0 ∷ 0 ∷ 0 ∷ 0 ∷ 0
    ∷ 255 ∷ []))
    -- 9 names the place as handed in
    ∷ (refuses 0 100 records_twice is (9 ∷ 3 ∷ 0 ∷ 5 ∷ 7 ∷ 5 ∷ []))
    -- a close that is the opening, and no record
    ∷ (refuses 5 5 [] is (1 ∷ 0 ∷ 0 ∷ []))
    ∷ (refuses 0 10 [] is (0 ∷ 0 ∷ 0 ∷ []))
    -- seventeen records
    ∷ (refuses 0 100 (records_down 17) is (3 ∷ 0 ∷ 0 ∷ numbers_of (records_down 17)))
    ∷ []

examples : agree table ≡ true
unfolding
    table same agree week_w records_w records_j due_at records_twice records_down stretch_of fits next_bound best filled
    before insert_in among ordered some_below refused_if or_else first_of first short_fault unless_refused answer_by at_place
    week_fault cost_fault worth_fault number_fault batch_fault list_fault table_fault fill_fault choose_fault refused_plan plan_of
    choose_answer table_after records_after
examples = refl
