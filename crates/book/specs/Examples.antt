-- Calls on the book, computed from the definitions: one table, one claim.
use Rattle.std.specs.Prelude.{ℕ, suc, ◌≡◌, refl, true, List, [], ◌∷◌, ◌++◌, take}
use Rattle.arrays.specs.Each.{some_below}
use Rattle.arrays.specs.Example.{Example, ◌is◌, same, agree}
use Rattle.arrays.specs.Made.{tabulate}
use Rattle.jobs.specs.Rule.{stretch_of, fits, next_bound}
use Rattle.jobs.specs.Best.{best}
use Rattle.week.specs.declared.record.Recipe.{Recipe}
use Rattle.week.specs.declared.record.Batch.{Batch}
use Rattle.week.specs.declared.refusal.Refusal.{Refusal}
use Rattle.week.specs.Record.{Week, max_batches, batch_at}
use Rattle.week.specs.Order.{before, insert_in, among, ordered}
use Rattle.week.specs.Numbers.{is_held, without}
use Rattle.week.specs.Written.{written}
use Rattle.week.specs.Refusal.{refused_if, or_else, first_of, first, short_fault, unless_refused, answer_by, at_place}
use Rattle.judge.specs.Fault.{week_fault, number_fault, batch_fault, list_fault}
use Rattle.judge.specs.BatchFault.{cost_fault, worth_fault}
use Rattle.planner.specs.Choose.{max_picks, table_fault, choose_fault, refused_plan, plan_of, choose_answer}
use Rattle.planner.specs.Examples.{recipe, batch, week_w}
use Rattle.book.specs.declared.book.Book.{Book}
use Rattle.book.specs.Fault.{open_fault, join_fault, leave_fault, add_fault, withdraw_fault}
use Rattle.book.specs.Answer.{CallAnswer, PlanAnswer, held_in, open_answer, add_answer, withdraw_answer, plan_answer}

-- The answers as numbers.
abbrev refusal_numbers : Refusal → List ℕ
refusal_numbers r = r.number ∷ r.place ∷ r.recipe ∷ []

abbrev numbers_of : List Batch → List ℕ
numbers_of [] = []
numbers_of (b ∷ bs) = b.number ∷ numbers_of bs

-- the week of a book, and the numbers of the batches that it holds
abbrev holds : Book → List ℕ
holds book = book.list.opening ∷ book.list.closing ∷ numbers_of (held_in book)

-- a refusal, and what the book that is handed back holds
abbrev answers : CallAnswer → List ℕ
answers a = refusal_numbers a.refusal ++ holds a.book

-- a plan's refusal, total and recipes, and the same of the book
abbrev plans : PlanAnswer → List ℕ
plans p =
    refusal_numbers p.plan.refusal ++ (p.plan.total ∷ (take p.book.list.count p.plan.choice ++ holds p.book))

abbrev recipe_numbers : List Recipe → List ℕ
recipe_numbers [] = []
recipe_numbers (r ∷ rs) = r.cost ∷ r.worth ∷ recipe_numbers rs

abbrev batch_numbers : List Batch → List ℕ
batch_numbers [] = []
batch_numbers (b ∷ bs) = b.number ∷ b.arrival ∷ b.due ∷ b.count ∷ (recipe_numbers b.recipes ++ batch_numbers bs)

-- every number of a list, those beyond its batches too
abbrev whole : Week → List ℕ
whole w = w.opening ∷ w.closing ∷ w.count ∷ batch_numbers w.batches

-- The books.
-- one batch added after the other
abbrev with_added : Book → List Batch → Book
with_added book [] = book
with_added book (b ∷ bs) = with_added (add_answer book b).book bs

-- W's batches, the last first, in a book of W's week
book_w : Book
book_w = with_added (open_answer 0 100).book (batch_at week_w 2 ∷ batch_at week_w 1 ∷ batch_at week_w 0 ∷ [])

-- and without batch 8
book_w8 : Book
book_w8 = (withdraw_answer book_w 8).book

-- a batch due at d
due_at : (number d : ℕ) → Batch
due_at number d = batch number 0 d (recipe 1 1 ∷ [])

-- batches 1 to 16, and the same without batch 3
book_full : Book
book_full = record { list = written 0 100 (tabulate (λ i. due_at (suc i) (suc i)) 0 max_batches) }

book_room : Book
book_room = (withdraw_answer book_full 3).book

-- a number twice, in places that are others in order
book_wrong : Book
book_wrong = record { list = written 0 100 (due_at 5 40 ∷ due_at 5 5 ∷ due_at 7 10 ∷ []) }

-- W and J with their last batch first
book_turned : Book
book_turned = record { list = written 0 100 (batch_at week_w 2 ∷ batch_at week_w 1 ∷ batch_at week_w 0 ∷ []) }

book_j : Book
book_j = record { list = written 0 10 (batch 2 0 10 (recipe 5 1 ∷ []) ∷ batch 1 5 9 (recipe 4 1 ∷ []) ∷ []) }

-- two of W's batches, and another beyond them
book_beyond : Book
book_beyond = record { list = record { opening = 0; closing = 100; count = 2; batches = week_w.batches } }

table : List Example
table =
    -- opened: 1, 2, and the book of week 0 to 0, which every later call refuses; and a week of 2,400 minutes
    (answers (open_answer 5 5) is (1 ∷ 0 ∷ 0 ∷ 0 ∷ 0 ∷ []))
    ∷ (answers (open_answer 5 2406) is (2 ∷ 0 ∷ 0 ∷ 0 ∷ 0 ∷ []))
    ∷ (answers (add_answer (open_answer 5 5).book (due_at 1 1)) is (1 ∷ 0 ∷ 0 ∷ 0 ∷ 0 ∷ []))
    ∷ (answers (withdraw_answer (open_answer 5 5).book 1) is (1 ∷ 0 ∷ 0 ∷ 0 ∷ 0 ∷ []))
    ∷ (plans (plan_answer (open_answer 5 5).book max_picks) is (1 ∷ 0 ∷ 0 ∷ 0 ∷ 0 ∷ 0 ∷ []))
    ∷ (answers (open_answer 5 2405) is (0 ∷ 0 ∷ 0 ∷ 5 ∷ 2405 ∷ []))
    -- W's batches, added 9, 8, 7: W's list, and its plan
    ∷ (whole book_w.list is whole week_w)
    ∷ (plans (plan_answer book_w max_picks) is (0 ∷ 0 ∷ 0 ∷ 22 ∷ 2 ∷ 1 ∷ 1 ∷ 0 ∷ 100 ∷ 7 ∷ 8 ∷ 9 ∷ []))
    -- 8 withdrawn, the plan then, 8 once more, and number 0, which no batch has
    ∷ (answers (withdraw_answer book_w 8) is (0 ∷ 0 ∷ 0 ∷ 0 ∷ 100 ∷ 7 ∷ 9 ∷ []))
    ∷ (plans (plan_answer book_w8 max_picks) is (0 ∷ 0 ∷ 0 ∷ 19 ∷ 1 ∷ 1 ∷ 0 ∷ 100 ∷ 7 ∷ 9 ∷ []))
    ∷ (answers (withdraw_answer book_w8 8) is (21 ∷ 0 ∷ 0 ∷ 0 ∷ 100 ∷ 7 ∷ 9 ∷ []))
    ∷ (answers (withdraw_answer book_w8 0) is (21 ∷ 0 ∷ 0 ∷ 0 ∷ 100 ∷ 7 ∷ 9 ∷ []))
    -- no recipe, costs that rise, a number that is held by a batch that stands before the new one, and by one that stands after it
    ∷ (answers (add_answer book_w8 (batch 1 0 50 [])) is (4 ∷ 0 ∷ 0 ∷ 0 ∷ 100 ∷ 7 ∷ 9 ∷ []))
    ∷ (answers (add_answer book_w8 (batch 1 0 50 (recipe 1 1 ∷ recipe 2 1 ∷ []))) is (7 ∷ 0 ∷ 2 ∷ 0 ∷ 100 ∷ 7 ∷ 9 ∷ []))
    ∷ (answers (add_answer book_w8 (due_at 7 50)) is (9 ∷ 0 ∷ 0 ∷ 0 ∷ 100 ∷ 7 ∷ 9 ∷ []))
    ∷ (answers (add_answer book_w8 (due_at 9 50)) is (9 ∷ 0 ∷ 0 ∷ 0 ∷ 100 ∷ 7 ∷ 9 ∷ []))
    -- sixteen held: 20, also of a number that is held and of no recipe; one withdrawn, and its place is used again
    ∷ (refusal_numbers (add_answer book_full (due_at 17 17)).refusal is (20 ∷ 0 ∷ 0 ∷ []))
    ∷ (refusal_numbers (add_answer book_full (due_at 16 17)).refusal is (20 ∷ 0 ∷ 0 ∷ []))
    ∷ (refusal_numbers (add_answer book_full (batch 17 0 17 [])).refusal is (20 ∷ 0 ∷ 0 ∷ []))
    ∷ (answers (add_answer book_room (due_at 17 3))
    is (0 ∷ 0 ∷ 0 ∷ 0 ∷ 100 ∷ 1 ∷ 2 ∷ 17 ∷ 4 ∷ 5 ∷ 6 ∷ 7 ∷ 8 ∷ 9 ∷ 10 ∷ 11 ∷ 12 ∷ 13 ∷ 14 ∷ 15 ∷ 16 ∷ []))
    -- a held list with a number twice is refused with its own place, and stays as it is
    ∷ (answers (add_answer book_wrong (due_at 1 1)) is (9 ∷ 2 ∷ 0 ∷ 0 ∷ 100 ∷ 5 ∷ 5 ∷ 7 ∷ []))
    ∷ (answers (withdraw_answer book_wrong 1) is (9 ∷ 2 ∷ 0 ∷ 0 ∷ 100 ∷ 5 ∷ 5 ∷ 7 ∷ []))
    ∷ (plans (plan_answer book_wrong max_picks) is (9 ∷ 2 ∷ 0 ∷ 0 ∷ 0 ∷ 0 ∷ 0 ∷ 0 ∷ 100 ∷ 5 ∷ 5 ∷ 7 ∷ []))
    -- one that is out of order is handed back in order by an accepted call, and as it stands by a refused one, 11 and 14 too
    ∷ (answers (add_answer book_turned (due_at 1 50)) is (0 ∷ 0 ∷ 0 ∷ 0 ∷ 100 ∷ 7 ∷ 1 ∷ 8 ∷ 9 ∷ []))
    ∷ (answers (withdraw_answer book_turned 8) is (0 ∷ 0 ∷ 0 ∷ 0 ∷ 100 ∷ 7 ∷ 9 ∷ []))
    ∷ (plans (plan_answer book_turned max_picks) is (0 ∷ 0 ∷ 0 ∷ 22 ∷ 2 ∷ 1 ∷ 1 ∷ 0 ∷ 100 ∷ 7 ∷ 8 ∷ 9 ∷ []))
    ∷ (whole (plan_answer book_turned max_picks).book.list is whole week_w)
    ∷ (answers (add_answer book_turned (due_at 7 50)) is (9 ∷ 0 ∷ 0 ∷ 0 ∷ 100 ∷ 9 ∷ 8 ∷ 7 ∷ []))
    ∷ (answers (withdraw_answer book_turned 1) is (21 ∷ 0 ∷ 0 ∷ 0 ∷ 100 ∷ 9 ∷ 8 ∷ 7 ∷ []))
    ∷ (plans (plan_answer book_turned 0) is (11 ∷ 0 ∷ 0 ∷ 0 ∷ 0 ∷ 0 ∷ 0 ∷ 0 ∷ 100 ∷ 9 ∷ 8 ∷ 7 ∷ []))
    ∷ (plans (plan_answer book_j max_picks) is (14 ∷ 0 ∷ 0 ∷ 0 ∷ 0 ∷ 0 ∷ 0 ∷ 10 ∷ 2 ∷ 1 ∷ []))
    -- beyond the batches held an accepted call leaves empty ones, and a refused one what stood there
    ∷ (whole (plan_answer book_beyond max_picks).book.list is whole (written 0 100 (batch_at week_w 0 ∷ batch_at week_w 1 ∷ [])))
    ∷ (whole (plan_answer book_beyond 0).book.list is whole book_beyond.list)
    ∷ (whole (withdraw_answer book_beyond 9).book.list is whole book_beyond.list)
    ∷ []

examples : agree table ≡ true
unfolding
    table same agree week_w book_w book_w8 due_at book_full book_room book_wrong book_turned book_j book_beyond stretch_of fits next_bound
    best before insert_in among ordered is_held without some_below refused_if or_else first_of first short_fault unless_refused answer_by
    at_place week_fault cost_fault worth_fault number_fault batch_fault list_fault table_fault choose_fault refused_plan plan_of
    choose_answer open_fault join_fault leave_fault add_fault withdraw_fault open_answer add_answer withdraw_answer plan_answer
examples = refl
