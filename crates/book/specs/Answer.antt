-- What each call on the book answers, and the book that it hands back: document 02, One. "a refused call leaves the book"; one that is
-- accepted hands back a list freshly written, in order.
use Rattle.std.specs.Prelude.{ℕ, List, [], ◌∷◌, ◌++◌, Result, Ok, Err}
use Rattle.week.specs.declared.record.Batch.{Batch}
use Rattle.week.specs.declared.refusal.Fault.{Fault}
use Rattle.week.specs.declared.refusal.Refusal.{Refusal}
use Rattle.week.specs.Record.{Week, empty_week}
use Rattle.week.specs.Refusal.{accepted, unless_refused, answer_by}
use Rattle.week.specs.Fault.{numbers, refusal_of}
use Rattle.week.specs.Order.{ordered}
use Rattle.week.specs.Numbers.{without}
use Rattle.week.specs.Written.{batches_of, written}
use Rattle.planner.specs.declared.choose.Plan.{Plan}
use Rattle.planner.specs.Choose.{ChooseAnswer, chosen_answer, choose_answer}
use Rattle.book.specs.declared.book.Book.{Book}
use Rattle.book.specs.declared.book.Answered.{Answered}
use Rattle.book.specs.Fault.{open_fault, add_fault, withdraw_fault}

-- what a call that opens or changes a book answers: a refusal's three numbers, and the book
pub record CallAnswer : Type 0 where
  pub refusal : Refusal
  pub book : Book

-- the answer that the code's result and book are
abbrev pub answered : Answered (Unit {0}) → CallAnswer
answered a = record { refusal = refusal_of a.result; book = a.book }

-- an empty book of a week
abbrev pub empty_book : (opening closing : ℕ) → Book
empty_book t c = record { list = empty_week t c }

-- the batches that a book holds
abbrev pub held_in : Book → List Batch
held_in book = batches_of book.list

-- a book of the same week, with some batches: 02, Two, "an accepted call hands a book back in that order"
abbrev pub holding : Book → List Batch → Book
holding book bs = record { list = written book.list.opening book.list.closing (ordered book.list.opening bs) }

-- an answer with a book
abbrev pub hands_back : Book → Refusal → CallAnswer
hands_back book refusal = record { refusal = refusal; book = book }

-- "a refused call leaves the book": a call's answer, by the list that it makes of a book or what refuses it
abbrev pub changed : Book → Result Week Fault → CallAnswer
changed book (Ok list) = hands_back (record { list = list }) accepted
changed book (Err fault) = hands_back book (numbers fault)

-- "open it empty"; "a refused one hands back an empty book of week 0 to 0"
unfoldable pub open_answer : (opening closing : ℕ) → CallAnswer
open_answer t c = answer_by (open_fault t c) (hands_back (empty_book 0 0)) (hands_back (empty_book t c) accepted)

-- "add puts the batch in order"
unfoldable pub add_answer : Book → Batch → CallAnswer
add_answer book b =
    answer_by (add_fault book.list b) (hands_back book)
    (hands_back (holding book (held_in book ++ (b ∷ []))) accepted)

-- "withdraw by number"
unfoldable pub withdraw_answer : Book → ℕ → CallAnswer
withdraw_answer book number =
    answer_by (withdraw_fault book.list number) (hands_back book) (hands_back (holding book (without number (held_in book))) accepted)

-- what planning a book answers: what Choose does, and the book
pub record PlanAnswer : Type 0 where
  pub plan : ChooseAnswer
  pub book : Book

-- the answer that the code's result and book are
abbrev pub planned : Answered Plan → PlanAnswer
planned a = record { plan = chosen_answer a.result; book = a.book }

-- "plan": as Choose answers, with a table of a size
unfoldable pub plan_answer : Book → ℕ → PlanAnswer
plan_answer book size =
    let plan = choose_answer book.list size in
    record { plan = plan; book = unless_refused plan.refusal (holding book (held_in book)) book }
