-- What happens to a book after its opening, and the batches that it should hold then, which are collected without a book: document 02,
-- One, "After any calls from opening on ..".
use Rattle.std.specs.Prelude.{ℕ, List, [], ◌∷◌, ◌++◌, length}
use Rattle.week.specs.declared.record.Batch.{Batch}
use Rattle.week.specs.Refusal.{unless_refused}
use Rattle.week.specs.Numbers.{without}
use Rattle.book.specs.declared.book.Book.{Book}
use Rattle.book.specs.Fault.{join_fault, leave_fault}
use Rattle.book.specs.Answer.{add_answer, withdraw_answer, plan_answer}

-- a call on an open book; planning is lent a table
pub data Call : Type 0 where
  adds : Batch → Call
  withdraws : ℕ → Call
  plans : (table : List ℕ) → Call

-- "Each call hands the book back.": the book after a call, and after several
abbrev pub after_call : Call → Book → Book
after_call (adds b) book = (add_answer book b).book
after_call (withdraws number) book = (withdraw_answer book number).book
after_call (plans table) book = (plan_answer book (length table)).book

abbrev pub after_calls : List Call → Book → Book
after_calls [] book = book
after_calls (call ∷ calls) book = after_calls calls (after_call call book)

-- "the batches added and not withdrawn since", in a week that closes at c: an accepted addition and an accepted withdrawal change them,
-- nothing else does
abbrev pub collected_by : ℕ → Call → List Batch → List Batch
collected_by c (adds b) bs = unless_refused (join_fault c bs b) (bs ++ (b ∷ [])) bs
collected_by c (withdraws number) bs = unless_refused (leave_fault bs number) (without number bs) bs
collected_by c (plans table) bs = bs

abbrev pub collected : ℕ → List Call → List Batch → List Batch
collected c [] bs = bs
collected c (call ∷ calls) bs = collected c calls (collected_by c call bs)
