-- What refuses a call on the book: document 02, One, "Checks". What joins and what leaves is judged over the batches held alone, so that
-- a history can speak of it without a book.
use Rattle.std.specs.Prelude.{ℕ, not, List, [], ◌∷◌, ◌++◌, length, leb}
use Rattle.week.specs.declared.record.Batch.{Batch}
use Rattle.week.specs.declared.refusal.Refusal.{Refusal}
use Rattle.week.specs.Record.{Week, max_batches}
use Rattle.week.specs.Refusal.{refused_if, first_of}
use Rattle.week.specs.Numbers.{number_in, is_held}
use Rattle.week.specs.Written.{batches_of}
use Rattle.judge.specs.BatchFault.{own_faults}
use Rattle.judge.specs.Fault.{minutes_faults, number_fault, list_fault}

-- "1 and 2 (opening ..)"
unfoldable pub open_fault : (opening closing : ℕ) → Refusal
open_fault t c = first_of (minutes_faults t c)

-- 4 to 9 of a batch that is new to some others, in a week that closes at c; they name no place. "add puts the batch in order, so 10
-- never occurs there"
abbrev pub new_faults : ℕ → List Batch → Batch → List Refusal
new_faults c bs b = own_faults c b ++ (number_fault (number_in bs) (length bs) b ∷ [])

-- "20 the book already holds 16 (add, before 4)"
unfoldable pub join_fault : ℕ → List Batch → Batch → Refusal
join_fault c bs b = first_of (refused_if 20 0 0 (leb max_batches (length bs)) ∷ new_faults c bs b)

-- "21 no such number (withdraw)"
unfoldable pub leave_fault : List Batch → ℕ → Refusal
leave_fault bs number = refused_if 21 0 0 (not (is_held number bs))

-- "every other call first refuses a held list that is not well formed, as Choose would"
unfoldable pub add_fault : Week → Batch → Refusal
add_fault w b = first_of (list_fault w ∷ join_fault w.closing (batches_of w) b ∷ [])

unfoldable pub withdraw_fault : Week → ℕ → Refusal
withdraw_fault w number = first_of (list_fault w ∷ leave_fault (batches_of w) number ∷ [])
