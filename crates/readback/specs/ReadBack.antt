-- What it is that a list is read back from its sheet.
use Rattle.std.specs.Prelude.{ℕ, ◌≤◌, ◌<◌, ◌≡◌, List, length}
use Rattle.arrays.specs.Bits.{max16}
use Rattle.week.specs.declared.record.Batch.{Batch}
use Rattle.week.specs.Record.{Week, batch_at, recipe_at}
use Rattle.sheet.specs.Line.{lines_of}
use Rattle.sheet.specs.Fault.{max_bytes, lines_fault}
use Rattle.sheet.specs.List.{sheet_week}
use Rattle.draft.specs.Record.{Draft}
use Rattle.draft.specs.Sheet.{batch_in}

-- numbers of 16 bits, as a list and its batches have them
pub record SizedBatch (b : Batch) : Type 0 where
  pub number : b.number ≤ max16
  pub arrival : b.arrival ≤ max16
  pub due : b.due ≤ max16
  pub recipes : (k : ℕ) → ((recipe_at b k).cost ≤ max16) × ((recipe_at b k).worth ≤ max16)

pub record Sized (d : Draft) : Type 0 where
  pub opening : d.opening ≤ max16
  pub closing : d.closing ≤ max16
  pub batches : (i : ℕ) → SizedBatch (batch_in d i)

-- the same number, minutes and recipes
pub record SameBatch (a b : Batch) : Type 0 where
  pub number : b.number ≡ a.number
  pub arrival : b.arrival ≡ a.arrival
  pub due : b.due ≡ a.due
  pub count : b.count ≡ a.count
  pub recipes : (k : ℕ) → k < a.count → recipe_at b k ≡ recipe_at a k

-- the same minutes, and as many batches, each the same
pub record SameList (d : Draft) (w : Week) : Type 0 where
  pub opening : w.opening ≡ d.opening
  pub closing : w.closing ≡ d.closing
  pub count : w.count ≡ d.count
  pub batches : (i : ℕ) → i < d.count → SameBatch (batch_in d i) (batch_at w i)

-- a sheet that 18, 16 and 17 pass, and that holds the list
pub record ReadBack (d : Draft) (sheet : List ℕ) : Type 0 where
  pub short : length sheet ≤ max_bytes
  pub lines : (lines_fault (lines_of sheet)).number ≡ 0
  pub list : SameList d (sheet_week sheet)
