-- Reading a sheet: what is answered, on every sequence of bytes.
use Rattle.std.specs.Prelude.{ℕ, ◌≤◌, ◌<◌, ◌≡◌, List, [], ◌∷◌, length, take, drop, Some, Result, Ok, Err}
use Rattle.arrays.specs.Position.{at_position}
use Rattle.arrays.specs.Rearranged.{Perm}
use Rattle.week.specs.declared.refusal.Fault.{Fault}
use Rattle.week.specs.declared.refusal.Refusal.{Refusal}
use Rattle.week.specs.Record.{Week, no_recipe, empty_batch, empty_week, batch_of, recipe_of}
use Rattle.week.specs.Refusal.{accepted, first_of, answer_by}
use Rattle.week.specs.Ordered.{ordered_week}
use Rattle.week.specs.Fault.{numbers}
use Rattle.judge.specs.Fault.{list_fault, WellFormed}
use Rattle.sheet.specs.declared.frame.Frame.TheVariants as frame
use Rattle.sheet.specs.Line.{lines_of, line_at}
use Rattle.sheet.specs.Frame.{frame_of}
use Rattle.sheet.specs.Fault.{max_bytes, size_fault, lines_fault}
use Rattle.sheet.specs.List.{sheet_week}

-- "Order: 18; then line by line 16, 17; then 1, 2, 3; then batch by batch 4 to 10". 02: "10 no longer occurs"; the rest is asked of the
-- list as the sheet holds it
abbrev pub read_faults : List ℕ → List Refusal
read_faults sheet = size_fault sheet ∷ lines_fault (lines_of sheet) ∷ list_fault (sheet_week sheet) ∷ []

unfoldable pub read_fault : List ℕ → Refusal
read_fault sheet = first_of (read_faults sheet)

-- 01's answer: the refusal's three numbers, and the list of the sheet, in order
pub record ReadAnswer : Type 0 where
  pub refusal : Refusal
  pub week : Week

-- "Anything else that its record holds is 0".
unfoldable pub refused_reading : Refusal → ReadAnswer
refused_reading r = record { refusal = r; week = empty_week 0 0 }

-- "Read a sheet, answering a list that passed 1 to 10." 02: "Sheets may come in any order as well."
unfoldable pub read_answer : List ℕ → ReadAnswer
read_answer sheet = answer_by (read_fault sheet) refused_reading (record { refusal = accepted; week = ordered_week (sheet_week sheet) })

-- the same answer, of what the code hands back
abbrev pub answer_of : Result Week Fault → ReadAnswer
answer_of (Ok week) = record { refusal = accepted; week = week }
answer_of (Err fault) = refused_reading (numbers fault)

-- a sheet that gives a list: 18, 16, 17 and 1 to 9 do not hold of it
pub record WellWritten (sheet : List ℕ) : Type 0 where
  pub short : length sheet ≤ max_bytes
  pub some : 0 < length (lines_of sheet)
  pub first : frame_of (line_at (lines_of sheet) 0) ≡ Some frame.Week
  pub later : (i : ℕ) → 1 ≤ i → i < length (lines_of sheet) → frame_of (line_at (lines_of sheet) i) ≡ Some frame.Batch
  pub list : WellFormed (sheet_week sheet)

-- 02: "Sheets may come in any order as well.": the same first line, and the same later ones, none lost or doubled
pub record LinesRearranged (a b : List ℕ) : Type 0 where
  pub first : take 1 (lines_of a) ≡ take 1 (lines_of b)
  pub later : Perm (drop 1 (lines_of a)) (drop 1 (lines_of b))

-- "Places of an answer beyond n hold 0": the batches, and of each batch the recipes
pub record ZeroBeyond (w : Week) : Type 0 where
  pub batches : (i : ℕ) → w.count < i → at_position empty_batch w.batches i ≡ empty_batch
  pub recipes : (i k : ℕ) → (batch_of w i).count < k → recipe_of (batch_of w i) k ≡ no_recipe
