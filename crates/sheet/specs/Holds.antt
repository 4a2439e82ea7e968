-- When the condition of each of 16 to 18 holds, and where: document 01, "Who can be refused, and why". Lines are numbered from 1.
use Rattle.std.specs.Prelude.{ℕ, ◌<◌, ◌≡◌, ◌⊎◌, List, [], ◌∷◌, ◌++◌, length, Option, Some, None}
use Rattle.arrays.specs.Position.{at_position}
use Rattle.week.specs.declared.refusal.Refusal.{Refusal}
use Rattle.week.specs.Refusal.{refused}
use Rattle.week.specs.RefusalOrder.{◌when◌, ◌or◌, some_of}
use Rattle.judge.specs.Holds.{ListHolds, list_numbers}
use Rattle.sheet.specs.declared.frame.Frame.{Frame}
use Rattle.sheet.specs.declared.frame.Frame.TheVariants as frame
use Rattle.sheet.specs.Line.{lines_of}
use Rattle.sheet.specs.Frame.{frame_of}
use Rattle.sheet.specs.Fault.{max_bytes}
use Rattle.sheet.specs.List.{sheet_week}

-- "16: a line that is no frame, or has no line feed." "17: the first line .. is no week, or a later one is a week.": line i. A line
-- without its line feed is no frame.
abbrev pub FrameHolds : ℕ → Option Frame → Refusal → Type 0
FrameHolds i f =
    (refused 16 i 0 when (f ≡ None))
    or (refused 17 i 0 when (((i ≡ 1) × (f ≡ Some frame.Week → ⊥)) ⊎ ((1 < i) × (f ≡ Some frame.Week))))

abbrev pub LineHolds : List (List ℕ) → ℕ → Refusal → Type 0
LineHolds lines i = FrameHolds i (frame_of (at_position [] lines i))

-- "17: the first line is missing"; "(1 for an empty sheet)"
abbrev pub LinesHold : List (List ℕ) → Refusal → Type 0
LinesHold lines = (refused 17 1 0 when (length lines ≡ 0)) or some_of (length lines) (LineHolds lines)

-- "18: above 4,096 bytes.", and of a sheet
abbrev pub ReadHolds : List ℕ → Refusal → Type 0
ReadHolds sheet =
    (refused 18 0 0 when (max_bytes < length sheet)) or LinesHold (lines_of sheet) or ListHolds (sheet_week sheet)

-- the numbers of the reader: 16 to 18, and 1 to 9
abbrev pub read_numbers : List ℕ
read_numbers = (18 ∷ 16 ∷ 17 ∷ []) ++ list_numbers
