-- Refusals 16 to 18: document 01, "Who can be refused, and why".
use Rattle.std.specs.Prelude.{ℕ, suc, not, List, [], ◌∷◌, length, ltb, eqb, Option, Some, None}
use Rattle.week.specs.declared.refusal.Refusal.{Refusal}
use Rattle.week.specs.Refusal.{refused, refused_if, first_of, first}
use Rattle.sheet.specs.declared.frame.Frame.{Frame}
use Rattle.sheet.specs.declared.frame.Frame.TheVariants as frame
use Rattle.sheet.specs.Line.{line_at}
use Rattle.sheet.specs.Frame.{frame_of}

-- "18: above 4,096 bytes."
abbrev pub max_bytes : ℕ
max_bytes = 4096

unfoldable pub size_fault : List ℕ → Refusal
size_fault sheet = refused_if 18 0 0 (ltb max_bytes (length sheet))

-- "16: a line that is no frame, or has no line feed." "17: the first line .. is no week, or a later one is a week.": the place is
-- "the line from 1"
unfoldable pub frame_fault : ℕ → Option Frame → Refusal
frame_fault place None = refused 16 place 0
frame_fault place (Some frame.Week) = refused_if 17 place 0 (not (eqb place 1))
frame_fault place (Some frame.Batch) = refused_if 17 place 0 (eqb place 1)

-- the line of index i
unfoldable pub line_fault : List (List ℕ) → ℕ → Refusal
line_fault lines i = frame_fault (suc i) (frame_of (line_at lines i))

-- "17: the first line is missing ..", "(1 for an empty sheet)"; else "line by line 16, 17"
unfoldable pub lines_fault : List (List ℕ) → Refusal
lines_fault lines = first_of (refused_if 17 1 0 (eqb (length lines) 0) ∷ first (line_fault lines) 0 (length lines) ∷ [])
