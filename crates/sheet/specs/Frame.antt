-- What a line is: document 01, "The sheet".
use Rattle.std.specs.Prelude.{ℕ, ◌+◌, ◌*◌, Bool, cond, ◌&&◌, List, length, eqb, Option, Some, None}
use Rattle.sheet.specs.declared.frame.Frame.{Frame}
use Rattle.sheet.specs.declared.frame.Frame.TheVariants.{Week, Batch}
use Rattle.sheet.specs.Hex.{byte_at}
use Rattle.sheet.specs.Line.{hex_line}

-- the byte that a frame begins with: "Week: 01", "Batch: 02"
abbrev pub byte_of : Frame → ℕ
byte_of Week = 1
byte_of Batch = 2

-- a line of n bytes: "two digits a byte, ended by a line feed"
abbrev pub length_of : ℕ → ℕ
length_of n = 2 * n + 1

-- "Week: 01, t, c."
abbrev pub week_length : ℕ
week_length = length_of 5

unfoldable pub is_week : List ℕ → Bool
is_week line = eqb (byte_at line 0) (byte_of Week) && eqb (length line) week_length

-- "Batch: 02, number, r, d, one byte with the count of recipes, then cost and worth for each. The length must agree with the
-- count.": a batch's line without recipes, and what each of them adds
abbrev pub batch_length : ℕ
batch_length = length_of 8

abbrev pub recipe_length : ℕ
recipe_length = 2 * 4

unfoldable pub is_batch : List ℕ → Bool
is_batch line =
    eqb (byte_at line 0) (byte_of Batch) && eqb (length line) (batch_length + recipe_length * byte_at line 7)

-- "Any other line is no frame."
unfoldable pub frame_of : List ℕ → Option Frame
frame_of line = cond (hex_line line) (cond (is_week line) (Some Week) (cond (is_batch line) (Some Batch) None)) None
