-- A list as the publisher's sheet: docs/WEEKDESK.md, ‘The operations’, and document 01, "The sheet".
use Rattle.std.specs.Prelude.{ℕ, suc, ◌+◌, ◌-◌, ◌*◌, ◌/◌, ◌%◌, ◌≤◌, ◌<◌, cond, get_or, ltb}
use mathlib.Core.List.{List, [], ◌∷◌, ◌++◌, flatten}
use Rattle.arrays.specs.Text.{line_feed}
use Rattle.arrays.specs.Made.{tabulate}
use Rattle.week.specs.declared.record.Recipe.{Recipe}
use Rattle.week.specs.declared.record.Batch.{Batch}
use Rattle.week.specs.declared.refusal.Refusal.{Refusal}
use Rattle.week.specs.Record.{max_batches, max_recipes, no_batch, recipe_at}
use Rattle.week.specs.Refusal.{refused_if, first_of, first, answer_by}
use Rattle.sheet.specs.declared.frame.Frame.TheVariants as frame
use Rattle.sheet.specs.Frame.{byte_of, week_length, batch_length, recipe_length}
use Rattle.text.specs.Line.{refusal_line}
use Rattle.draft.specs.Record.{Draft}

-- "upper-case hexadecimal, two digits a byte": the digit of a number below 16, a byte, and "Values of two bytes stand high byte first."
unfoldable pub hex_digit : ℕ → ℕ
hex_digit n = cond (ltb n 10) (48 + n) (65 + (n - 10))

unfoldable pub hex_byte : ℕ → List ℕ
hex_byte b = hex_digit (b / 16) ∷ hex_digit (b % 16) ∷ []

unfoldable pub hex_value : ℕ → List ℕ
hex_value v = hex_byte (v / 256) ++ hex_byte (v % 256)

-- "Week: 01, t, c."
unfoldable pub week_frame : (opening closing : ℕ) → List ℕ
week_frame t c = hex_byte (byte_of frame.Week) ++ (hex_value t ++ (hex_value c ++ (line_feed ∷ [])))

-- "Batch: 02, number, r, d, one byte with the count of recipes, then cost and worth for each.": the recipes, the first n of them, and
-- the whole
abbrev pub recipe_part : Recipe → List ℕ
recipe_part r = hex_value r.cost ++ hex_value r.worth

unfoldable pub recipes_part : Batch → ℕ → List ℕ
recipes_part b n = flatten (tabulate (λ k. recipe_part (recipe_at b k)) 0 n)

unfoldable pub batch_frame : Batch → List ℕ
batch_frame b =
    hex_byte (byte_of frame.Batch) ++ (hex_value b.number ++ (hex_value b.arrival ++ (hex_value b.due
    ++ (hex_byte b.count ++ (recipes_part b b.count ++ (line_feed ∷ []))))))

abbrev pub batch_in : Draft → ℕ → Batch
batch_in d i = get_or d.batches i no_batch

-- ‘the list's own refusal 3 or 4 if it cannot be written’: more batches than a list has, or recipes that were not kept
unfoldable pub unkept : Draft → ℕ → Refusal
unkept d i = refused_if 4 (suc i) 0 (ltb max_recipes (batch_in d i).count)

unfoldable pub sheet_fault : Draft → Refusal
sheet_fault d = first_of (refused_if 3 0 0 (ltb max_batches d.count) ∷ first (unkept d) 0 d.count ∷ [])

-- a list that can be written
pub record Writable (d : Draft) : Type 0 where
  pub most : d.count ≤ max_batches
  pub each : (i : ℕ) → i < d.count → (batch_in d i).count ≤ max_recipes

-- the frames of the first n batches, and of the list
unfoldable pub batch_frames : Draft → ℕ → List (List ℕ)
batch_frames d n = tabulate (λ i. batch_frame (batch_in d i)) 0 n

unfoldable pub sheet_frames : Draft → List (List ℕ)
sheet_frames d = week_frame d.opening d.closing ∷ batch_frames d d.count

unfoldable pub sheet_lines : Draft → List (List ℕ)
sheet_lines d = answer_by (sheet_fault d) (λ r. refusal_line r ∷ []) (sheet_frames d)

-- the longest sheet of a list that can be written
abbrev pub max_sheet : ℕ
max_sheet = week_length + max_batches * (batch_length + recipe_length * max_recipes)

-- the whole of it: the lines, one after the other
abbrev pub sheet_answer : Draft → List ℕ
sheet_answer d = flatten (sheet_lines d)
