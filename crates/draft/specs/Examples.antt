-- Case W as the commands that write it down and as a sheet, and lists at the limits of what is kept, printed, handed in and written on
-- a sheet, computed from the definitions: one table, one claim.
use Rattle.std.specs.Prelude.{ℕ, suc, ◌≡◌, refl, true, length, get_or, take, replicate}
use Prim.Native.String.{String}
use mathlib.Core.List.{List, [], ◌∷◌, flatten}
use Rattle.arrays.specs.Example.{Example, ◌is◌, same, agree}
use Rattle.arrays.specs.Made.{tabulate, padded}
use Rattle.arrays.specs.Text.{bytes}
use Rattle.week.specs.declared.record.Recipe.{Recipe}
use Rattle.week.specs.declared.record.Batch.{Batch}
use Rattle.week.specs.Record.{Week, max_recipes, no_recipe, no_batch, batch_at}
use Rattle.week.specs.Refusal.{refused_if, or_else, first_of, first, unless_refused, answer_by}
use Rattle.text.specs.Decimal.{spelt, decimal}
use Rattle.text.specs.Line.{spaced, week_line, refusal_line}
use Rattle.draft.specs.Record.{Draft, empty_draft, with_batch, with_batches, week_of, of_week}
use Rattle.draft.specs.List.{batch_line, batch_lines, list_lines}
use Rattle.draft.specs.Sheet.{hex_digit, hex_byte, hex_value, week_frame, recipes_part, batch_frame, unkept, sheet_fault}
use Rattle.draft.specs.Sheet.{batch_frames, sheet_frames, sheet_lines}

abbrev recipe : ℕ → ℕ → Recipe
recipe cost worth = record { cost = cost; worth = worth }

-- a batch with any number of recipes: ‘the count as written, the first ten kept’
abbrev batch : (number arrival due : ℕ) → List Recipe → Batch
batch number arrival due recipes =
    record {
      number = number;
      arrival = arrival;
      due = due;
      count = length recipes;
      recipes = padded max_recipes no_recipe (take max_recipes recipes);
    }

-- a list is printed as a text
infixl 20 ◌prints◌
abbrev ◌prints◌ : Draft → String → Example
d prints text = flatten (list_lines d) is bytes text

-- a list is written as a sheet
infixl 20 ◌frames◌
abbrev ◌frames◌ : Draft → String → Example
d frames text = flatten (sheet_lines d) is bytes text

abbrev one : Batch → Draft
one b = with_batches (empty_draft 0 9) (b ∷ [])

-- a list of n batches that are numbered from 1
numbered : ℕ → Draft
numbered n = with_batches (empty_draft 0 9) (tabulate (λ i. batch (suc i) 0 9 []) 0 n)

-- of a list the count, how many places it has, the number in the last of them, and how many lines are printed
abbrev holds : Draft → List ℕ
holds d = d.count ∷ length d.batches ∷ (get_or d.batches 63 no_batch).number ∷ length (list_lines d) ∷ []

-- of the week that it hands in the minutes, the count, how many places it has, and the numbers in the first and the last of them
abbrev hands : Week → List ℕ
hands w = w.opening ∷ w.closing ∷ w.count ∷ length w.batches ∷ (batch_at w 0).number ∷ (batch_at w 15).number ∷ []

case_w : Draft
case_w =
    with_batches (empty_draft 0 100)
    (batch 7 0 40 (recipe 30 9 ∷ recipe 10 4 ∷ [])
    ∷ batch 8 20 60 (recipe 30 8 ∷ recipe 0 0 ∷ [])
    ∷ batch 9 0 100 (recipe 50 10 ∷ recipe 20 5 ∷ [])
    ∷ [])

table : List Example
table =
    -- case W; a new list
    (case_w
    prints "week 0 100\nbatch 7 0 40 30 9 10 4\nbatch 8 20 60 30 8 0 0\nbatch 9 0 100 50 10 20 5\n")
    ∷ (empty_draft 65535 0 prints "week 65535 0\n")
    -- no recipe; ten; eleven, and twelve, of which the eleventh is not kept
    ∷ (one (batch 1 2 3 []) prints "week 0 9\nbatch 1 2 3\n")
    ∷ (one (batch 1 2 3 (replicate 10 (recipe 5 6)))
    prints "week 0 9\nbatch 1 2 3 5 6 5 6 5 6 5 6 5 6 5 6 5 6 5 6 5 6 5 6\n")
    ∷ (one (batch 1 2 3 (replicate 11 (recipe 5 6)))
    prints "week 0 9\nbatch 1 2 3 5 6 5 6 5 6 5 6 5 6 5 6 5 6 5 6 5 6 5 6 0 0\n")
    ∷ (one (batch 1 2 3 (replicate 12 (recipe 5 6)))
    prints "week 0 9\nbatch 1 2 3 5 6 5 6 5 6 5 6 5 6 5 6 5 6 5 6 5 6 5 6 0 0\n")
    -- the last place is taken; the batch after it is counted and not kept; the next is not counted
    ∷ (holds (numbered 63) is (63 ∷ 64 ∷ 0 ∷ 64 ∷ []))
    ∷ (holds (numbered 64) is (64 ∷ 64 ∷ 64 ∷ 65 ∷ []))
    ∷ (holds (numbered 65) is (65 ∷ 64 ∷ 64 ∷ 65 ∷ []))
    ∷ (holds (numbered 66) is (65 ∷ 64 ∷ 64 ∷ 65 ∷ []))
    -- ‘the first 16 of them and the count’
    ∷ (hands (week_of (numbered 2)) is (0 ∷ 9 ∷ 2 ∷ 16 ∷ 1 ∷ 0 ∷ []))
    ∷ (hands (week_of (numbered 17)) is (0 ∷ 9 ∷ 17 ∷ 16 ∷ 1 ∷ 16 ∷ []))
    -- ‘the book's list as `list` prints one’: of case W, and of seventeen batches, whose last a list by value has not got
    ∷ (of_week (week_of case_w)
    prints "week 0 100\nbatch 7 0 40 30 9 10 4\nbatch 8 20 60 30 8 0 0\nbatch 9 0 100 50 10 20 5\n")
    ∷ (holds (of_week (week_of (numbered 17))) is (17 ∷ 64 ∷ 0 ∷ 18 ∷ []))
    ∷ (hands (week_of (of_week (week_of (numbered 17)))) is (0 ∷ 9 ∷ 17 ∷ 16 ∷ 1 ∷ 16 ∷ []))
    -- case W as its sheet; a new list; no recipe, and ten
    ∷ (case_w
    frames
    "0100000064\n0200070000002802001E0009000A0004\n0200080014003C02001E000800000000\n02000900000064020032000A00140005\n")
    ∷ (empty_draft 65535 0 frames "01FFFF0000\n")
    ∷ (one (batch 1 2 3 []) frames "0100000009\n0200010002000300\n")
    ∷ (one (batch 1 2 3 (replicate 10 (recipe 5 6)))
    frames
    "0100000009\n020001000200030A00050006000500060005000600050006000500060005000600050006000500060005000600050006\n")
    -- sixteen batches, and seventeen: ‘the list's own refusal 3’; a second batch of eleven recipes: 4, which 3 comes before
    ∷ ((length (sheet_lines (numbered 16)) ∷ []) is (17 ∷ []))
    ∷ (numbered 17 frames "refused 3 0 0\n")
    ∷ (with_batches (empty_draft 0 9) (batch 1 2 3 [] ∷ batch 1 2 3 (replicate 11 (recipe 5 6)) ∷ []) frames "refused 4 2 0\n")
    ∷ (with_batches (empty_draft 0 9) (replicate 17 (batch 1 2 3 (replicate 11 (recipe 5 6)))) frames "refused 3 0 0\n")
    ∷ []

examples : agree table ≡ true
unfolding
    table same agree flatten case_w numbered with_batch with_batches week_of of_week spelt decimal spaced week_line batch_line batch_lines list_lines
    refused_if or_else first_of first unless_refused answer_by refusal_line
    hex_digit hex_byte hex_value week_frame recipes_part batch_frame unkept sheet_fault batch_frames sheet_frames sheet_lines
examples = refl
