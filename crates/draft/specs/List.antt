-- A list as the commands that write it down: docs/WEEKDESK.md, ‘The operations’.
use Rattle.std.specs.Prelude.{ℕ, suc, ◌+◌, ◌*◌, min, get_or}
use mathlib.Core.List.{List, [], ◌∷◌, map, flatten}
use Rattle.arrays.specs.Text.{bytes}
use Rattle.arrays.specs.Made.{tabulate}
use Rattle.week.specs.declared.record.Batch.{Batch}
use Rattle.week.specs.Record.{max_recipes, no_batch, recipe_at}
use Rattle.text.specs.Decimal.{decimal}
use Rattle.text.specs.Line.{spaced, line_of, week_line, week_width}
use Rattle.draft.specs.Record.{Draft, max_kept}

-- one recipe more than are kept is printed, so that a count above the limit stays above it when the line is read again
abbrev pub max_printed : ℕ
max_printed = suc max_recipes

-- how many recipes are printed
abbrev pub printed : Batch → ℕ
printed b = min b.count max_printed

abbrev pub recipe_numbers : Batch → ℕ → List ℕ
recipe_numbers b k = (recipe_at b k).cost ∷ (recipe_at b k).worth ∷ []

-- the numbers of its first n recipes
abbrev pub recipes_numbers : Batch → ℕ → List ℕ
recipes_numbers b n = flatten (tabulate (recipe_numbers b) 0 n)

-- those that are printed, as text
abbrev pub recipes_text : Batch → List ℕ
recipes_text b = spaced (map decimal (recipes_numbers b (printed b)))

abbrev pub batch_numbers : Batch → List ℕ
batch_numbers b = b.number ∷ b.arrival ∷ b.due ∷ recipes_numbers b (printed b)

-- ‘batch NUMBER R D COST WORTH COST WORTH ..’
unfoldable pub batch_line : Batch → List ℕ
batch_line b = line_of (bytes "batch") (map decimal (batch_numbers b))

-- the widest recipe, two numbers of five digits, each after a space; the widest line of a batch, its line feed counted; the longest
-- text
abbrev pub recipe_width : ℕ
recipe_width = 12

abbrev pub batch_width : ℕ
batch_width = 5 + 3 * 6 + max_printed * recipe_width + 1

abbrev pub max_list : ℕ
max_list = week_width + max_kept * batch_width

-- ‘the list as the commands that write it down’: the week, and every batch that is kept
unfoldable pub batch_lines : Draft → ℕ → List (List ℕ)
batch_lines d n = tabulate (λ i. batch_line (get_or d.batches i no_batch)) 0 n

unfoldable pub list_lines : Draft → List (List ℕ)
list_lines d = week_line d.opening d.closing ∷ batch_lines d (min d.count max_kept)

-- the whole of it: the lines, one after the other
abbrev pub list_answer : Draft → List ℕ
list_answer d = flatten (list_lines d)
