-- The list that lines hold, each of them being a frame: document 01, "The sheet".
use Rattle.std.specs.Prelude.{ℕ, suc, ◌+◌, ◌*◌, ◌-◌, min, List, length}
use Rattle.arrays.specs.Made.{tabulate, padded}
use Rattle.week.specs.declared.record.Recipe.{Recipe}
use Rattle.week.specs.declared.record.Batch.{Batch}
use Rattle.week.specs.Record.{Week, max_batches, max_recipes, no_recipe, empty_batch}
use Rattle.sheet.specs.Hex.{byte_at, word_at}
use Rattle.sheet.specs.Line.{lines_of, line_at}

-- "then cost and worth for each": the recipe of index k
abbrev pub recipe_from : List ℕ → ℕ → Recipe
recipe_from line k = record { cost = word_at line (8 + 4 * k); worth = word_at line (10 + 4 * k) }

-- "Batch: 02, number, r, d, one byte with the count of recipes": the count as it is written, the first ten of the recipes
unfoldable pub batch_from : List ℕ → Batch
batch_from line =
    record {
      number = word_at line 1;
      arrival = word_at line 3;
      due = word_at line 5;
      count = byte_at line 7;
      recipes = padded max_recipes no_recipe (tabulate (recipe_from line) 0 (min (byte_at line 7) max_recipes));
    }

-- "Week: 01, t, c.", and a batch for each later line: as many as there are, the first sixteen of them
unfoldable pub week_from : List (List ℕ) → Week
week_from lines =
    record {
      opening = word_at (line_at lines 0) 1;
      closing = word_at (line_at lines 0) 3;
      count = length lines - 1;
      batches =
          padded max_batches empty_batch
          (tabulate (λ i. batch_from (line_at lines (suc i))) 0 (min (length lines - 1) max_batches));
    }

-- the list that a sheet holds
abbrev pub sheet_week : List ℕ → Week
sheet_week sheet = week_from (lines_of sheet)
