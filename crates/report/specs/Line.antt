-- The lines of a report: document 01, "The sheet".
use Rattle.std.specs.Prelude.{ℕ, ◌+◌, ◌*◌, List, [], ◌∷◌, map}
use Rattle.arrays.specs.Text.{bytes}
use Rattle.week.specs.Record.{max_batches}
use Rattle.text.specs.Decimal.{decimal}
use Rattle.text.specs.Line.{line_of, counts, week_width}
use Rattle.report.specs.declared.line.BatchLine.{BatchLine}

-- "total 22 changes 4 idle 10"
unfoldable pub total_line : (total changes idle : ℕ) → List ℕ
total_line total changes idle = line_of (bytes "total") (decimal total ∷ counts changes idle)

-- "7 2 10 10 20 10": "A batch line is number, recipe, cost as it counts in the rule, start and end of stretch, finish"
unfoldable pub batch_line : BatchLine → List ℕ
batch_line b = line_of (decimal b.number) (map decimal (b.recipe ∷ b.cost ∷ b.start ∷ b.end ∷ b.finish ∷ []))

-- the widest line of each kind, its line feed counted: `total 4294967295 changes 65535 idle 65535`; six numbers of five digits
abbrev pub total_width : ℕ
total_width = 42

abbrev pub batch_width : ℕ
batch_width = 36

-- the longest text
abbrev pub max_text : ℕ
max_text = week_width + total_width + max_batches * batch_width
