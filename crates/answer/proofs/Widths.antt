-- How many bytes the parts of an answer have at most.
use Rattle.std.proofs.Common.{ℕ, ◌+◌, ◌^◌, ◌≤◌, ◌<◌, List, [], ◌∷◌, length, arith}
use Rattle.std.proofs.lemmas.Grind.{common_steps}
use Rattle.text.specs.Decimal.{decimal}
use Rattle.text.specs.Line.{spaced, rest_of}
use Rattle.text.proofs.Decimals.{decimal_five}
use Rattle.text.proofs.Spacing.{numbers_short, rest_short}
use Rattle.answer.specs.Line.{recipe_width, stretch_width, total_width}

-- of a batch: a recipe, and a stretch
pub recipe_short : (recipe : ℕ) → recipe < 2 ^ 8 → length (spaced (decimal recipe ∷ [])) ≤ recipe_width
recipe_short recipe fits = numbers_short 2 (recipe ∷ []) (omega arith, tt)

pub stretch_short : (start end : ℕ) → start < 2 ^ 16 → end < 2 ^ 16 →
    length (spaced (decimal start ∷ decimal end ∷ [])) ≤ stretch_width
stretch_short start end s e = numbers_short 4 (start ∷ end ∷ []) (omega arith, (omega arith, tt))

-- a first line: a word of at most six bytes and a total, with the line feed
pub total_short : (word : List ℕ) (total : ℕ) → length word ≤ 6 → total < 2 ^ 32 →
    length word + length (rest_of (decimal total ∷ [])) ≤ total_width
total_short word total w t = omega (arith, w, rest_short 9 (total ∷ []) (omega arith, tt))

-- and the number of a line that is no command, with the line feed
pub line_short : (line : ℕ) → line < 2 ^ 64 → length (rest_of (decimal line ∷ [])) ≤ 22
line_short line fits = rest_short 19 (line ∷ []) (omega arith, tt)

-- all of these, beside the usual steps
pub ruleset short = (common_steps, decimal_five, recipe_short, stretch_short, total_short, line_short)
