-- The values of a sheet fit their bytes: a digit is below 16, a byte below 256, a value of two bytes is a number of 16 bits.
use Prim.Native.Nat.{ℕ, suc, ◌-◌, ◌+◌, ◌*◌, ◌<◌, ◌≤◌, min}
use native.Mathlib.Omega.{arith}
use mathlib.Core.List.{List}
use lib.ListN.{length, get_or}
use Rattle.arrays.proofs.Places.{replicate_at}
use Rattle.arrays.proofs.Tabulates.{padded_each}
use Rattle.arrays.specs.Bits.{max16}
use Rattle.week.specs.declared.record.Batch.{Batch}
use Rattle.week.specs.Record.{max_batches, max_recipes, no_recipe, empty_batch, no_batch, recipe_at}
use Rattle.week.proofs.Owned.{WorthsFit}
use Rattle.sheet.specs.Hex.{byte_at, word_at}
use Rattle.sheet.specs.Line.{lines_of, line_at}
use Rattle.sheet.specs.List.{recipe_from, batch_from, week_from, sheet_week}
use Rattle.sheet.proofs.Digits.{digit_small}

byte_small : (line : List ℕ) (k : ℕ) → byte_at line k < 256
unfolding byte_at
byte_small line k = omega (arith, digit_small (get_or line (2 * k) 0), digit_small (get_or line (2 * k + 1) 0))

word_small : (line : List ℕ) (k : ℕ) → word_at line k ≤ max16
unfolding word_at
word_small line k = omega (arith, byte_small line k, byte_small line (k + 1))

-- each worth of a batch ..
abbrev Small : Batch → Type 0
Small b = (k : ℕ) → (recipe_at b k).worth ≤ max16

empty_small : Small empty_batch
empty_small k = rw (replicate_at max_recipes no_recipe k) (omega arith)

batch_small : (line : List ℕ) → Small (batch_from line)
unfolding batch_from
batch_small line =
    padded_each (λ r. r.worth ≤ max16) no_recipe no_recipe (omega arith) (omega arith) (recipe_from line)
    (λ k. word_small line (10 + 4 * k)) max_recipes (min (byte_at line 7) max_recipes)

-- .. and so of the list
pub worths_small : (sheet : List ℕ) → WorthsFit (sheet_week sheet)
unfolding week_from
worths_small sheet i k place recipe =
    padded_each Small empty_batch no_batch empty_small (λ k. omega arith) (λ i. batch_from (line_at (lines_of sheet) (suc i)))
    (λ i. batch_small (line_at (lines_of sheet) (suc i))) max_batches (min (length (lines_of sheet) - 1) max_batches) i k
