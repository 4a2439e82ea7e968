-- The list of a sheet holds 0 beyond its batches, and beyond each batch's recipes, and so does it in order.
use Prim.Native.Nat.{ℕ, zero, suc, ◌-◌, ◌<◌, min}
use native.Mathlib.Omega.{arith}
use mathlib.Core.Path.{◌≡◌, refl}
use mathlib.Core.List.{List}
use lib.ListN.{length, length-take}
use Rattle.arrays.specs.Made.{tabulate, padded}
use Rattle.arrays.proofs.Tabulates.{length_tabulate, padded_each}
use Rattle.arrays.proofs.Places.{replicate_at, position_beyond}
use Rattle.week.specs.declared.record.Batch.{Batch}
use Rattle.week.specs.Record.{Week, max_batches, max_recipes, no_recipe, empty_batch, no_batch, empty_week, batch_of, recipe_of}
use Rattle.week.specs.Order.{ordered}
use Rattle.week.specs.Written.{batches_of}
use Rattle.week.specs.Ordered.{ordered_week}
use Rattle.week.proofs.Ordering.{ordered-length}
use Rattle.week.proofs.OrderedEach.{ordered_each}
use Rattle.sheet.specs.Hex.{byte_at, word_at}
use Rattle.sheet.specs.Line.{lines_of, line_at}
use Rattle.sheet.specs.List.{recipe_from, batch_from, week_from, sheet_week}
use Rattle.sheet.specs.Read.{ZeroBeyond}

-- of a batch
abbrev Zeroed : Batch → Type 0
Zeroed b = (k : ℕ) → b.count < k → recipe_of b k ≡ no_recipe

none_zeroed : Zeroed no_batch
none_zeroed zero past = refl
none_zeroed (suc k) past = refl

empty_zeroed : Zeroed empty_batch
empty_zeroed zero past = refl
empty_zeroed (suc k) past = replicate_at max_recipes no_recipe k

batch_zeroed : (line : List ℕ) → Zeroed (batch_from line)
unfolding batch_from
batch_zeroed line k past =
    let size = length_tabulate (recipe_from line) 0 (min (byte_at line 7) max_recipes) in
    position_beyond max_recipes no_recipe (tabulate (recipe_from line) 0 (min (byte_at line 7) max_recipes)) k (omega (arith, size))

-- of a list whose batches are such: n of them, the first sixteen stored
module _ (t c n : ℕ) (f : ℕ → Batch) (each : (i : ℕ) → Zeroed (f i)) where
  abbrev stored : Week
  stored =
      record {
        opening = t;
        closing = c;
        count = n;
        batches = padded max_batches empty_batch (tabulate f 0 (min n max_batches));
      }

  recipes_beyond : (i : ℕ) → Zeroed (batch_of stored i)
  recipes_beyond zero = none_zeroed
  recipes_beyond (suc i) =
      padded_each Zeroed empty_batch no_batch empty_zeroed none_zeroed f each max_batches (min n max_batches) i

  stored_beyond : ZeroBeyond stored
  stored_beyond =
      record {
        batches = λ i past.
            position_beyond max_batches empty_batch (tabulate f 0 (min n max_batches)) i
            (omega (arith, length_tabulate f 0 (min n max_batches)));
        recipes = recipes_beyond;
      }

pub empty_beyond : ZeroBeyond (empty_week 0 0)
empty_beyond = stored_beyond 0 0 0 (λ i. empty_batch) (λ i. empty_zeroed)

pub sheet_beyond : (sheet : List ℕ) → ZeroBeyond (sheet_week sheet)
unfolding week_from
sheet_beyond sheet =
    let lines = lines_of sheet in
    stored_beyond (word_at (line_at lines 0) 1) (word_at (line_at lines 0) 3) (length lines - 1) (λ i. batch_from (line_at lines (suc i)))
    (λ i. batch_zeroed (line_at lines (suc i)))

-- of a list put in order
module _ (w : Week) (h : ZeroBeyond w) where
  ordered_zeroed : (i : ℕ) → Zeroed (batch_of (ordered_week w) i)
  ordered_zeroed zero = none_zeroed
  ordered_zeroed (suc i) = ordered_each Zeroed empty_zeroed none_zeroed w (λ i l. h.recipes (suc i)) i

  pub ordered_beyond : ZeroBeyond (ordered_week w)
  ordered_beyond =
      record {
        batches = λ i past.
            position_beyond max_batches empty_batch (ordered w.opening (batches_of w)) i
            (omega (arith, ordered-length w.opening (batches_of w), length-take w.count w.batches));
        recipes = ordered_zeroed;
      }
