-- The batches of a list, and a list freshly written from batches.
use Rattle.std.specs.Prelude.{ℕ, List, length, take}
use Rattle.arrays.specs.Made.{padded}
use Rattle.week.specs.declared.record.Batch.{Batch}
use Rattle.week.specs.declared.record.Listing.{Listing}
use Rattle.week.specs.Record.{Week, max_batches, empty_batch}

-- the first n of the array
abbrev pub batches_of : {n : ℕ} → Listing n → List Batch
batches_of w = take w.count w.batches

-- the same list with places for m batches: those that these have room for, and empty ones beyond
abbrev pub with_places : {n : ℕ} → (m : ℕ) → Listing n → Listing m
with_places m w =
    record {
      opening = w.opening;
      closing = w.closing;
      count = w.count;
      batches = padded m empty_batch (take m w.batches);
    }

-- 02: "a freshly written list of the batches": these and no others, as they stand, and empty batches beyond them
abbrev pub written : (opening closing : ℕ) → List Batch → Week
written t c bs = record { opening = t; closing = c; count = length bs; batches = padded max_batches empty_batch bs }
