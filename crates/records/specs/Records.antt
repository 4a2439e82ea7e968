-- The list that lent records are, and the records after a call: document 02, Two.
use Rattle.std.specs.Prelude.{ℕ, List, length, take}
use Rattle.arrays.specs.Made.{padded}
use Rattle.week.specs.declared.record.Batch.{Batch}
use Rattle.week.specs.Record.{Week, max_batches, empty_batch}
use Rattle.week.specs.Order.{ordered}
use Rattle.week.specs.Refusal.{unless_refused}
use Rattle.planner.specs.Choose.{choose_fault}

-- "The desk's system lends its list as records, in the order the parcels came.": as many batches as there are records, of which a list has
-- a place for the first sixteen
abbrev pub lent_week : (opening closing : ℕ) → List Batch → Week
lent_week t c rs =
    record { opening = t; closing = c; count = length rs; batches = padded max_batches empty_batch (take max_batches rs) }

-- "Choosing from them puts them in order where they are"; "After any refusal, 14 too, they keep their old places.": with a table of a size
unfoldable pub records_after : (opening closing : ℕ) → List Batch → ℕ → List Batch
records_after t c rs size = unless_refused (choose_fault (lent_week t c rs) size) (ordered t rs) rs
