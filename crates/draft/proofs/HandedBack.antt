-- A list by value, as a list that is written down, hands itself in again: what `book` prints and `hold` takes is one list.
use native.Mathlib.Omega.{arith}
use mathlib.Core.Path.{◌≡◌}
use lib.ListN.{length}
use lib.Seq.{take_all, take-append-le}
use Rattle.week.specs.Record.{Week, max_batches}
use Rattle.draft.specs.Record.{week_of, of_week}

pub handed_back : (w : Week) → length w.batches ≡ max_batches → week_of (of_week w) ≡ w
unfolding week_of of_week
handed_back w size =
    rw (take-append-le max_batches w.batches _ (omega arith), take_all max_batches w.batches (omega arith))
