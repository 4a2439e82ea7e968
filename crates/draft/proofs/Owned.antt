-- What owning a list that is written down tells: how long its array is.
use mathlib.Core.Path.{◌≡◌}
use mathlib.Core.List.{List}
use lib.ListN.{length}
use mir.Val.{Val}
use denote.Laws.{Is}
use denote.Param.{number}
use Rattle.week.specs.contracts.record.Listing as L
use Rattle.draft.specs.Record.{Draft, max_kept}

pub kept_owned : (d : Draft) (vs : List Val) → Is (L.the_row (number max_kept)) d vs → length d.batches ≡ max_kept
kept_owned d vs h = h.1.1.1.1.1.0.1.0.1
