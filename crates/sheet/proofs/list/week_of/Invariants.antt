-- `week_of` answers the list of a sheet whose lines are in their places. The invariant: the lines that the walk has come to are
-- counted, and their batches are stored as far as there is place.
use Prim.Native.Nat.{min}
use mathlib.Core.Path.{◌≡◌}
use lib.ListN.{length}
use Rattle.week.specs.Record.{max_batches}
use Rattle.sheet.specs.Line.{lines_of}
use Rattle.sheet.proofs.Listed.{Stored}
use Rattle.sheet.proofs.list.week_of.Given as goal

abbrev pub invariant-loop-place : goal.invariant-loop-place
invariant-loop-place l = (l.count ≡ length l.yielded) × Stored (lines_of l.sheet) (min (length l.yielded) max_batches) l.batches
