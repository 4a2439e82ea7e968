-- `leave_out` leaves out the batches of a number. The invariant: of the others, those that the walk has come to are stored.
use Rattle.std.proofs.Common.{◌≡◌, length, take}
use Rattle.arrays.specs.Made.{padded}
use Rattle.week.specs.Record.{max_batches, empty_batch}
use Rattle.week.specs.Numbers.{without}
use Rattle.week.specs.Written.{batches_of}
use Rattle.week.proofs.written.leave_out.Given as goal

abbrev pub invariant-loop-place : goal.invariant-loop-place
invariant-loop-place l = l.batches ≡ padded max_batches empty_batch (take (length l.yielded) (without l.fn.number (batches_of l.fn.week)))
