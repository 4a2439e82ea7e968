-- `fresh` writes the same batches.
use Prim.Native.Nat.{◌≤◌}
use native.Mathlib.Omega.{arith}
use lib.ListN.{length}
use Rattle.arrays.proofs.Places.{drop-replicate}
use Rattle.week.specs.Record.{max_batches, empty_batch}
use Rattle.week.specs.Written.{batches_of}
use Rattle.week.proofs.Owned.{batches_owned}
use Rattle.week.proofs.Writing.{placed_counted}
use Rattle.week.proofs.written.fresh.Goals as goal

pub returns : goal.returns
returns c =
    let week = c.args.week in
    let few : length (batches_of week) ≤ max_batches = omega (arith, placed_counted week (batches_owned week _ c.well_formed.0)) in
    rw (c.copy_from_slice.ensures.after, c.empty-batches.ensures, c.listed-listed.ensures, drop-replicate _ max_batches empty_batch few)
