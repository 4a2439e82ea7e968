-- `with_batch` writes one more, and all of them in order.
use native.Mathlib.Omega.{arith}
use mathlib.Core.Path.{refl}
use mathlib.Core.List.{[], ◌∷◌, ◌++◌}
use lib.ListN.{length-append}
use Rattle.week.specs.Written.{batches_of}
use Rattle.week.proofs.Owned.{batches_owned}
use Rattle.week.proofs.Writing.{batches_counted, batches_more, ordered_written}
use Rattle.week.proofs.written.with_batch.Goals as goal

pub returns : goal.returns
returns c =
    let week = c.args.week in
    let long = batches_owned week _ c.well_formed.0 in
    ordered_written (batches_of week ++ (c.args.batch ∷ [])) _ c.in_order.ensures refl refl
    (omega (arith, length-append (batches_of week) (c.args.batch ∷ []), batches_counted week long (omega arith)))
    (batches_more week c.args.batch long c.requires)
