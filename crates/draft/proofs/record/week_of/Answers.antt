-- `week_of`: of 64 batches the first 16, and none is left to fill up.
use Rattle.std.proofs.Common.{arith, ◌≡◌, length, length-take, take, append-nil}
use Rattle.week.specs.Record.{max_batches}
use Rattle.draft.specs.Record.{week_of}
use Rattle.draft.proofs.record.week_of.Goals as goal

pub returns : goal.returns
unfolding week_of
returns c =
    let bs = c.args.draft.batches in
    let all : length (take max_batches bs) ≡ max_batches = omega (arith, length-take max_batches bs) in
    rw (c.with_places.ensures, all, append-nil)
