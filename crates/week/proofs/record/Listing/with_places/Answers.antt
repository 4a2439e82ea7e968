-- `with_places` writes the batches that there is room for, and empty ones beyond.
use Rattle.std.proofs.Common.{arith, ◌-◌, ◌≡◌, length, length-take, take}
use Rattle.std.proofs.lemmas.List.{take_min}
use Rattle.arrays.proofs.Places.{drop-replicate}
use Rattle.week.specs.Record.{empty_batch}
use Rattle.week.proofs.record.Listing.with_places.Goals as goal

pub returns : goal.returns
returns g c =
    let m = g.row.M in
    let n = c.min-kept.result in
    let bs = c.args.self.now.batches in
    let long : length bs ≡ g.row.N = omega arith in
    let kept : take n bs ≡ take m bs = rw (c.min-kept.ensures, ← long) (take_min m bs) in
    let left : m - n ≡ m - length (take m bs) = omega (arith, length-take m bs) in
    rw (c.copy_from_slice.ensures.after, c.empty-batches.ensures, kept, drop-replicate n m empty_batch (omega arith), left)
