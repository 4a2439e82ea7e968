-- `each_line`: what is put and what the batches left will add are what was there and all batches add; and there is room for those left.
use Rattle.std.proofs.Common.{◌≡◌, ◌+◌, ◌*◌, ◌≤◌, ◌++◌, drop, length}
use Rattle.answer.proofs.Each.{each}
use Rattle.answer.proofs.fields.each_line.Given as goal

abbrev pub invariant-loop-batch : goal.invariant-loop-batch
invariant-loop-batch g l =
    let fields = g.F.Fields.fields in
    let width = g.F.Fields.width in
    let left = drop l.batch-index l.batches in
    (l.text ++ each fields left ≡ l.initial.text ++ each fields l.batches)
    × (length l.text + length left * width ≤ length l.initial.text + length l.batches * width)
