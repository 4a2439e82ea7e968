use Rattle.std.proofs.Common.{rules, ◌<◌, length, drop-cons}
use Rattle.text.proofs.Spacing.{field_room}
use Rattle.text.proofs.put.Text.put_numbers.Goals as goal

pub put_number-requires : goal.put_number-requires
put_number-requires g c =
    let ns = c.args.numbers.now in
    let more : c.loop-n.n-index < length ns = search rules in
    let left = rw (drop-cons ns c.loop-n.n-index c.n-item.result more, ← c.n-item.is) at c.loop-n.invariant in
    (search rules, field_room _ _ _ _ _ left c.requires)
