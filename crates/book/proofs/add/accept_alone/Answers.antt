-- `accept_alone` answers what a batch is refused for by itself: what a list of it is refused for, without the place.
use mathlib.Core.Path.{◌∙◌}
use Rattle.week.specs.Order.{insert_in, among, ordered}
use Rattle.book.proofs.Faults.{formed_opens, out_of_place, alone_passed}
use Rattle.book.proofs.add.accept_alone.Goals as goal

pub returns-in-Err : goal.returns-in-Err
unfolding insert_in among ordered
returns-in-Err c =
    let list = c.args.list in
    rw c.in_place.ensures
    (out_of_place list.opening list.closing c.args.batch (formed_opens list c.requires) c.in-Err.fault
    (c.in-Err.ensures.refusal ∙ rw (c.with_batch-alone.ensures, c.empty.ensures)))

pub returns : goal.returns
unfolding insert_in among ordered
returns c =
    let list = c.args.list in
    alone_passed list.opening list.closing c.args.batch (formed_opens list c.requires)
    (c.in_default.ensures.refusal ∙ rw (c.with_batch-alone.ensures, c.empty.ensures))
