-- `put_in_order` leaves the batches of the list in order.
use mathlib.Core.Path.{sym, ap, ◌∙◌}
use lib.ListN.{length}
use Rattle.week.specs.Record.{Week}
use Rattle.week.specs.Order.{ordered}
use Rattle.week.specs.Written.{batches_of}
use Rattle.week.proofs.Ordered.{ordered_batches}
use Rattle.records.proofs.list.put_in_order.Goals as goal

pub returns : goal.returns
returns c =
    let week = c.args.week in
    let (lent, long) = c.requires in
    c.copy_from_slice.ensures.after
    ∙ c.listed.ensures
    ∙ ap (λ (w : Week). batches_of w) c.in_order.ensures
    ∙ ordered_batches week (sym (ap length lent) ∙ long)
    ∙ ap (ordered week.opening) (sym lent)
