use Rattle.std.proofs.Common.{rules, ◌≤◌, length, refl, arith}
use borrow.Author.Tests.{tests}
use Rattle.std.proofs.lemmas.List.{length_push, take_all}
use Rattle.std.proofs.lemmas.Iterator.Consumers.{YieldsList-turn, YieldsList-end, YieldsList-from_enumerate, YieldsList-at}
use Rattle.std.proofs.lemmas.Iterator.Consumers.{count_from_yields_List}
use Rattle.std.proofs.lemmas.List.FromFn.{length-enumerate_from}
use Rattle.week.specs.Record.{max_batches}
use Rattle.week.specs.Numbers.{without}
use Rattle.week.specs.Written.{batches_of}
use Rattle.week.proofs.Owned.{batches_owned}
use Rattle.week.proofs.Writing.{placed_counted, is_written}
use Rattle.week.proofs.Without.{without-length}
use Rattle.week.proofs.LeftOut.{left_yielded, stored_next}
use Rattle.week.proofs.written.leave_out.Goals as goal

pub loop-place-preserved : goal.loop-place-preserved
loop-place-preserved c =
    let number = c.args.number in
    let bs = batches_of c.args.week in
    let few : length (without number bs) ≤ max_batches =
    omega (arith, without-length number bs, placed_counted c.args.week (batches_owned c.args.week _ c.well_formed.0)) in
    let turn =
    YieldsList-turn
    (YieldsList-at c.into_iter-place-iterator.ensures.into_iter_gives
    (YieldsList-from_enumerate
    (YieldsList-at c.enumerate-place-items.ensures.source
    (left_yielded number _ bs (search rules) c.filter.ensures.closure (λ x b q k. search (rules, tests))))
    c.enumerate-place-items.ensures.count))
    c.loop-place.yielded _ c.loop-place.yielded_by _ _ (c.in-Some.place, c.in-Some.batch) c.in-Some.is c.next.ensures.steps in
    rw (c.loop-place.invariant, length_push c.loop-place.yielded (c.in-Some.place, c.in-Some.batch))
    (stored_next (without number bs) few turn)

pub returns : goal.returns
returns c =
    let number = c.args.number in
    let bs = batches_of c.args.week in
    let end =
    YieldsList-end
    (YieldsList-at c.into_iter-place-iterator.ensures.into_iter_gives
    (YieldsList-from_enumerate
    (YieldsList-at c.enumerate-place-items.ensures.source
    (left_yielded number _ bs (search rules) c.filter.ensures.closure (λ x b q k. search (rules, tests))))
    c.enumerate-place-items.ensures.count))
    c.loop-place.yielded _ c.loop-place.yielded_by _ _ c.in-None.is c.next.ensures.steps in
    let count =
    count_from_yields_List _ c.count.result c.count.ensures.ran
    (left_yielded number _ bs (search rules) c.filter-2.ensures.closure (λ x b q k. search (rules, tests))) in
    let all : length (without number bs) ≤ length c.loop-place.yielded = omega (arith, end.1, length-enumerate_from 0 (without number bs)) in
    is_written (without number bs) refl refl count
    (rw (c.loop-place.invariant, take_all (length c.loop-place.yielded) (without number bs) all))
