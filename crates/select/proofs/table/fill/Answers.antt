use native.Mathlib.Omega.{arith}
use Prim.Native.Nat.{◌+◌, ◌-◌, ◌*◌}
use mathlib.Core.Path.{sym, ◌∙◌}
use lib.ListN.{drop}
use lib.Seq.{length-take-le}
use Rattle.jobs.specs.Model.{no_job}
use Rattle.select.proofs.Slices.{front_at}
use Rattle.select.proofs.Tables.{filling_start, filling_step, filling_low}
use Rattle.select.proofs.table.fill.Goals as goal

pub loop-i-init : goal.loop-i-init
loop-i-init c =
    let pre = c.requires in
    let wide = pre.fillable.wide in
    filling_start pre.fillable pre.packable (rw (length-take-le _ _ wide) at c.fill.ensures.after (λ y e. e)) wide _

pub fill_row-from-requires-clause-scored : goal.fill_row-from-requires-clause-scored
fill_row-from-requires-clause-scored c =
    let inv = c.loop-i.invariant in
    let here = front_at no_job c.args.list.count c.args.list.jobs c.loop-i.i c.loop-i-test.true in
    (rw (sym inv.after.size) at inv.fillable.wide, inv.after.starts, filling_low inv here.0)

pub loop-i-preserved : goal.loop-i-preserved
loop-i-preserved c =
    let inv = c.loop-i.invariant in
    let here = front_at no_job c.args.list.count c.args.list.jobs c.loop-i.i c.loop-i-test.true in
    let at = c.loop-i.i * c.args.width in
    filling_step inv here.0 (at + c.args.width - at) (omega arith)
    (rw (here.1, inv.after.size) at c.fill_row-from.ensures)
    _ (c.fill_row-from.auto.words ∙ length-take-le _ _ inv.room)
    _ (drop c.args.width c.loop-i.words)
