use native.Mathlib.Omega.{arith}
use Prim.Native.Nat.{◌≤◌, max}
use mathlib.Core.Path.{ap, ◌∙◌}
use lib.ListN.{length-take}
use Rattle.select.proofs.Rows.{Ready, row_start, row_small, level_small}
use Rattle.select.proofs.RowStep.{listed, version_listed, row_step}
use Rattle.select.proofs.RowEnd.{row_end}
use Rattle.select.proofs.row.fill_row.Goals as goal

pub loop-i-init : goal.loop-i-init
loop-i-init c =
    let pre = c.requires in
    let job : Ready _ _ _ _ c.args.scores.now =
    record {
      few = pre.job.0;
      ready = pre.job.1;
      packable = pre.job.2;
      due = c.due_entry-due.ensures;
      starts = pre.scored.1;
      low = pre.scored.2;
    } in
    (job, row_start job (rw pre.sizes.0 at c.fill.ensures.after (λ y e. e)))

pub offer-requires-clause-version : goal.offer-requires-clause-version
offer-requires-clause-version c =
    version_listed c.loop-i.invariant.0 c.loop-i.invariant.1 c.loop-i-test.true c.first_offer-first.ensures

pub offer-requires-clause-low : goal.offer-requires-clause-low
offer-requires-clause-low c = (c.loop-i.invariant.0.low, row_small c.loop-i.invariant.0 c.loop-i.invariant.1)

pub due_offer-requires-clause-version : goal.due_offer-requires-clause-version
due_offer-requires-clause-version c =
    version_listed c.loop-i.invariant.0 c.loop-i.invariant.1 c.loop-i-test.true c.first_offer-first.ensures

pub loop-i-preserved : goal.loop-i-preserved
loop-i-preserved c =
    let job = c.loop-i.invariant.0 in
    let row = c.loop-i.invariant.1 in
    let is = listed c.args.j c.loop-i.i c.loop-i-test.true in
    let level = c.max-level.ensures ∙ ap (max c.loop-i.level) c.due_offer.ensures in (
      job,
      row_step job row is.0 is.1 c.first_offer-first.ensures c.offer.ensures level c.min-next.ensures,
    )

pub raise-requires : goal.raise-requires
raise-requires c =
    let job = c.loop-i.invariant.0 in
    let row = c.loop-i.invariant.1 in
    (omega (arith, job.due, row.size), omega (arith, level_small job row), row_small job row)

pub returns : goal.returns
returns c =
    let all : c.args.j.count ≤ c.loop-i.i = omega (arith, length-take c.args.j.count c.args.j.versions) in
    row_end c.loop-i.invariant.0 c.loop-i.invariant.1 all c.raise.ensures c.settle.ensures.scores_after c.settle.ensures.picks_after
