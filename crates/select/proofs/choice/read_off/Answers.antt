use native.Mathlib.Omega.{arith}
use Rattle.arrays.proofs.Back.{back_start, back_step}
use Rattle.jobs.specs.Model.{no_job}
use Rattle.select.proofs.Traceback.{trace_start, trace_none, trace_named, trace_fits, trace_step, trace_end}
use Rattle.select.proofs.choice.read_off.Goals as goal

pub loop-at-init : goal.loop-at-init
loop-at-init c =
    let list = c.args.list in
    let iter = c.into_iter-at-iterator.ensures.into_iter_gives in
    let start =
    back_start list.jobs list.count _ (omega (arith, c.requires.fillable.most))
    (cc (iter, c.enumerate.ensures.count, c.rev-at-items.ensures.source))
    (cc (iter, c.enumerate.ensures.source, c.rev-at-items.ensures.source, c.iter.ensures.rest))
    in
    (start.0, rw start.1 (trace_start c.requires))

pub returns-then-k-eq0 : goal.returns-then-k-eq0
returns-then-k-eq0 c =
    let turn = back_step no_job c.args.list.jobs c.next.new.self c.in-Some.j c.loop-at.invariant.0 c.in-Some.ensures.steps in
    trace_none c.loop-at.invariant.1 c.in-Some.at turn.before c.from-m.ensures c.if-k-eq0.true

pub version-requires : goal.version-requires
version-requires c =
    let turn = back_step no_job c.args.list.jobs c.next.new.self c.in-Some.j c.loop-at.invariant.0 c.in-Some.ensures.steps in
    trace_named c.loop-at.invariant.1 c.in-Some.at turn.before c.from-m.ensures c.if-k-eq0.false

pub stretch-s-requires : goal.stretch-s-requires
stretch-s-requires c =
    let turn = back_step no_job c.args.list.jobs c.next.new.self c.in-Some.j c.loop-at.invariant.0 c.in-Some.ensures.steps in
    rw turn.entry
    (trace_fits c.loop-at.invariant.1 c.in-Some.at turn.before c.from-m.ensures c.if-k-eq0.false (rw turn.entry at c.version.ensures))

pub loop-at-preserved : goal.loop-at-preserved
loop-at-preserved c =
    let turn = back_step no_job c.args.list.jobs c.next.new.self c.in-Some.j c.loop-at.invariant.0 c.in-Some.ensures.steps in (
      turn.back,
      rw turn.after
          (trace_step c.loop-at.invariant.1 c.in-Some.at turn.before c.from-m.ensures c.if-k-eq0.false
          (rw turn.entry at c.version.ensures)
          (rw turn.entry at c.stretch-s.ensures)),
    )

pub returns : goal.returns
returns c = trace_end c.loop-at.invariant.1 c.in-None.ensures.steps.1.0
