use native.Mathlib.Omega.{arith}
use Prim.Native.Nat.{◌<◌}
use mathlib.Core.Path.{sym, ◌∙◌}
use Rattle.arrays.proofs.Back.{back_start, back_step}
use Rattle.jobs.specs.Model.{no_job}
use Rattle.jobs.proofs.Pass.{pass_start, pass_step, pass_fails, pass_end}
use Rattle.jobs.proofs.rule.stretch_all.Goals as goal

pub loop-i-init : goal.loop-i-init
loop-i-init c =
    let list = c.args.list in
    let iter = c.into_iter-i-iterator.ensures.into_iter_gives in
    let start =
    back_start list.jobs list.count _ (omega (arith, c.requires.most)) (cc (iter, c.enumerate.ensures.count, c.rev-i-items.ensures.source))
    (cc (iter, c.enumerate.ensures.source, c.rev-i-items.ensures.source, c.iter.ensures.rest))
    in
    (start.0, rw start.1 (pass_start _ _ _ _ c.requires.most))

pub version-version-requires : goal.version-version-requires
version-version-requires c =
    let turn = back_step no_job c.args.list.jobs c.next.new.self c.in-Some.job c.loop-i.invariant.0 c.in-Some.ensures.steps in
    let low : c.in-Some.i < c.args.list.count = omega (arith, c.loop-i.invariant.1.low, turn.before) in
    let each = c.requires.each c.in-Some.i low in
    (each.0, omega (arith, each.1, c.requires.few c.in-Some.i low))

pub returns-then-not-fits : goal.returns-then-not-fits
returns-then-not-fits c =
    let turn = back_step no_job c.args.list.jobs c.next.new.self c.in-Some.job c.loop-i.invariant.0 c.in-Some.ensures.steps in
    pass_fails c.loop-i.invariant.1 c.in-Some.i turn.before (rw turn.entry at c.version-version.ensures)
    (rw turn.entry at (sym c.fits.ensures ∙ c.if-not-fits.true))

pub bounds-stretches-i : goal.bounds-stretches-i
bounds-stretches-i c =
    let turn = back_step no_job c.args.list.jobs c.next.new.self c.in-Some.job c.loop-i.invariant.0 c.in-Some.ensures.steps in
    omega (arith, c.loop-i.invariant.1.low, turn.before, c.requires.most)

pub loop-i-preserved : goal.loop-i-preserved
loop-i-preserved c =
    let turn = back_step no_job c.args.list.jobs c.next.new.self c.in-Some.job c.loop-i.invariant.0 c.in-Some.ensures.steps in (
      turn.back,
      rw turn.after
          (pass_step c.loop-i.invariant.1 c.in-Some.i turn.before (rw turn.entry at c.version-version.ensures) c.requires.most
          (rw turn.entry at (sym c.fits.ensures ∙ c.if-not-fits.false))
          (rw turn.entry at c.stretch-stretch.ensures)),
    )

pub returns : goal.returns
returns c = pass_end c.loop-i.invariant.1 c.in-None.ensures.steps.1.0
