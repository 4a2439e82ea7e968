use borrow.Author.Rules.{rules}
use native.Mathlib.Omega.{arith}
use mathlib.Core.Path.{sym, ◌∙◌}
use Rattle.std.specs.Prelude.{Some, None}
use Rattle.edf.specs.Workload.{work_log}
use Rattle.edf.proofs.Tasks.{found_pending, spent_one, spent_none}
use Rattle.edf.proofs.RunLoop.{running_start, running_step, running_end}
use Rattle.edf.proofs.run.run.Goals as goal
use Rattle.edf.proofs.run.run.Goals.{in-Some, in-None}

pub loop-m-init : goal.loop-m-init
loop-m-init c = running_start _ _ _ _ c.requires.most (search rules)

pub overflow_sub-tasks : goal.overflow_sub-tasks
overflow_sub-tasks c =
    let found = sym c.in-Some.is ∙ c.first_pending.ensures in
    omega (arith, found_pending c.loop-m.tasks _ _ c.loop-m.invariant.room c.in-Some.i found)

pub loop-m-preserved : goal.loop-m-preserved
loop-m-preserved c =
    let h = c.loop-m.invariant in
    elim c.match-first_pending.branch [
      | in-Some w ↦
          let found = sym w.in-Some.is ∙ c.first_pending.ensures in
          let inside = (found_pending c.loop-m.tasks _ _ h.room w.in-Some.i found).0 in
          rw (w.entry-is, w.tasks-is)
          (running_step h (Some w.in-Some.i) found c.loop-m-test.true
          (spent_one c.loop-m.tasks w.in-Some.i (omega (arith, inside, h.room))))
      | in-None w ↦
          let found = sym w.in-None.is ∙ c.first_pending.ensures in
          rw (w.entry-is, w.tasks-is) (running_step h None found c.loop-m-test.true (spent_none c.loop-m.tasks))
    ]

pub returns : goal.returns
unfolding work_log
returns c = running_end c.loop-m.invariant c.loop-m-test.false
