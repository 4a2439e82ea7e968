use native.Mathlib.Omega.{arith}
use native.Mathlib.Numerals.{add-one}
use lib.Seq.{get_or-take}
use Rattle.arrays.proofs.Stores.{padding_start, padding_step, padding_end}
use Rattle.edf.specs.Run.{idle}
use Rattle.edf.specs.Workload.{no_task, outcome_at}
use Rattle.week.specs.Record.{max_batches}
use Rattle.planner.specs.Run.{set_aside, log_answer}
use Rattle.planner.proofs.run.read_log.Goals as goal

pub loop-i-init : goal.loop-i-init
loop-i-init c =
    padding_start _ max_batches set_aside _ c.requires.most

pub loop-i-preserved : goal.loop-i-preserved
unfolding outcome_at
loop-i-preserved c =
    let same = get_or-take c.args.work.count c.args.work.tasks c.loop-i.i no_task (omega arith) in
    padding_step c.loop-i.invariant (omega arith) (rw (c.outcome_of.ensures, same, add-one))

pub returns : goal.returns
unfolding log_answer outcome_at idle
returns c =
    rw (
      c.changes.ensures,
      c.entries.ensures,
      padding_end c.loop-i.invariant (omega arith),
    )
