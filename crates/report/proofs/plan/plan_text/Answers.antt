use Rattle.std.proofs.Common.{arith, ◌<◌, ◌≡◌, suc, length, ap, sym, append_assoc}
use mathlib.Core.List.{append-nil, flatten}
use lib.ListN.{length-take}
use lib.Seq.{get_or-take}
use Rattle.std.specs.Prelude.{Ok}
use Rattle.week.specs.Record.{no_batch}
use Rattle.week.proofs.Owned.{batches_owned}
use Rattle.planner.specs.Check.{checked_answer}
use Rattle.planner.specs.Choose.{chosen_answer}
use Rattle.planner.specs.Run.{ran_answer}
use Rattle.report.specs.Report.{batch_answer, batch_lines}
use Rattle.report.proofs.BatchLines.{lines_more}
use Rattle.report.proofs.plan.plan_text.Goals as goal

pub total_line-requires : goal.total_line-requires
total_line-requires c = omega (arith, c.week_line.ensures.width, ap length c.new-text.ensures)

pub loop-i-init : goal.loop-i-init
unfolding flatten batch_lines
loop-i-init c = record {
  put = sym (append-nil _);
  width = omega (arith, c.total_line.ensures.width, c.week_line.ensures.width, ap length c.new-text.ensures);
}

pub line_of-line-requires : goal.line_of-line-requires
line_of-line-requires c =
    c.requires.forward (suc c.loop-i.i) (omega arith)
    (omega (arith, ap length c.listed-batch-items.ensures, length-take c.args.week.count c.args.week.batches))

pub batch_line-requires : goal.batch_line-requires
batch_line-requires c =
    omega (arith, ap length c.listed-batch-items.ensures, length-take c.args.week.count c.args.week.batches)

pub loop-i-preserved : goal.loop-i-preserved
unfolding batch_answer
loop-i-preserved c =
    let args = c.args in
    let i = c.loop-i.i in
    let more : i < args.week.count =
    omega (arith, ap length c.listed-batch-items.ensures, length-take args.week.count args.week.batches) in
    record {
      put =
          rw (
            c.batch_line.ensures.line,
            c.line_of-line.ensures,
            c.listed-batch-items.ensures,
            get_or-take args.week.count args.week.batches i no_batch more,
            c.loop-i.invariant.put,
            lines_more args.week (chosen_answer (Ok args.plan)) (checked_answer (Ok args.checked)) (ran_answer (Ok args.ran)) i,
          )
          (simp append_assoc);
      width = omega (arith, c.batch_line.ensures.width);
    }

pub returns : goal.returns
unfolding flatten
returns c =
    let week = c.args.week in
    let all : c.loop-i.i ≡ week.count =
    omega (arith, ap length c.listed-batch-items.ensures, length-take week.count week.batches, batches_owned week _ c.well_formed.0) in
    rw (all, c.total_line.ensures.line, c.week_line.ensures.line, c.new-text.ensures, append_assoc) at c.loop-i.invariant.put
