-- `plan_text`: after the week and the total the loop puts one line more a turn.
use Prim.Native.Nat.{◌+◌, ◌*◌, ◌≤◌}
use mathlib.Core.Path.{◌≡◌}
use mathlib.Core.List.{◌++◌, flatten}
use lib.ListN.{length}
use Rattle.std.specs.Prelude.{Ok}
use Rattle.planner.specs.Check.{checked_answer}
use Rattle.planner.specs.Choose.{chosen_answer}
use Rattle.planner.specs.Run.{ran_answer}
use Rattle.text.specs.Line.{week_width}
use Rattle.report.specs.Line.{total_width, batch_width}
use Rattle.report.specs.Report.{batch_lines}
use Rattle.report.proofs.plan.plan_text.Given as goal

abbrev pub invariant-loop-i : goal.invariant-loop-i
invariant-loop-i l =
    let made = batch_lines l.fn.week (chosen_answer (Ok l.fn.plan)) (checked_answer (Ok l.fn.checked)) (ran_answer (Ok l.fn.ran)) l.i in
    record {
      put : l.text ≡ l.initial.text ++ flatten made;
      width : length l.text ≤ week_width + total_width + l.i * batch_width;
    }
