-- `read_sheet` meets its contract: what has come fits, and each turn leaves less room.
use Rattle.std.proofs.Common.{length, ◌-◌, ◌≤◌}
use Rattle.weekplan.proofs.input.read_sheet.Given as goal

abbrev pub invariant-loop-len : goal.invariant-loop-len
invariant-loop-len g l = l.len ≤ length l.sheet

abbrev pub decreases-loop-len : goal.decreases-loop-len
decreases-loop-len g l = length l.sheet - l.len
