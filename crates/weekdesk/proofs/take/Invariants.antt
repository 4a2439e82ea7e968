-- `take` ends: each turn gets further in the piece.
use Rattle.std.proofs.Common.{length, ◌-◌}
use Rattle.weekdesk.proofs.take.Given as goal

abbrev pub decreases-loop-from : goal.decreases-loop-from
decreases-loop-from g l = length l.piece - l.from
