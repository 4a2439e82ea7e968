-- `lines_fault` answers the first of 16 and 17, line by line. The invariant: the lines ahead, from i on, decide.
use Prim.Native.Nat.{◌-◌}
use mathlib.Core.Path.{◌≡◌}
use lib.ListN.{length}
use Rattle.week.specs.Refusal.{first}
use Rattle.sheet.specs.Line.{lines_of}
use Rattle.sheet.specs.Fault.{line_fault, lines_fault}
use Rattle.sheet.proofs.Reached.{Reached}
use Rattle.sheet.proofs.fault.lines_fault.Given as goal

abbrev pub invariant-loop-i : goal.invariant-loop-i
invariant-loop-i l =
    let lines = lines_of l.sheet in
    let i = l.i-iterator.count in
    Reached lines (lines_of l.i-iterator.iter.rest.now) i × (first (line_fault lines) i (length lines - i) ≡ lines_fault lines)
