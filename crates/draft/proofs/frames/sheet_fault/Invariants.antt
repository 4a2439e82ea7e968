-- `sheet_fault` answers 3 or 4. The invariant: the batches from i on decide.
use Prim.Native.Nat.{◌-◌}
use mathlib.Core.Path.{◌≡◌}
use Rattle.week.specs.Refusal.{first}
use Rattle.draft.specs.Sheet.{unkept, sheet_fault}
use Rattle.draft.proofs.frames.sheet_fault.Given as goal

abbrev pub invariant-loop-i : goal.invariant-loop-i
invariant-loop-i l = first (unkept l.fn.draft) l.i (l.fn.draft.count - l.i) ≡ sheet_fault l.fn.draft
