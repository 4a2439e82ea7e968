-- `batches_fault` answers the first of 4 to 9, batch by batch. The invariants: the walk has come to the batch of index i;
-- that batch passes 4 to 6, and its recipes from k on decide 7.
use Prim.Native.Nat.{◌≤◌, ◌-◌}
use mathlib.Core.Path.{◌≡◌}
use Rattle.week.specs.Record.{max_recipes}
use Rattle.week.specs.Refusal.{first}
use Rattle.judge.specs.BatchFault.{cost_fault, costs_fault}
use Rattle.judge.proofs.Walk.{Walk}
use Rattle.judge.proofs.fault.batches_fault.Given as goal

abbrev pub invariant-loop-k : goal.invariant-loop-k
invariant-loop-k l =
    (1 ≤ l.k) × (l.k ≤ l.b.count) × (l.b.count ≤ max_recipes) × (first (cost_fault l.b) l.k (l.b.count - l.k) ≡ costs_fault l.b)

abbrev pub invariant-loop-i : goal.invariant-loop-i
invariant-loop-i l = Walk l.fn.week l.i
