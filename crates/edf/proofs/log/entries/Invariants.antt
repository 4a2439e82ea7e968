-- `entries` meets its contract. The loop's invariant: the entries so far, and those of what is left.
use Prim.Native.Nat.{◌+◌, ◌≤◌}
use mathlib.Core.Path.{◌≡◌}
use lib.ListN.{drop}
use Rattle.edf.specs.Run.{entries}
use Rattle.edf.proofs.log.entries.Given as goal

abbrev pub invariant-loop-entry : goal.invariant-loop-entry
invariant-loop-entry l =
    record {
      whole : l.count + entries l.position (drop l.entry-index l.log) ≡ entries l.position l.log;
      few : l.count ≤ l.entry-index;
    }
