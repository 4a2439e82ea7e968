-- `changes` meets its contract. The loop's invariant: the changes so far, and those of what is left after the last entry.
use Prim.Native.Nat.{◌+◌, ◌≤◌}
use mathlib.Core.Path.{◌≡◌}
use lib.ListN.{drop}
use Rattle.edf.specs.Run.{changes_after, changes}
use Rattle.edf.proofs.log.changes.Given as goal

abbrev pub invariant-loop-entry : goal.invariant-loop-entry
invariant-loop-entry l =
    record {
      whole : l.changed + changes_after l.before (drop l.entry-index l.log) ≡ changes l.log;
      few : l.changed ≤ l.entry-index;
    }
