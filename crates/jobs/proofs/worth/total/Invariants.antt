-- `total` meets its contract. The loop's invariant: so far the sum is the total of as many jobs, and small enough for one more.
use Prim.Native.Nat.{◌*◌, ◌≤◌}
use mathlib.Core.Path.{◌≡◌}
use lib.ListN.{length}
use Rattle.arrays.specs.Bits.{max32}
use Rattle.arrays.specs.Position.{backward}
use Rattle.jobs.specs.Model.{no_job}
use Rattle.jobs.specs.Choice.{total}
use Rattle.jobs.proofs.worth.total.Given as goal

abbrev pub invariant-loop-job : goal.invariant-loop-job
invariant-loop-job l =
    let n = length l.yielded in
    record {
      exact : l.sum ≡ total (backward no_job l.fn.list.jobs n) (backward 0 l.choice n);
      small : l.sum ≤ n * max32;
    }
