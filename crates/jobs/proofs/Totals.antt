-- The total of a choice against what each of its worths is at most.
use Prim.Native.Nat.{ℕ, zero, suc, ◌*◌, ◌≤◌, ◌<◌}
use native.Mathlib.Omega.{arith}
use mathlib.Core.List.{List}
use lib.ListN.{get_or}
use Rattle.arrays.specs.Position.{backward}
use Rattle.jobs.specs.declared.model.Job.{Job}
use Rattle.jobs.specs.Model.{no_job, version_of}
use Rattle.jobs.specs.Choice.{total}

-- worths of at most m each sum to at most m for each job
pub total_bound : (jobs : List Job) (choice : List ℕ) (m n : ℕ) →
    ((i : ℕ) → i < n → (version_of (get_or jobs i no_job) (get_or choice i 0)).worth ≤ m) →
    total (backward no_job jobs n) (backward 0 choice n) ≤ n * m
total_bound jobs choice m zero each = omega arith
total_bound jobs choice m (suc n) each =
    omega (arith, each n (omega arith), total_bound jobs choice m n (λ i l. each i (omega arith)))
