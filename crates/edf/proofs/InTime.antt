-- Where a choice meets the rule, the run reads each job to its end before its stretch ends.
use Prim.Native.Nat.{ℕ, ◌+◌, ◌≤◌}
use native.Mathlib.Omega.{arith}
use mathlib.Core.Path.{◌≡◌}
use mathlib.Core.List.{List}
use Rattle.jobs.specs.declared.model.JobList.{JobList}
use Rattle.jobs.specs.Model.{jobs_of, chosen}
use Rattle.jobs.specs.Stretches.{stretches_of, stretch_at}
use Rattle.jobs.proofs.Pass.{placed_stretches}
use Rattle.edf.specs.Run.{log_of, minutes_before}
use Rattle.edf.specs.Workload.{ready_at, minutes_at, choice_log}
use Rattle.edf.proofs.RunTheorem.{run_theorem}
use Rattle.edf.proofs.StretchEnds.{Feasible, Ends, stretch_ends}

module _
    {list : JobList} {choice : List ℕ} {minutes : ℕ → ℕ} {t x : ℕ}
    (plan : Feasible list choice minutes t list.count x)
  where
    pub stretch_in : (i : ℕ) → 1 ≤ i → i ≤ list.count → Ends (ready_at list) minutes t x i (stretch_at list choice x i).end
    stretch_in =
        stretch_ends (stretches_of (jobs_of list) x (chosen list choice)) list.count plan
        (placed_stretches list.jobs choice x list.count)

    pub in_time : (w : ℕ) → x ≤ t + w → (i : ℕ) → 1 ≤ i → i ≤ list.count →
        minutes_before (stretch_at list choice x i).end t (log_of list.count (ready_at list) minutes t w) i ≡ minutes i
    in_time w close i low high =
        let end = stretch_in i low high in
        run_theorem list.count (ready_at list) minutes t i (stretch_at list choice x i).end high
        (λ j l h. plan.ready j l (omega arith)) (λ m after. end.room m) w end.from (omega (arith, end.to)) i low (omega arith)

pub choice_in_time : {list : JobList} {choice : List ℕ} {t x : ℕ} → Feasible list choice (minutes_at list choice) t list.count x →
    (w : ℕ) → x ≤ t + w → (i : ℕ) → 1 ≤ i → i ≤ list.count →
    minutes_before (stretch_at list choice x i).end t (choice_log list choice t w) i ≡ minutes_at list choice i
unfolding choice_log
choice_in_time plan = in_time plan
