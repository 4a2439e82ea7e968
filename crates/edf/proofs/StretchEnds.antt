-- The ends of stretches: where a choice meets the rule, what jobs 1 to i need from any minute on fits before the end of stretch i.
use Prim.Native.Nat.{ℕ, zero, suc, ◌+◌, ◌-◌, ◌≤◌}
use native.Mathlib.Decide.{ℕ_discrete, dec_le}
use native.Mathlib.Omega.{arith}
use mathlib.Core.Path.{◌≡◌, refl}
use mathlib.Core.Bool.{true, cond, and-eq-true_iff}
use mathlib.Core.List.{List}
use lib.ListN.{get_or}
use lib.Dec.{leb}
use borrow.Author.Tests.{le-leb, lt-leb}
use Rattle.std.specs.Prelude.{Option, Some, None}
use Rattle.arrays.specs.Position.{at_position, backward}
use Rattle.arrays.specs.Sum.{sum_to}
use Rattle.jobs.specs.declared.model.Version.{Version}
use Rattle.jobs.specs.declared.model.Job.{Job}
use Rattle.jobs.specs.declared.model.JobList.{JobList}
use Rattle.jobs.specs.declared.rule.Stretch.{Stretch}
use Rattle.jobs.specs.Model.{no_job, version_at, minutes_of}
use Rattle.jobs.specs.Rule.{stretch_of, fits, next_bound, meets, stretches}
use Rattle.jobs.specs.Stretches.{no_stretch}
use Rattle.jobs.proofs.Rules.{fits_read, bound_read, bound_in, end_read, end_in}
use Rattle.edf.specs.Needed.{demand_from}
use Rattle.edf.specs.Workload.{ready_at, minutes_at}

-- one job's stretch under a bound has room, after any minute, for what a job that is ready then or later needs
module _ (j : Job) (v : Version) (x : ℕ) where
  end_room : fits j v x ≡ true → (m l : ℕ) → l ≤ minutes_of v →
      next_bound j v x - m + cond (leb m j.ready) l 0 ≤ (stretch_of j v x).end - m
  end_room fit m l few =
      elim (dec_le m j.ready) [
        | yes later ↦ rw (le-leb m j.ready later) (by_minutes later v.minutes refl)
        | no earlier ↦ rw (lt-leb m j.ready (omega arith)) (omega (arith, end_in j v x))
      ]
    where
      by_minutes : m ≤ j.ready → (o : Option ℕ) → v.minutes ≡ o → next_bound j v x - m + l ≤ (stretch_of j v x).end - m
      by_minutes later (Some n) r = omega (arith, end_read j v x r, bound_read j v x r, fits_read j v x fit r, rw r at few)
      by_minutes later None r = omega (arith, end_in j v x, rw r at few)

-- jobs 1 to n of a list under the bound x: they are ready at t or later, their choice meets the rule, and none needs more minutes
-- than the choice gives it
pub record Feasible (list : JobList) (choice : List ℕ) (minutes : ℕ → ℕ) (t n x : ℕ) : Type 0 where
  pub from : t ≤ x
  pub ready : (i : ℕ) → 1 ≤ i → i ≤ n → t ≤ ready_at list i
  pub meeting : meets (backward no_job list.jobs n) x (backward 0 choice n) ≡ true
  pub few : (i : ℕ) → 1 ≤ i → i ≤ n → minutes i ≤ minutes_at list choice i

-- minute e, the end of stretch i: it lies from t to x, and what jobs 1 to i need from any minute on fits before it
pub record Ends (ready minutes : ℕ → ℕ) (t x i e : ℕ) : Type 0 where
  pub from : t ≤ e
  pub to : e ≤ x
  pub room : (m : ℕ) → demand_from ready minutes m i ≤ e - m

module _ {list : JobList} {choice : List ℕ} {minutes : ℕ → ℕ} {t : ℕ} where
  -- the last job under the bound x: its stretch, and the bound that it leaves
  module _ (n : ℕ) {x : ℕ} (plan : Feasible list choice minutes t (suc n) x) where
    abbrev job : Job
    job = at_position no_job list.jobs (suc n)

    abbrev version : Version
    version = version_at list choice (suc n)

    abbrev stretch : Stretch
    stretch = stretch_of job version x

    abbrev bound : ℕ
    bound = next_bound job version x

    met : (fits job version x ≡ true) × (meets (backward no_job list.jobs n) bound (backward 0 choice n) ≡ true)
    met = (and-eq-true_iff _ _).0 plan.meeting

    bounds : (t ≤ bound) × (bound ≤ x)
    bounds = bound_in job version x t (plan.ready (suc n) (omega arith) (omega arith)) plan.from met.0

    rest : Feasible list choice minutes t n bound
    rest =
        record {
          from = bounds.0;
          ready = λ i low high. plan.ready i low (omega arith);
          meeting = met.1;
          few = λ i low high. plan.few i low (omega arith);
        }

    last_ends : ((m : ℕ) → demand_from (ready_at list) minutes m n ≤ bound - m) →
        Ends (ready_at list) minutes t x (suc n) stretch.end
    unfolding demand_from sum_to
    last_ends before =
        record {
          from = omega (arith, bounds, end_in job version x);
          to = (end_in job version x).1;
          room = λ m.
              omega (
                arith,
                before m,
                end_room job version x met.0 m (minutes (suc n)) (plan.few (suc n) (omega arith) (omega arith)),
              );
        }

  -- what jobs 1 to n need fits before their bound
  demand_fits : (n : ℕ) {x : ℕ} → Feasible list choice minutes t n x → (m : ℕ) → demand_from (ready_at list) minutes m n ≤ x - m
  unfolding demand_from sum_to
  demand_fits zero plan m = omega arith
  demand_fits (suc n) plan m =
      let last = last_ends n plan (demand_fits n (rest n plan)) in
      omega (arith, last.room m)

  -- of an array that holds their stretches, each entry ends so
  pub stretch_ends : (array : List Stretch) (n : ℕ) {x : ℕ} → Feasible list choice minutes t n x →
      backward no_stretch array n ≡ stretches (backward no_job list.jobs n) x (backward 0 choice n) →
      (i : ℕ) → 1 ≤ i → i ≤ n → Ends (ready_at list) minutes t x i (at_position no_stretch array i).end
  stretch_ends array zero plan same i low high = absurd (omega arith)
  stretch_ends array (suc n) {x} plan same i low high =
      elim (ℕ_discrete i (suc n)) [
        | yes e ↦
            let here : get_or array n no_stretch ≡ stretch n plan = cc in
            rw (e, here) (last_ends n plan (demand_fits n (rest n plan)))
        | no other ↦
            let before = stretch_ends array n (rest n plan) (cc) i low (omega arith) in
            record { from = before.from; to = omega (arith, bounds n plan); room = before.room }
      ]
