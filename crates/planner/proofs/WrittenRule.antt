-- The backward rule asks of a week's jobs what it asks of the desk's records, and gives them the same stretches.
use Prim.Native.Nat.{ℕ, zero, suc, ◌+◌, ◌-◌, ◌≤◌, ◌<◌}
use native.Mathlib.Decide.{ℕ_discrete}
use native.Mathlib.Omega.{arith}
use mathlib.Core.Path.{◌≡◌, refl, ap, ap₂, ◌∙◌}
use mathlib.Core.Logic.Iff
use mathlib.Core.Logic.{◌↔◌}
use mathlib.Core.Bool.{Bool, true, false, cond, not, false≢true}
use mathlib.Core.List.{List}
use lib.Dec.{eqb}
use borrow.Author.Tests.{leb-true, le-leb, eqb-true}
use Rattle.std.specs.Prelude.{Some, None}
use Rattle.arrays.specs.Position.{at_position, backward}
use Rattle.arrays.proofs.Places.{length_backward}
use Rattle.arrays.proofs.Tests.{zero_fails}
use Rattle.jobs.specs.declared.model.Version.{Version}
use Rattle.jobs.specs.declared.model.Job.{Job}
use Rattle.jobs.specs.declared.rule.Stretch.{Stretch}
use Rattle.jobs.specs.Model.{no_job, version_at}
use Rattle.jobs.specs.Rule.{end_of, stretch_of, fits, next_bound, meets, failing, stretches}
use Rattle.jobs.specs.Stretches.{no_stretch, stretches_of, stretch_at}
use Rattle.jobs.proofs.Rules.{meets_failing}
use Rattle.jobs.proofs.Pass.{placed_stretches}
use Rattle.week.specs.Record.{Week, batch_of, ready_of}
use Rattle.week.specs.Ordered.{ordered_week}
use Rattle.judge.proofs.Sound.{Sound, Named}
use Rattle.planner.specs.Job.{job_from, job_list_of, week_jobs, week_choice}
use Rattle.planner.specs.Written.{chosen_minutes, chosen_worth, stretch_under, bound_after, written_stretch, FitsAt, MeetsAsWritten}
use Rattle.planner.proofs.AsWritten.{job_written, version_written}

-- the stretch of a recipe of m minutes, and what the rule asks of it, as it is written: of one that is set aside, nothing
module _ (j : Job) (m worth x : ℕ) where
  abbrev version_if : Bool → Version
  version_if aside = record { minutes = cond aside None (Some m); worth = worth }

  abbrev stretch_if : Bool → Stretch
  stretch_if aside = cond (not aside) (record { start = end_of j x - m; end = end_of j x }) (record { start = x; end = x })

  stretch_either : (q : Bool) → stretch_of j (version_if q) x ≡ stretch_if q
  unfolding stretch_of
  stretch_either true = refl
  stretch_either false = refl

  asks_either : (q : Bool) → eqb m 0 ≡ q → (fits j (version_if q) x ≡ true) ↔ (1 ≤ m → j.ready + m ≤ (stretch_if q).end)
  unfolding fits
  asks_either true aside = (λ h some. absurd (omega (arith, eqb-true m 0 aside)), λ h. refl)
  asks_either false read = (λ h some. leb-true _ _ h, λ h. le-leb _ _ (h ((zero_fails m).0 read)))

module _ (w : Week) (sound : Sound (ordered_week w)) {choice : List ℕ} (named : Named (ordered_week w) choice) where
  -- the job and the version at position i
  abbrev job_at : ℕ → Job
  job_at i = at_position no_job (job_list_of w).jobs i

  abbrev chosen_at : ℕ → Version
  chosen_at i = version_at (job_list_of w) choice i

  -- one position under a bound: its stretch, and what the rule asks of it
  module _ (x i : ℕ) (low : 1 ≤ i) (high : i ≤ w.count) where
    stretch_under_lem : stretch_of (job_at i) (chosen_at i) x ≡ stretch_under w choice x i
    unfolding stretch_under
    stretch_under_lem =
        ap₂ (λ (j : Job) (v : Version). stretch_of j v x) (job_written w sound i low high) (version_written w sound named i low high)
        ∙ stretch_either (job_from w.opening (batch_of (ordered_week w) i)) (chosen_minutes w choice i) (chosen_worth w choice i) x _

    asks_under :
        (fits (job_at i) (chosen_at i) x ≡ true)
        ↔ (1 ≤ chosen_minutes w choice i →
        ready_of w.opening (batch_of (ordered_week w) i) + chosen_minutes w choice i ≤ (stretch_under w choice x i).end)
    unfolding stretch_under
    asks_under =
        rw (version_written w sound named i low high, job_written w sound i low high)
        (asks_either (job_from w.opening (batch_of (ordered_week w) i)) (chosen_minutes w choice i) (chosen_worth w choice i) x _ refl)

  -- the bound under which position n + 1 stands leaves the one of position n
  bound_next : (n : ℕ) → suc n ≤ w.count →
      next_bound (job_at (suc n)) (chosen_at (suc n)) (bound_after w choice (w.count - suc n)) ≡ bound_after w choice (w.count - n)
  unfolding next_bound bound_after
  bound_next n within =
      let bound = bound_after w choice (w.count - suc n) in
      let here : suc n ≡ w.count - (w.count - suc n) = omega arith in
      let next : suc (w.count - suc n) ≡ w.count - n = omega arith in
      ap (λ (s : Stretch). s.start) (stretch_under_lem bound (suc n) (omega arith) within)
      ∙ ap (λ (i : ℕ). (stretch_under w choice bound i).start) here
      ∙ ap (bound_after w choice) next

  -- batches 1 to n under their bound: the failing position of these is f
  pub record FailingOf (n f : ℕ) : Type 0 where
    pub passes : f ≡ 0 → (i : ℕ) → 1 ≤ i → i ≤ n → FitsAt w choice i
    pub fails : 1 ≤ f → (f ≤ n) × (FitsAt w choice f → ⊥) × ((h : ℕ) → f < h → h ≤ n → FitsAt w choice h)

  -- one more batch, that fits or not
  failing_next : (n f : ℕ) (q : Bool) → (q ≡ true) ↔ FitsAt w choice (suc n) → FailingOf n f → FailingOf (suc n) (cond q f (suc n))
  failing_next n f true here before =
      record {
        passes = λ none i low high. at i low high (before.passes none i low);
        fails = λ some.
            let (within, fails, later) = before.fails some in
            (omega (arith, within), fails, λ h after high. at h (omega arith) high (later h after));
      }
    where
      at : (i : ℕ) → 1 ≤ i → i ≤ suc n → (i ≤ n → FitsAt w choice i) → FitsAt w choice i
      at i low high before = elim (ℕ_discrete i (suc n)) [ yes e ↦ rw e (here.0 refl) | no other ↦ before (omega arith) ]
  failing_next n f false here before =
      record {
        passes = λ none. absurd (omega (arith, none));
        fails = λ some. (omega arith, λ fits. false≢true (here.1 fits), λ h after high. absurd (omega arith));
      }

  failing_to : (n : ℕ) → n ≤ w.count →
      FailingOf n (failing (backward no_job (job_list_of w).jobs n) (bound_after w choice (w.count - n)) (backward 0 choice n))
  failing_to zero within = record { passes = λ none i low high. absurd (omega arith); fails = λ some. absurd (omega arith) }
  failing_to (suc n) within =
      rw (bound_next n within, length_backward no_job (job_list_of w).jobs n)
      (failing_next n _ _ (asks_under (bound_after w choice (w.count - suc n)) (suc n) (omega arith) within) (failing_to n (omega arith)))

  -- an array that holds their stretches
  stretches_to : (array : List Stretch) (n : ℕ) → n ≤ w.count →
      backward no_stretch array n
      ≡ stretches (backward no_job (job_list_of w).jobs n) (bound_after w choice (w.count - n)) (backward 0 choice n) →
      (i : ℕ) → 1 ≤ i → i ≤ n → at_position no_stretch array i ≡ written_stretch w choice i
  stretches_to array zero within same i low high = absurd (omega arith)
  stretches_to array (suc n) within same i low high =
      let here = stretch_under_lem (bound_after w choice (w.count - suc n)) (suc n) (omega arith) within in
      elim (ℕ_discrete i (suc n)) [
        | yes e ↦ rw e (cc)
        | no other ↦ stretches_to array n (omega arith) (cc (bound_next n within)) i low (omega arith)
      ]

  -- the bound of the last batch is the close
  close_first : bound_after w choice (w.count - w.count) ≡ w.closing
  unfolding bound_after
  close_first = let none : w.count - w.count ≡ 0 = omega arith in rw none

  -- the failing position of a choice is the first met going backward, over the desk's own numbers; it is 0 where none is
  pub failing_written : FailingOf w.count (failing (week_jobs w) w.closing (week_choice w choice))
  failing_written = rw close_first at (failing_to w.count (omega arith))

  pub rule_written : (meets (week_jobs w) w.closing (week_choice w choice) ≡ true) ↔ MeetsAsWritten w choice
  rule_written =
      Iff.trans (meets_failing (week_jobs w) w.closing (week_choice w choice)) (
        failing_written.passes,
        λ met.
            elim (ℕ_discrete (failing (week_jobs w) w.closing (week_choice w choice)) 0) [
              | yes z ↦ z
              | no n ↦
                  let (within, fails, _) = failing_written.fails (omega arith) in
                  absurd (fails (met _ (omega arith) within))
            ],
      )

  pub stretch_written : (i : ℕ) → 1 ≤ i → i ≤ w.count → stretch_at (job_list_of w) choice w.closing i ≡ written_stretch w choice i
  stretch_written =
      stretches_to (stretches_of (week_jobs w) w.closing (week_choice w choice)) w.count (omega arith)
      (rw close_first (placed_stretches (job_list_of w).jobs choice w.closing w.count))

-- the stretch of a batch that is read ends by its due minute
pub written_by_due : (w : Week) (choice : List ℕ) (i : ℕ) → 1 ≤ chosen_minutes w choice i →
    (written_stretch w choice i).end ≤ (batch_of (ordered_week w) i).due
unfolding stretch_under
written_by_due w choice i some = rw ((zero_fails (chosen_minutes w choice i)).1 some) (omega arith)
