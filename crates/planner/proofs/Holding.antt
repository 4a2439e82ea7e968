-- The refusal of Check, of Choose and of Run is the first of the order whose condition holds, and what it names.
use Prim.Native.Nat.{ℕ, ◌*◌, ◌≤◌}
use native.Mathlib.Decide.{ℕ_discrete, dec_le}
use native.Mathlib.Omega.{arith}
use mathlib.Core.Path.{◌≡◌, refl}
use mathlib.Core.Logic.{⊎_elim}
use mathlib.Core.Bool.{false≢true}
use mathlib.Core.List.{List, [], ◌∷◌}
use mathlib.Core.Option.{Option, none, some}
use Rattle.arrays.proofs.Tests.{lt_holds}
use Rattle.jobs.specs.Rule.{failing}
use Rattle.jobs.proofs.BestOfAll.{best_some, best_none}
use Rattle.week.specs.declared.refusal.Refusal.{Refusal}
use Rattle.week.specs.Record.{Week, span_of}
use Rattle.week.specs.Ordered.{ordered_week}
use Rattle.week.specs.Refusal.{refused, first_of, short_fault}
use Rattle.week.specs.RefusalOrder.{stage, FirstToHold, ◌when◌, some_of, least_place, greatest_place, Naming}
use Rattle.week.proofs.Holding.{no_later_self, nothing_holds, when_holds, if_holds, or_holds, one_holds, append_holds, when_place, stage_ahead}
use Rattle.week.proofs.Naming.{when_naming, naming_before, naming_after}
use Rattle.judge.specs.Fault.{list_fault, handed_faults}
use Rattle.judge.specs.Holds.{list_numbers}
use Rattle.judge.proofs.Holding.{list_holds, list_stages, handed_holds, handed_stages, list_naming, choice_naming}
use Rattle.judge.proofs.Sound.{Sound, sound, Named, choice_passes, handed_passes}
use Rattle.planner.specs.Job.{week_jobs, week_choice}
use Rattle.planner.specs.Written.{FirstFailing}
use Rattle.planner.specs.Check.{rule_fault, check_fault}
use Rattle.planner.specs.Choose.{width_of, table_fault, plan_fault, week_best, fill_faults, fill_fault, choose_fault, NoPlan}
use Rattle.planner.specs.Run.{log_fault, run_fault}
use Rattle.planner.specs.Holds.{CheckHolds, check_numbers, FillHolds, fill_numbers, ChooseHolds, choose_numbers, RunHolds, run_numbers}
use Rattle.planner.proofs.WrittenRule.{failing_written}
use Rattle.planner.proofs.Checking.{rule_met, rule_broken}

-- 15, of a list and a choice that pass
module _ (w : Week) (choice : List ℕ) where
  abbrev BrokenAt : ℕ → Refusal → Type 0
  BrokenAt i = refused 15 i 0 when FirstFailing w choice i

  abbrev failed : ℕ
  failed = failing (week_jobs w) w.closing (week_choice w choice)

  -- two positions that are the first to fail are one
  one_failing : (i j : ℕ) → i ≤ w.count → j ≤ w.count → FirstFailing w choice i → FirstFailing w choice j → i ≡ j
  one_failing i j high within here there =
      elim (ℕ_discrete i j) [
        | yes e ↦ e
        | no other ↦
            elim (dec_le i j) [
              | yes before ↦ absurd (there.0 (here.1 j (omega arith) within))
              | no after ↦ absurd (here.0 (there.1 i (omega arith) high))
            ]
      ]

  rule_holds : Sound (ordered_week w) → Named (ordered_week w) choice → FirstToHold (some_of w.count BrokenAt) (rule_fault w choice)
  rule_holds fine named =
      let said = failing_written w fine named in
      elim (ℕ_discrete failed 0) [
        | yes z ↦ rw (rule_met w choice z) (nothing_holds (λ s (i, low, high, h). h.1.0 (said.passes z i low high)))
        | no n ↦
            let (within, here, later) = said.fails (omega arith) in
            rw (rule_broken w choice n)
            record {
              holds = λ _. (failed, omega arith, within, (refl, (here, later)));
              first = λ _ s (i, low, high, h).
                  rw (h.0, one_failing failed i within high (here, later) h.1) (no_later_self (refused 15 i 0));
              nothing = λ z. absurd (omega (arith, z));
            }
      ]

  pub check_holds : FirstToHold (CheckHolds w choice) (check_fault w choice)
  unfolding check_fault stage
  check_holds =
      append_holds (handed_faults w choice) (rule_fault w choice ∷ []) (handed_holds w choice)
      (λ z.
      let passed = (handed_passes w choice).0 z in
      one_holds _ (rule_holds (sound w passed.0) ((choice_passes w choice).0 passed.1)))
      (stage_ahead (handed_stages w choice) (λ r (i, _, _, h). omega (arith, (when_place 15 i 0 r h).0)))

  pub check_naming : (r : Refusal) → CheckHolds w choice r → Naming check_numbers w.count 0 r
  unfolding least_place greatest_place
  check_naming r =
      ⊎_elim
      (⊎_elim (λ h. naming_after list_numbers (13 ∷ 15 ∷ []) (list_naming w 0 r h))
      (λ h. naming_before list_numbers (13 ∷ 15 ∷ []) (naming_after (13 ∷ []) (15 ∷ []) (choice_naming (ordered_week w) 0 choice r h))))
      (λ (i, low, high, h). when_naming check_numbers w.count 0 15 i 0 refl low high (λ _. refl) r h)

  -- 12
  module _ (size : ℕ) where
    pub run_holds : FirstToHold (RunHolds w choice size) (run_fault w choice size)
    unfolding run_fault log_fault short_fault stage
    run_holds =
        append_holds (handed_faults w choice) (log_fault w size ∷ []) (handed_holds w choice)
        (λ _. one_holds _ (if_holds 12 0 0 refl (lt_holds size (span_of w))))
        (stage_ahead (handed_stages w choice) (λ r h. omega (arith, (when_place 12 0 0 r h).0)))

    pub run_naming : (r : Refusal) → RunHolds w choice size r → Naming run_numbers w.count 0 r
    unfolding least_place greatest_place
    run_naming r =
        ⊎_elim
        (⊎_elim (λ h. naming_after list_numbers (13 ∷ 12 ∷ []) (list_naming w 0 r h))
        (λ h. naming_before list_numbers (13 ∷ 12 ∷ []) (naming_after (13 ∷ []) (12 ∷ []) (choice_naming (ordered_week w) 0 choice r h))))
        (when_naming run_numbers w.count 0 12 0 0 refl (omega arith) (omega arith) (λ _. refl) r)

-- 14
pub plan_holds : (w : Week) → FirstToHold (refused 14 0 0 when NoPlan w) (plan_fault (week_best w))
plan_holds w = by_best (week_best w) refl
  where
    by_best : (o : Option (List ℕ)) → week_best w ≡ o → FirstToHold (refused 14 0 0 when NoPlan w) (plan_fault o)
    by_best none e = when_holds 14 0 0 refl (best_none (week_jobs w) w.closing e)
    by_best (some ks) e =
        let chosen = best_some (week_jobs w) w.closing ks e in
        nothing_holds (λ s h. h.1 ks chosen.valid chosen.meeting)

module _ (w : Week) (size : ℕ) where
  -- 11
  fill_holds : FirstToHold (FillHolds w size) (fill_fault w size)
  unfolding fill_fault table_fault short_fault first_of stage
  fill_holds =
      or_holds (list_fault w) _ (list_holds w) (λ _. one_holds _ (if_holds 11 0 0 refl (lt_holds size (w.count * width_of w))))
      (stage_ahead (λ r h. (list_stages w r h).1) (λ r h. omega (arith, (when_place 11 0 0 r h).0)))

  fill_naming : (r : Refusal) → FillHolds w size r → Naming fill_numbers w.count 0 r
  unfolding least_place greatest_place
  fill_naming r =
      ⊎_elim (λ h. naming_after list_numbers (11 ∷ []) (list_naming w 0 r h))
      (when_naming fill_numbers w.count 0 11 0 0 refl (omega arith) (omega arith) (λ _. refl) r)

  -- what refuses the filling is not 14
  pub fill_other : ((fill_fault w size).number ≡ 0 → ⊥) → (fill_fault w size).number ≡ 14 → ⊥
  fill_other n fourteen = false≢true (rw fourteen at (fill_naming (fill_fault w size) (fill_holds.holds n)).number)

  -- and 14
  pub choose_holds : FirstToHold (ChooseHolds w size) (choose_fault w size)
  unfolding choose_fault fill_fault stage
  choose_holds =
      append_holds (fill_faults w size) (plan_fault (week_best w) ∷ []) fill_holds (λ _. one_holds _ (plan_holds w))
      (stage_ahead {σ = 5}
      (λ r. ⊎_elim (λ h. omega (arith, (list_stages w r h).1)) (λ h. omega (arith, (when_place 11 0 0 r h).0)))
      (λ r h. omega (arith, (when_place 14 0 0 r h).0)))

  pub choose_naming : (r : Refusal) → ChooseHolds w size r → Naming choose_numbers w.count 0 r
  unfolding least_place greatest_place
  choose_naming r =
      ⊎_elim (λ h. naming_after fill_numbers (14 ∷ []) (fill_naming r h))
      (when_naming choose_numbers w.count 0 14 0 0 refl (omega arith) (omega arith) (λ _. refl) r)
