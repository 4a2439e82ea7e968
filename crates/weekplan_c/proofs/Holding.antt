-- The call's refusal is the first of the order whose condition holds, and what it names.
use Prim.Native.Nat.{ℕ, ◌*◌}
use native.Mathlib.Omega.{arith}
use mathlib.Core.Path.{◌≡◌, refl}
use mathlib.Core.Logic.{⊎_elim}
use mathlib.Core.Bool.{false≢true}
use mathlib.Core.List.{List, [], ◌∷◌}
use lib.ListN.{length}
use Rattle.arrays.proofs.Tests.{lt_holds}
use Rattle.week.specs.Record.{Week}
use Rattle.week.specs.declared.refusal.Refusal.{Refusal}
use Rattle.week.specs.Refusal.{first_of, short_fault}
use Rattle.week.specs.RefusalOrder.{stage, FirstToHold, least_place, greatest_place, Naming}
use Rattle.week.proofs.Holding.{if_holds, or_holds, one_holds, append_holds, when_place, stage_ahead}
use Rattle.week.proofs.Naming.{when_naming, naming_after}
use Rattle.planner.specs.Choose.{width_of, table_fault, plan_fault, week_best}
use Rattle.planner.proofs.Holding.{plan_holds}
use Rattle.sheet.specs.Line.{lines_of}
use Rattle.sheet.specs.List.{sheet_week}
use Rattle.sheet.specs.Read.{read_faults, read_fault}
use Rattle.sheet.specs.Holds.{read_numbers}
use Rattle.sheet.proofs.Holding.{read_holds, read_stages, sheet_naming}
use Rattle.weekplan_c.specs.Call.{buffer_fault, lent_faults, keep_faults, keep_fault, call_fault}
use Rattle.weekplan_c.specs.Holds.{KeepHolds, keep_numbers, CallHolds, call_numbers}

module _ (sheet : List ℕ) (table_size buffer_size : ℕ) where
  abbrev w : Week
  w = sheet_week sheet

  abbrev lines : ℕ
  lines = length (lines_of sheet)

  -- 11 and 19, after the sheet
  keep_holds : FirstToHold (KeepHolds sheet table_size buffer_size) (keep_fault sheet table_size buffer_size)
  unfolding keep_fault read_fault table_fault buffer_fault short_fault first_of stage
  keep_holds =
      append_holds (read_faults sheet) (lent_faults w table_size buffer_size) (read_holds sheet)
      (λ _.
      or_holds (table_fault w table_size) _ (if_holds 11 0 0 refl (lt_holds table_size (w.count * width_of w)))
      (λ _. one_holds _ (if_holds 19 0 0 refl (lt_holds buffer_size w.count)))
      (stage_ahead {σ = 5} (λ r h. omega (arith, (when_place 11 0 0 r h).0)) (λ r h. omega (arith, (when_place 19 0 0 r h).0))))
      (stage_ahead (read_stages sheet)
      (λ r. ⊎_elim (λ h. omega (arith, (when_place 11 0 0 r h).0)) (λ h. omega (arith, (when_place 19 0 0 r h).0))))

  keep_naming : (r : Refusal) → KeepHolds sheet table_size buffer_size r → Naming keep_numbers w.count lines r
  unfolding least_place greatest_place
  keep_naming r =
      ⊎_elim (λ h. naming_after read_numbers (11 ∷ 19 ∷ []) (sheet_naming sheet r h))
      (⊎_elim (when_naming keep_numbers w.count lines 11 0 0 refl (omega arith) (omega arith) (λ _. refl) r)
      (when_naming keep_numbers w.count lines 19 0 0 refl (omega arith) (omega arith) (λ _. refl) r))

  -- what keeps all that is lent is not 14
  pub keep_other : ((keep_fault sheet table_size buffer_size).number ≡ 0 → ⊥) → (keep_fault sheet table_size buffer_size).number ≡ 14 → ⊥
  keep_other n fourteen =
      false≢true (rw fourteen at (keep_naming (keep_fault sheet table_size buffer_size) (keep_holds.holds n)).number)

  -- and 14
  pub call_holds : FirstToHold (CallHolds sheet table_size buffer_size) (call_fault sheet table_size buffer_size)
  unfolding call_fault keep_fault stage
  call_holds =
      append_holds (keep_faults sheet table_size buffer_size) (plan_fault (week_best w) ∷ []) keep_holds (λ _. one_holds _ (plan_holds w))
      (stage_ahead {σ = 7}
      (λ r.
      ⊎_elim (λ h. omega (arith, read_stages sheet r h))
      (⊎_elim (λ h. omega (arith, (when_place 11 0 0 r h).0)) (λ h. omega (arith, (when_place 19 0 0 r h).0))))
      (λ r h. omega (arith, (when_place 14 0 0 r h).0)))

  pub call_naming : (r : Refusal) → CallHolds sheet table_size buffer_size r → Naming call_numbers w.count lines r
  unfolding least_place greatest_place
  call_naming r =
      ⊎_elim (λ h. naming_after keep_numbers (14 ∷ []) (keep_naming r h))
      (when_naming call_numbers w.count lines 14 0 0 refl (omega arith) (omega arith) (λ _. refl) r)
