-- A sheet's refusal is the first of the order whose condition holds.
use Prim.Native.Nat.{ℕ, suc, ◌≤◌, ◌<◌, max}
use native.Mathlib.Decide.{ℕ_discrete}
use native.Mathlib.Omega.{arith}
use mathlib.Core.Path.{◌≡◌, refl, ap}
use mathlib.Core.Logic.{inl, inr, ⊎_elim}
use mathlib.Core.Bool.{true}
use mathlib.Core.List.{List, [], ◌∷◌, flatten}
use lib.ListN.{length}
use Rattle.std.specs.Prelude.{Option, Some, None}
use Rattle.arrays.proofs.Tests.{lt_holds, same_holds, same_fails, not_holds}
use Rattle.week.specs.declared.refusal.Refusal.{Refusal}
use Rattle.week.specs.Refusal.{refused, first_of}
use Rattle.week.specs.RefusalOrder.{one_of, stage, rank, FirstToHold, ◌when◌, least_place, greatest_place, Naming}
use Rattle.week.proofs.Holding.{when_holds, if_holds, or_here, or_there, or_holds, one_holds, some_holds, AtPlace, when_place}
use Rattle.week.proofs.Holding.{place_ahead, rank_ahead, stage_ahead}
use Rattle.week.proofs.Naming.{when_naming, naming_before}
use Rattle.judge.specs.Holds.{list_numbers}
use Rattle.judge.proofs.Holding.{list_holds, list_stages, list_naming}
use Rattle.sheet.specs.declared.frame.Frame.{Frame}
use Rattle.sheet.specs.declared.frame.Frame.TheVariants.{Week, Batch}
use Rattle.sheet.specs.Line.{lines_of, line_at}
use Rattle.sheet.specs.Frame.{frame_of}
use Rattle.sheet.specs.Fault.{max_bytes, size_fault, frame_fault, line_fault, lines_fault}
use Rattle.sheet.specs.List.{sheet_week}
use Rattle.sheet.specs.Read.{read_fault}
use Rattle.sheet.specs.Holds.{FrameHolds, LineHolds, LinesHold, ReadHolds, read_numbers}

-- the stage of the order that a line is asked in
abbrev line_stage : ℕ
line_stage = 1

-- a number for each kind of frame, by which two kinds differ
kind : Option Frame → ℕ
kind None = 0
kind (Some Week) = 1
kind (Some Batch) = 2

-- 16 and 17 of a line
frame_holds : (i : ℕ) (f : Option Frame) → FirstToHold (FrameHolds (suc i) f) (frame_fault (suc i) f)
unfolding frame_fault stage rank flatten kind
frame_holds i None =
    or_here (when_holds 16 (suc i) 0 refl refl) (λ z. omega (arith, z))
    (rank_ahead 16 17 (suc i) refl (omega arith))
frame_holds i (Some Week) =
    or_there (λ s h. omega (arith, ap kind h.1))
    (if_holds 17 (suc i) 0 refl (
      λ h. inr (let n = (not_holds _ (same_fails (suc i) 1)).0 h in (later n, refl)),
      ⊎_elim (λ h. absurd (h.1 refl)) (λ h. (not_holds _ (same_fails (suc i) 1)).1 (λ e. omega (arith, h.0))),
    ))
  where
    later : (suc i ≡ 1 → ⊥) → 1 < suc i
    later n = elim (ℕ_discrete (suc i) 1) [ yes e ↦ absurd (n e) | no _ ↦ omega arith ]
frame_holds i (Some Batch) =
    or_there (λ s h. omega (arith, ap kind h.1))
    (if_holds 17 (suc i) 0 refl (
      λ h. inl ((same_holds (suc i) 1).0 h, λ e. omega (arith, ap kind e)),
      ⊎_elim (λ h. (same_holds (suc i) 1).1 h.0) (λ h. absurd (omega (arith, ap kind h.1))),
    ))

frame_place : (i : ℕ) (f : Option Frame) → AtPlace line_stage i (FrameHolds i f)
unfolding stage
frame_place i f r = ⊎_elim (when_place 16 i 0 r) (when_place 17 i 0 r)

module _ (lines : List (List ℕ)) where
  -- "line by line 16, 17"
  lines_hold : FirstToHold (LinesHold lines) (lines_fault lines)
  unfolding lines_fault line_fault first_of stage
  lines_hold =
      or_holds _ _ (if_holds 17 1 0 refl (same_holds (length lines) 0))
      (λ _. one_holds _
      (some_holds (LineHolds lines) (line_fault lines) (length lines) (λ i l. frame_holds i (frame_of (line_at lines i)))
      (λ i j less. place_ahead (omega arith) (frame_place (suc i) _) (frame_place (suc j) _))))
      (λ s t h (i, low, high, _). absurd (omega (arith, h.1)))

  lines_stage : (r : Refusal) → LinesHold lines r → stage r.number ≡ line_stage
  unfolding stage
  lines_stage r = ⊎_elim (λ h. (when_place 17 1 0 r h).0) (λ (i, _, _, h). (frame_place i _ r h).0)

-- 18, the lines, the list
pub read_holds : (sheet : List ℕ) → FirstToHold (ReadHolds sheet) (read_fault sheet)
unfolding read_fault size_fault first_of stage
read_holds sheet =
    or_holds _ _ (if_holds 18 0 0 refl (lt_holds max_bytes (length sheet)))
    (λ _.
    or_holds (lines_fault (lines_of sheet)) _ (lines_hold (lines_of sheet)) (λ _. one_holds _ (list_holds (sheet_week sheet)))
    (stage_ahead {σ = line_stage} (λ r h. omega (arith, lines_stage (lines_of sheet) r h))
    (λ r h. omega (arith, (list_stages (sheet_week sheet) r h).0))))
    (stage_ahead {σ = 0} (λ r h. omega (arith, (when_place 18 0 0 r h).0))
    (λ r.
    ⊎_elim (λ h. omega (arith, lines_stage (lines_of sheet) r h)) (λ h. omega (arith, (list_stages (sheet_week sheet) r h).0))))

pub read_stages : (sheet : List ℕ) (r : Refusal) → ReadHolds sheet r → stage r.number ≤ 3
unfolding stage
read_stages sheet r =
    ⊎_elim (λ h. omega (arith, (when_place 18 0 0 r h).0))
    (⊎_elim (λ h. omega (arith, lines_stage (lines_of sheet) r h)) (λ h. (list_stages (sheet_week sheet) r h).1))

-- and what it names
pub sheet_naming : (sheet : List ℕ) (r : Refusal) → ReadHolds sheet r →
    Naming read_numbers (sheet_week sheet).count (length (lines_of sheet)) r
unfolding least_place greatest_place
sheet_naming sheet r =
    ⊎_elim (when_naming read_numbers n lines 18 0 0 refl (omega arith) (omega arith) (λ _. refl) r)
    (⊎_elim
    (⊎_elim (of_line_lem 17 1 refl refl refl (omega arith) (omega arith) r) (λ (i, low, high, h).
    ⊎_elim (of_line_lem 16 i refl refl refl low (omega arith) r) (of_line_lem 17 i refl refl refl low (omega arith) r) h))
    (λ h. naming_before (18 ∷ 16 ∷ 17 ∷ []) list_numbers (list_naming (sheet_week sheet) lines r h)))
  where
    n : ℕ
    n = (sheet_week sheet).count

    lines : ℕ
    lines = length (lines_of sheet)

    of_line_lem : (number i : ℕ) {P : Type 0} → one_of read_numbers number ≡ true → least_place number ≡ 1 →
        greatest_place n lines number ≡ max 1 lines → 1 ≤ i → i ≤ max 1 lines →
        (r : Refusal) → (refused number i 0 when P) r → Naming read_numbers n lines r
    of_line_lem number i one least greatest low high =
        when_naming read_numbers n lines number i 0 one (omega (arith, least)) (omega (arith, greatest)) (λ _. refl)
