-- Lines that 16 and 17 pass: the first is a week, and each later one a batch.
use Prim.Native.Nat.{ℕ, zero, suc, ◌≤◌, ◌<◌}
use native.Mathlib.Omega.{arith}
use mathlib.Core.Bool.{Bool}
use mathlib.Core.Path.{◌≡◌, refl, sym, ap, ◌∙◌}
use mathlib.Core.Logic.Iff
use mathlib.Core.Logic.{◌↔◌}
use mathlib.Core.List.{List, [], ◌∷◌}
use lib.ListN.{length}
use borrow.Author.Tests.{eqb-true, eqb-false, ne_eqb, not-false}
use denote.Param.Members.{Mut}
use denote.Ref.{Bor}
use Rattle.std.specs.Prelude.{Option, Some, None}
use Rattle.std.specs.Fn.{Called}
use Rattle.std.specs.declared.slice.SplitInclusive.{SplitInclusive}
use Rattle.arrays.proofs.Tests.{zero_fails}
use Rattle.week.proofs.First.{number_of_lem, refused_if_none, refused_if_false}
use Rattle.week.proofs.Passes.{Passes, if_passes, first_of_passes, first_passes}
use Rattle.sheet.specs.declared.frame.Frame.{Frame}
use Rattle.sheet.specs.declared.frame.Frame.TheVariants.{Week, Batch}
use Rattle.sheet.specs.Line.{lines_of, line_at}
use Rattle.sheet.specs.Frame as spec
use Rattle.sheet.specs.Frame.{frame_of}
use Rattle.sheet.specs.Fault.{frame_fault, line_fault, lines_fault}
use Rattle.sheet.proofs.Lines.{is_feed, line_steps, first_next}
use Rattle.sheet.proofs.Frames.{week_length}

-- the first line
week_passes : (f : Option Frame) → Passes (frame_fault 1 f) ↔ (f ≡ Some Week)
unfolding frame_fault
week_passes f = (is_week_lem f, λ e. rw e (number_of_lem (refused_if_false 17 1 0 refl)))
  where
    is_week_lem : (f : Option Frame) → Passes (frame_fault 1 f) → f ≡ Some Week
    is_week_lem None z = absurd (omega arith)
    is_week_lem (Some Week) z = refl
    is_week_lem (Some Batch) z = absurd (eqb-false 1 1 (refused_if_none 17 1 0 refl _ z) refl)

-- a later one
batch_passes : (place : ℕ) → 1 < place → (f : Option Frame) → Passes (frame_fault place f) ↔ (f ≡ Some Batch)
unfolding frame_fault
batch_passes place later f = (is_batch_lem f, λ e. rw e (number_of_lem (refused_if_false 17 place 0 (ne_eqb place 1 (λ one. omega arith)))))
  where
    is_batch_lem : (f : Option Frame) → Passes (frame_fault place f) → f ≡ Some Batch
    is_batch_lem None z = absurd (omega arith)
    is_batch_lem (Some Week) z = absurd (omega (arith, eqb-true place 1 (not-false _ (refused_if_none 17 place 0 refl _ z))))
    is_batch_lem (Some Batch) z = refl

-- all lines
pub record WeekThenBatches (lines : List (List ℕ)) : Type 0 where
  pub some : 0 < length lines
  pub week : frame_of (line_at lines 0) ≡ Some Week
  pub batches : (i : ℕ) → 1 ≤ i → i < length lines → frame_of (line_at lines i) ≡ Some Batch

module _ (lines : List (List ℕ)) where
  each_placed : 0 < length lines → ((i : ℕ) → i < length lines → Passes (line_fault lines i)) → WeekThenBatches lines
  unfolding line_fault
  each_placed some each =
      record {
        some = some;
        week = (week_passes (frame_of (line_at lines 0))).0 (each 0 some);
        batches = λ i later below. (batch_passes (suc i) (omega arith) (frame_of (line_at lines i))).0 (each i below);
      }

  placed_each : WeekThenBatches lines → (i : ℕ) → i < length lines → Passes (line_fault lines i)
  unfolding line_fault
  placed_each h zero below = (week_passes (frame_of (line_at lines 0))).1 h.week
  placed_each h (suc i) below =
      (batch_passes (suc (suc i)) (omega arith) (frame_of (line_at lines (suc i)))).1 (h.batches (suc i) (omega arith) below)

  pub lines_pass : Passes (lines_fault lines) ↔ WeekThenBatches lines
  unfolding lines_fault
  lines_pass =
      let some = if_passes 17 1 0 refl (zero_fails (length lines)) in
      Iff.trans (first_of_passes _) (
        λ (first, (each, _)). each_placed (some.0 first) ((first_passes (line_fault lines) (length lines)).0 each),
        λ h. (some.1 h.some, ((first_passes (line_fault lines) (length lines)).1 (placed_each h), tt)),
      )

-- so the sheet is not empty
pub placed_bytes : (sheet : List ℕ) → (lines_fault (lines_of sheet)).number ≡ 0 → 0 < length sheet
placed_bytes [] passed = ((lines_pass []).0 passed).some
placed_bytes (b ∷ bs) passed = omega arith

-- and the week's line is long enough to be read
pub first_read : {F : Type 0} (g : Mut F (Bor ℕ × Unit {0}) Bool) (s t : SplitInclusive ℕ F) {r : Option (Bor (List ℕ))}
    {line : Bor (List ℕ)} {sheet : List ℕ} → (lines_fault (lines_of sheet)).number ≡ 0 → s.rest.now ≡ sheet → r ≡ Some line →
    line_steps g s r t →
    ((a : Bor ℕ × Unit {0}) (b : Bool) (q : F) → Called g s.pred a b q → (b ≡ is_feed a.0.now) × (q ≡ s.pred)) →
    length line.now ≡ spec.week_length
first_read g s t passed rest is turn key =
    let is_first = ap (λ (lines : List (List ℕ)). frame_of (line_at lines 0)) (sym (first_next g s t rest is turn key)) in
    week_length _ (is_first ∙ ((lines_pass _).0 passed).week)
