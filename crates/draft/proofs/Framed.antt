-- Which lists can be written as a sheet, and what is printed of them and of the others.
use Prim.Native.Nat.{suc, ◌<◌}
use mathlib.Core.Path.{◌≡◌, refl, ap, ◌∙◌}
use mathlib.Core.List.{flatten}
use borrow.Author.Tests.{lt-ltb}
use Rattle.arrays.proofs.Flattened.{flatten_one}
use Rattle.arrays.proofs.Tests.{lt_fails}
use Rattle.week.specs.Record.{max_batches, max_recipes}
use Rattle.week.specs.Refusal.{refused, refused_if, or_else, first_of}
use Rattle.week.proofs.Answering.{answers}
use Rattle.week.proofs.Faults.{fault_refuses}
use Rattle.week.proofs.Passes.{if_passes, first_of_passes, first_passes}
use Rattle.text.specs.Line.{refusal_line}
use Rattle.draft.specs.Record.{Draft}
use Rattle.draft.specs.Sheet.{batch_in, unkept, sheet_fault, Writable, sheet_frames, sheet_lines}

module _ (d : Draft) where
  -- 3 comes first
  pub too_many : max_batches < d.count → sheet_fault d ≡ refused 3 0 0
  unfolding sheet_fault first_of or_else refused_if
  too_many more = rw (lt-ltb max_batches d.count more)

  -- where 3 and 4 pass
  pub writable : (sheet_fault d).number ≡ 0 → Writable d
  unfolding sheet_fault unkept
  writable z =
      let both = (first_of_passes _).0 z in
      record {
        most = (if_passes 3 0 0 refl (lt_fails max_batches d.count)).0 both.0;
        each = λ i below.
            (if_passes 4 (suc i) 0 refl (lt_fails max_recipes (batch_in d i).count)).0
            ((first_passes (unkept d) d.count).0 both.1.0 i below);
      }

  -- the refusal, or the frames
  pub lines_refused : ((sheet_fault d).number ≡ 0 → ⊥) → flatten (sheet_lines d) ≡ refusal_line (sheet_fault d)
  unfolding sheet_lines
  lines_refused n = ap flatten ((answers _ _ _).refused refl n) ∙ flatten_one _

  pub lines_written : (sheet_fault d).number ≡ 0 → sheet_lines d ≡ sheet_frames d
  unfolding sheet_lines
  lines_written z = (answers _ _ _).passed z

-- what the text of a sheet is found by
pub ruleset written = (writable, lines_refused, lines_written, fault_refuses)
