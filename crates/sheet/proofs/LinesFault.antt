-- 16 and 17 over the lines of a sheet, as a loop asks them, line by line.
use Prim.Native.Nat.{ℕ, ◌+◌, ◌-◌}
use native.Mathlib.Numerals.{add-one}
use mathlib.Core.Path.{◌≡◌, ◌∙◌}
use mathlib.Core.List.{List, ◌∷◌}
use lib.ListN.{length}
use borrow.Author.Tests.{eq-eqb, ne_eqb}
use Rattle.std.specs.Prelude.{Option}
use Rattle.week.specs.declared.refusal.Refusal.{Refusal}
use Rattle.week.specs.Refusal.{refused, refused_if, or_else, first_of, first}
use Rattle.week.proofs.First.{search_after}
use Rattle.sheet.specs.declared.frame.Frame.{Frame}
use Rattle.sheet.specs.Line.{lines_of}
use Rattle.sheet.specs.Frame.{frame_of}
use Rattle.sheet.specs.Fault.{frame_fault, line_fault, lines_fault}
use Rattle.sheet.proofs.Lines.{lines_none}
use Rattle.sheet.proofs.Reached.{Reached, reached_line}

module _ (s : List ℕ) where
  -- an empty sheet has no first line
  pub fault_empty : length s ≡ 0 → lines_fault (lines_of s) ≡ refused 17 1 0
  unfolding lines_fault first_of or_else refused_if
  fault_empty z = rw (eq-eqb _ _ ((lines_none s).1 z))

  -- of any other the lines decide, from the first on
  pub fault_start : (length s ≡ 0 → ⊥) → first (line_fault (lines_of s)) 0 (length (lines_of s) - 0) ≡ lines_fault (lines_of s)
  unfolding lines_fault
  fault_start n = search_after _ _ _ _ _ (ne_eqb _ _ (λ z. n ((lines_none s).0 z)))

-- what is asked of the line that the loop has come to
pub fault_at : {lines ahead rest : List (List ℕ)} {i : ℕ} {line : List ℕ} → Reached lines ahead i → ahead ≡ line ∷ rest →
    {at : ℕ} {frame : Option Frame} {r : Refusal} → at ≡ i → frame ≡ frame_of line → r ≡ frame_fault (at + 1) frame →
    r ≡ line_fault lines i
unfolding line_fault
fault_at {i = i} h next at f e = e ∙ rw (at, f, reached_line h next, add-one i)
