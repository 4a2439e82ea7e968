-- Nothing refuses a sheet exactly where it is well written.
use Prim.Native.Nat.{ℕ, ◌≤◌}
use mathlib.Core.Path.{◌≡◌, refl}
use mathlib.Core.Logic.Iff
use mathlib.Core.Logic.{◌↔◌}
use mathlib.Core.List.{List}
use lib.ListN.{length}
use Rattle.arrays.proofs.Tests.{lt_fails}
use Rattle.week.proofs.First.{number_of_lem}
use Rattle.week.proofs.Passes.{Passes, if_passes, first_of_passes}
use Rattle.judge.proofs.WellFormed.{list_proper}
use Rattle.sheet.specs.Line.{lines_of}
use Rattle.sheet.specs.Fault.{max_bytes, size_fault}
use Rattle.sheet.specs.List.{sheet_week}
use Rattle.sheet.specs.Read.{read_fault, WellWritten}
use Rattle.sheet.proofs.Placed.{lines_pass}

size_passes : (sheet : List ℕ) → Passes (size_fault sheet) ↔ (length sheet ≤ max_bytes)
unfolding size_fault
size_passes sheet = if_passes 18 0 0 refl (lt_fails max_bytes (length sheet))

pub read_faultless : (sheet : List ℕ) → ((read_fault sheet).number ≡ 0) ↔ WellWritten sheet
unfolding read_fault
read_faultless sheet = Iff.trans (first_of_passes _) (
  λ (size, (lines, (list, _))).
      let placed = (lines_pass (lines_of sheet)).0 lines in
      record {
        short = (size_passes sheet).0 size;
        some = placed.some;
        first = placed.week;
        later = placed.batches;
        list = list_proper (sheet_week sheet) list;
      },
  λ h.
      let lines = (lines_pass (lines_of sheet)).1 (record { some = h.some; week = h.first; batches = h.later }) in
      ((size_passes sheet).1 h.short, (lines, (number_of_lem h.list, tt))),
)
