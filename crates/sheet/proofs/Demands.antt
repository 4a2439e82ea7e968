-- What the buyer asks of the reader, each sentence of document 01 above its theorem. The contract of `read` says that it answers
-- `read_answer` on every sequence of bytes; the theorems here say that this is what 01 asks.
use Prim.Native.Nat.{ℕ}
use native.Mathlib.Decide.{ℕ_discrete}
use mathlib.Core.Path.{◌≡◌, refl, sym, ap, ◌∙◌}
use mathlib.Core.Logic.{◌↔◌}
use mathlib.Core.List.{List}
use lib.ListN.{length}
use Rattle.week.specs.Order.{InOrder}
use Rattle.week.specs.Written.{batches_of}
use Rattle.week.specs.Ordered.{ordered_week, Rearranged}
use Rattle.week.specs.RefusalOrder.{AtFault}
use Rattle.judge.specs.Fault.{list_fault, WellFormed}
use Rattle.week.proofs.First.{number_of_lem, refuses_too}
use Rattle.week.proofs.Naming.{at_fault}
use Rattle.judge.proofs.AnyOrder.{one_order, in_order_rearranged, in_order_passes, in_order_strict}
use Rattle.sheet.specs.Line.{lines_of, AreLines}
use Rattle.sheet.specs.List.{sheet_week}
use Rattle.sheet.specs.Read.{ReadAnswer, read_fault, refused_reading, read_answer, WellWritten, LinesRearranged, ZeroBeyond}
use Rattle.sheet.proofs.LinesWhole.{are_lines}
use Rattle.sheet.proofs.WellWritten.{read_faultless}
use Rattle.sheet.proofs.AnyOrder.{list_rearranged, still_written}
use Rattle.sheet.specs.Holds.{ReadHolds, read_numbers}
use Rattle.sheet.proofs.Beyond.{empty_beyond, sheet_beyond, ordered_beyond}
use Rattle.sheet.proofs.Reading.{read_answers, reading_refusal}
use Rattle.sheet.proofs.Holding.{read_holds, sheet_naming}

-- 01, "The sheet": "Each line is one frame .., ended by a line feed." The lines put together are the sheet, none is empty, and a
-- line feed ends each but perhaps the last and stands nowhere else.
pub read_lines : (sheet : List ℕ) → AreLines sheet (lines_of sheet)
read_lines = are_lines

-- "Read a sheet, answering a list that passed 1 to 10": it is the list of the sheet, in order.
pub read_passes : (sheet : List ℕ) → (read_answer sheet).refusal.number ≡ 0 →
    WellFormed (read_answer sheet).week × ((read_answer sheet).week ≡ ordered_week (sheet_week sheet))
read_passes sheet z =
    let none = number_of_lem (sym (reading_refusal sheet)) ∙ z in
    let list = ap (λ (a : ReadAnswer). a.week) ((read_answers sheet).passed none) in
    (ap list_fault list ∙ in_order_passes (sheet_week sheet) ((read_faultless sheet).0 none).list, list)

-- "An answer of refusal is three numbers: its own, a place and a recipe. Anything else that its record holds is 0".
pub read_refuses : (sheet : List ℕ) → ((read_answer sheet).refusal.number ≡ 0 → ⊥) →
    read_answer sheet ≡ refused_reading (read_fault sheet)
read_refuses sheet n = (read_answers sheet).refused refl (refuses_too (reading_refusal sheet) n)

-- Demand 1: "one numbered refusal, which says which batch is at fault where a batch is". 01: "The number answered is the first in
-- this order whose condition holds": it holds of the very line, or batch and recipe, that are named, and none that stands before it does.
pub read_at_fault : (sheet : List ℕ) →
    AtFault (ReadHolds sheet) read_numbers (sheet_week sheet).count (length (lines_of sheet)) (read_answer sheet).refusal
read_at_fault sheet = rw (reading_refusal sheet) (at_fault (read_holds sheet) (sheet_naming sheet))

pub read_refusal : (sheet : List ℕ) → (read_answer sheet).refusal ≡ read_fault sheet
read_refusal = reading_refusal

-- .. "and nothing else is refused."
pub read_reads : (sheet : List ℕ) → ((read_answer sheet).refusal.number ≡ 0) ↔ WellWritten sheet
read_reads sheet = (
  λ z. (read_faultless sheet).0 (number_of_lem (sym (reading_refusal sheet)) ∙ z),
  λ h. number_of_lem (reading_refusal sheet) ∙ (read_faultless sheet).1 h,
)

-- 02, Two: "all other calls order inside": the list answered has the batches of the sheet, none lost or doubled, strictly in order.
pub read_orders : (sheet : List ℕ) → (read_answer sheet).refusal.number ≡ 0 →
    Rearranged (sheet_week sheet) (read_answer sheet).week × InOrder (read_answer sheet).week.opening (batches_of (read_answer sheet).week)
read_orders sheet z =
    let list = ((read_reads sheet).0 z).list in
    rw (read_passes sheet z).1 (in_order_rearranged (sheet_week sheet) list, in_order_strict (sheet_week sheet) list)

-- "Sheets may come in any order as well.": of two that are read and whose lists are rearrangements of each other, one list is answered.
pub read_any_order : (a b : List ℕ) → Rearranged (sheet_week a) (sheet_week b) →
    (read_answer a).refusal.number ≡ 0 → (read_answer b).refusal.number ≡ 0 → (read_answer a).week ≡ (read_answer b).week
read_any_order a b same za zb =
    rw ((read_passes a za).1, (read_passes b zb).1) (one_order same ((read_reads a).0 za).list)

-- And over the lines: if a sheet is read, so is each that has the same first line and its later lines in any order, with the same answer.
pub read_rearranged : (a b : List ℕ) → LinesRearranged a b → (read_answer a).refusal.number ≡ 0 → read_answer b ≡ read_answer a
read_rearranged a b same za =
    let h = (read_reads a).0 za in
    let passed_a = (read_faultless a).1 h in
    let passed_b = (read_faultless b).1 (still_written same h) in
    rw ((read_answers a).passed passed_a, (read_answers b).passed passed_b, one_order (list_rearranged same h) h.list) refl

-- "Places of an answer beyond n hold 0", of the batches, and of each batch's recipes.
pub read_beyond : (sheet : List ℕ) → ZeroBeyond (read_answer sheet).week
unfolding refused_reading
read_beyond sheet =
    elim (ℕ_discrete (read_fault sheet).number 0) [
      | yes z ↦ rw ((read_answers sheet).passed z) (ordered_beyond (sheet_week sheet) (sheet_beyond sheet))
      | no n ↦ rw ((read_answers sheet).refused refl n) empty_beyond
    ]
