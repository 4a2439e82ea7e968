-- The reader's answer: which refusal comes first, and what is answered then.
use Prim.Native.Nat.{ℕ, ◌≤◌, ◌<◌}
use mathlib.Core.Path.{◌≡◌, refl, sym, ap, ◌∙◌}
use mathlib.Core.List.{List}
use lib.ListN.{length}
use borrow.Author.Tests.{lt-ltb, le-ltb}
use Rattle.std.specs.Prelude.{Result, Ok, Err, IfOk}
use Rattle.week.specs.Record.{Week}
use Rattle.week.specs.declared.refusal.Fault.{Fault}
use Rattle.week.specs.declared.refusal.Refusal.{Refusal}
use Rattle.week.specs.Refusal.{accepted, refused}
use Rattle.week.specs.Fault.{numbers, refusal_of}
use Rattle.week.specs.Ordered.{ordered_week}
use Rattle.week.proofs.First.{number_of_lem, refuses, refuses_too, refused_if_true, refused_if_false, first_of_here, first_of_later}
use Rattle.week.proofs.First.{first_of_last, first_of_proper}
use Rattle.week.proofs.Faults.{fault_refuses}
use Rattle.week.proofs.Answering.{Answers, answers, answers_name}
use Rattle.judge.specs.Fault.{list_fault}
use Rattle.judge.proofs.WellFormed.{list_proper}
use Rattle.sheet.specs.Line.{lines_of}
use Rattle.sheet.specs.Fault.{max_bytes, size_fault, lines_fault}
use Rattle.sheet.specs.List.{sheet_week}
use Rattle.sheet.specs.Read.{ReadAnswer, read_fault, refused_reading, read_answer, answer_of}

module _ (sheet : List ℕ) where
  pub read_answers :
      Answers (read_fault sheet) refused_reading (record { refusal = accepted; week = ordered_week (sheet_week sheet) }) (read_answer sheet)
  unfolding read_answer
  read_answers = answers _ _ _

  -- the refusal answered is the first of the order
  pub reading_refusal : (read_answer sheet).refusal ≡ read_fault sheet
  unfolding read_fault refused_reading
  reading_refusal = answers_name read_answers (λ (a : ReadAnswer). a.refusal) (λ z. refl) (λ r. refl) (first_of_proper _)

  -- the sheet is too long
  pub large_refused : max_bytes < length sheet → {r : Refusal} → r ≡ refused 18 0 0 → read_answer sheet ≡ refused_reading r
  unfolding read_fault size_fault
  large_refused large e =
      let fault = refused_if_true 18 0 0 (lt-ltb _ _ large) in
      read_answers.refused (first_of_here _ _ (refuses 18 refl fault) ∙ fault ∙ sym e) (refuses 18 refl e)

  -- it is not: its lines decide
  module _ (small : length sheet ≤ max_bytes) where
    size_passed : (size_fault sheet).number ≡ 0
    unfolding size_fault
    size_passed = number_of_lem (refused_if_false 18 0 0 (le-ltb _ _ small))

    pub lines_refused : {r : Refusal} → r ≡ lines_fault (lines_of sheet) → (r.number ≡ 0 → ⊥) → read_answer sheet ≡ refused_reading r
    unfolding read_fault
    lines_refused e n = read_answers.refused (first_of_later _ _ size_passed ∙ first_of_here _ _ (refuses_too e n) ∙ sym e) n

    -- they pass: w, the list of the sheet, decides
    module _ (placed : (lines_fault (lines_of sheet)).number ≡ 0) {w : Week} (is : w ≡ sheet_week sheet) where
      fault_list : read_fault sheet ≡ list_fault w
      unfolding read_fault
      fault_list = first_of_later _ _ size_passed ∙ first_of_last _ _ placed (list_proper _) ∙ ap list_fault (sym is)

      pub list_judged : (result : Result Week Fault) → refusal_of result ≡ list_fault w → IfOk result (λ list. list ≡ ordered_week w) →
          answer_of result ≡ read_answer sheet
      list_judged (Ok list) e in_order = rw (in_order, is) (sym (read_answers.passed (number_of_lem (fault_list ∙ sym e))))
      list_judged (Err fault) e _ = sym (read_answers.refused (fault_list ∙ sym e) (fault_refuses fault))

-- what the code hands back, where its answer is the reader's: what refuses, or the list
module _ (sheet : List ℕ) where
  pub handed_fault : (fault : Fault) → answer_of (Err fault) ≡ read_answer sheet → numbers fault ≡ read_fault sheet
  unfolding refused_reading
  handed_fault fault e = ap (λ (a : ReadAnswer). a.refusal) e ∙ reading_refusal sheet

  pub handed_week : (week : Week) → answer_of (Ok week) ≡ read_answer sheet →
      ((read_fault sheet).number ≡ 0) × (week ≡ ordered_week (sheet_week sheet))
  handed_week week e =
      let none = number_of_lem (sym (ap (λ (a : ReadAnswer). a.refusal) e ∙ reading_refusal sheet)) in
      (none, ap (λ (a : ReadAnswer). a.week) (e ∙ (read_answers sheet).passed none))
