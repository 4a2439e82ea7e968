-- The book's answers: what each is where something refuses, and where nothing does.
use Prim.Native.Nat.{ℕ}
use mathlib.Core.Path.{◌≡◌, refl, sym}
use mathlib.Core.List.{[], ◌∷◌, ◌++◌}
use Rattle.std.proofs.Common.{Result, Ok, Err, IfOk}
use Rattle.week.specs.declared.record.Batch.{Batch}
use Rattle.week.specs.declared.refusal.Fault.{Fault}
use Rattle.week.specs.declared.refusal.Refusal.{Refusal}
use Rattle.week.specs.Refusal.{accepted}
use Rattle.week.specs.Fault.{numbers, refusal_of}
use Rattle.week.specs.Order.{ordered}
use Rattle.week.specs.Numbers.{without}
use Rattle.week.specs.Record.{Week, empty_week}
use Rattle.week.specs.Written.{batches_of, written}
use Rattle.week.specs.Ordered.{ordered_week}
use Rattle.planner.specs.Choose.{ChooseAnswer, refused_plan, choose_answer}
use Rattle.book.specs.declared.book.Book.{Book}
use Rattle.book.specs.Fault.{open_fault, add_fault, withdraw_fault}
use Rattle.book.specs.Answer.{CallAnswer, empty_book, held_in, holding, hands_back, changed}
use Rattle.book.specs.Answer.{open_answer, add_answer, withdraw_answer, plan_answer}
use Rattle.week.proofs.First.{number_of_lem}
use Rattle.week.proofs.Faults.{fault_refuses}
use Rattle.week.proofs.Answering.{Answers, answers, unless_passed, unless_refused_lem}
use Rattle.week.proofs.Writing.{ordered_written}
use Rattle.judge.proofs.Fit.{list_counted}
use Rattle.planner.proofs.Demands.{choose_plans}

-- a call's answer is that of a result which tells the same refusal, and the list where nothing refuses
changed_answer : {fault : Refusal} {book : Book} {list : Week} {answer : CallAnswer} →
    Answers fault (hands_back book) (hands_back (record { list = list }) accepted) answer →
    (r : Result Week Fault) → refusal_of r ≡ fault → IfOk r (λ after. after ≡ list) → changed book r ≡ answer
changed_answer h (Ok after) same is = rw is (sym (h.passed (number_of_lem (sym same))))
changed_answer h (Err f) same is = sym (h.refused (sym same) (fault_refuses f))

pub open_answers : (t c : ℕ) →
    Answers (open_fault t c) (hands_back (empty_book 0 0)) (hands_back (empty_book t c) accepted) (open_answer t c)
unfolding open_answer
open_answers t c = answers _ _ _

pub open_changes : (t c : ℕ) {none : Week} → none ≡ empty_week 0 0 →
    (r : Result Week Fault) → refusal_of r ≡ open_fault t c → IfOk r (λ list. list ≡ empty_week t c) →
    changed (record { list = none }) r ≡ open_answer t c
open_changes t c empty = rw empty (changed_answer (open_answers t c))

module _ (book : Book) where
  pub add_answers : (b : Batch) →
      Answers (add_fault book.list b) (hands_back book)
      (hands_back (holding book (held_in book ++ (b ∷ []))) accepted) (add_answer book b)
  unfolding add_answer
  add_answers b = answers _ _ _

  pub add_changes : (b : Batch) (r : Result Week Fault) → refusal_of r ≡ add_fault book.list b →
      IfOk r (λ after. after ≡ written book.list.opening book.list.closing (ordered book.list.opening (held_in book ++ (b ∷ [])))) →
      changed book r ≡ add_answer book b
  add_changes b = changed_answer (add_answers b)

  pub withdraw_answers : (number : ℕ) →
      Answers (withdraw_fault book.list number) (hands_back book) (hands_back (holding book (without number (held_in book))) accepted)
      (withdraw_answer book number)
  unfolding withdraw_answer
  withdraw_answers number = answers _ _ _

  pub withdraw_changes : (number : ℕ) (r : Result Week Fault) → refusal_of r ≡ withdraw_fault book.list number →
      IfOk r (λ after. after ≡ written book.list.opening book.list.closing (ordered book.list.opening (without number (held_in book)))) →
      changed book r ≡ withdraw_answer book number
  withdraw_changes number = changed_answer (withdraw_answers number)

  -- a plan, and the book beside it
  module _ (size : ℕ) {plan : ChooseAnswer} (chosen : plan ≡ choose_answer book.list size) where
    pub plan_refused : (plan.refusal.number ≡ 0 → ⊥) → plan_answer book size ≡ record { plan = plan; book = book }
    unfolding plan_answer
    plan_refused n = rw (← chosen, unless_refused_lem plan.refusal (holding book (held_in book)) book n)

    pub plan_passed : {list : Week} → list ≡ ordered_week book.list → plan.refusal.number ≡ 0 →
        plan_answer book size ≡ record { plan = plan; book = record { list = list } }
    unfolding plan_answer
    plan_passed is z =
        let w = book.list in
        let formed = ((choose_plans w size).0 (rw chosen at z)).0 in
        rw (
          ← chosen,
          unless_passed plan.refusal (holding book (held_in book)) book z,
          ordered_written (batches_of w) w is refl refl (sym (list_counted w formed)) refl,
        )

  -- a refused one, of which the numbers tell
  pub plan_failed : (size : ℕ) (fault : Fault) → refused_plan (numbers fault) ≡ choose_answer book.list size →
      plan_answer book size ≡ record { plan = refused_plan (numbers fault); book = book }
  unfolding refused_plan
  plan_failed size fault chosen = plan_refused size chosen (fault_refuses fault)
