-- The refusal that an answer with a book names, and the book that it hands back.
use Prim.Native.Nat.{ℕ}
use native.Mathlib.Decide.{ℕ_discrete}
use mathlib.Core.Path.{◌≡◌, refl, sym, ap, ◌∙◌}
use mathlib.Core.List.{[], ◌∷◌, ◌++◌}
use Rattle.week.specs.declared.record.Batch.{Batch}
use Rattle.week.specs.declared.refusal.Refusal.{Refusal}
use Rattle.week.specs.Refusal.{accepted, unless_refused}
use Rattle.week.specs.Numbers.{without}
use Rattle.week.proofs.First.{Proper, first_of_proper}
use Rattle.week.proofs.Answering.{Answers, answers_name, unless_passed, unless_refused_lem}
use Rattle.book.specs.declared.book.Book.{Book}
use Rattle.book.specs.Fault.{open_fault, add_fault, withdraw_fault}
use Rattle.book.specs.Answer.{CallAnswer, held_in, holding, hands_back, open_answer, add_answer, withdraw_answer}
use Rattle.book.proofs.Answering.{open_answers, add_answers, withdraw_answers}

module _ {fault : Refusal} {book next : Book} {answer : CallAnswer}
    (h : Answers fault (hands_back book) (hands_back next accepted) answer) where
  names_fault : Proper fault → answer.refusal ≡ fault
  names_fault = answers_name h (λ (a : CallAnswer). a.refusal) (λ _. refl) (λ r. refl)

  hands_book : answer.book ≡ unless_refused fault next book
  hands_book =
      elim (ℕ_discrete fault.number 0) [
        | yes z ↦ ap (λ (a : CallAnswer). a.book) (h.passed z) ∙ sym (unless_passed fault next book z)
        | no n ↦ ap (λ (a : CallAnswer). a.book) (h.refused refl n) ∙ sym (unless_refused_lem fault next book n)
      ]

pub open_refusal : (t c : ℕ) → (open_answer t c).refusal ≡ open_fault t c
unfolding open_fault
open_refusal t c = names_fault (open_answers t c) (first_of_proper _)

module _ (book : Book) where
  pub add_refusal : (b : Batch) → (add_answer book b).refusal ≡ add_fault book.list b
  unfolding add_fault
  add_refusal b = names_fault (add_answers book b) (first_of_proper _)

  pub add_book : (b : Batch) →
      (add_answer book b).book
      ≡ unless_refused (add_fault book.list b) (holding book (held_in book ++ (b ∷ []))) book
  add_book b = hands_book (add_answers book b)

  pub withdraw_refusal : (number : ℕ) → (withdraw_answer book number).refusal ≡ withdraw_fault book.list number
  unfolding withdraw_fault
  withdraw_refusal number = names_fault (withdraw_answers book number) (first_of_proper _)

  pub withdraw_book : (number : ℕ) →
      (withdraw_answer book number).book
      ≡ unless_refused (withdraw_fault book.list number) (holding book (without number (held_in book))) book
  withdraw_book number = hands_book (withdraw_answers book number)
