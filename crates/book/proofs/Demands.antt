-- What document 02 asks of the book, each sentence above its theorem; docs/PROMISES.md has a row for each. The contracts say that the code
-- answers what the definitions say, on every input; the theorems here say that the definitions are what was asked for.
use Prim.Native.Nat.{ℕ, ◌-◌, ◌≤◌, ◌<◌}
use native.Mathlib.Omega.{arith}
use mathlib.Core.Path.{◌≡◌, refl, sym, ap, ◌∙◌}
use mathlib.Core.Logic.{◌↔◌}
use mathlib.Core.Bool.{true, true≢false}
use mathlib.Core.List.{List, [], ◌∷◌, ◌++◌, map}
use lib.ListN.{length}
use Rattle.arrays.specs.Rearranged.{Perm, both}
use Rattle.arrays.proofs.Rearranges.{perm_sym, perm-length}
use Rattle.week.specs.declared.record.Batch.{Batch}
use Rattle.week.specs.declared.refusal.Refusal.{Refusal}
use Rattle.week.specs.Record.{Week, max_minutes, max_batches, empty_week}
use Rattle.week.specs.Refusal.{accepted, refused, refused_if, or_else, first_of, first}
use Rattle.week.specs.RefusalOrder.{one_of}
use Rattle.week.specs.Order.{InOrder, ordered}
use Rattle.week.specs.Numbers.{is_held, without}
use Rattle.week.specs.Written.{written}
use Rattle.week.specs.Ordered.{Rearranged}
use Rattle.week.proofs.First.{number_of_lem, refuses_too}
use Rattle.week.proofs.Answering.{unless_passed, unless_refused_lem}
use Rattle.week.proofs.Ordering.{ordered_perm}
use Rattle.week.proofs.Writing.{written_batches}
use Rattle.judge.specs.Fault.{week_fault, list_fault, WellFormed}
use Rattle.judge.specs.Fit.{Fit}
use Rattle.judge.proofs.WellFormed.{minutes_passes}
use Rattle.planner.specs.Choose.{ChooseAnswer, refused_plan, choose_answer, table_after}
use Rattle.planner.proofs.Choosing.{choose_refusal, fill_list, plan_refused as choose-refused}
use Rattle.planner.proofs.AnyOrder.{same_choose, same_table}
use Rattle.planner.proofs.Demands.{choose_plans}
use Rattle.book.specs.declared.book.Book.{Book}
use Rattle.book.specs.Fault.{open_fault, join_fault, leave_fault}
use Rattle.book.specs.Joins.{Joins}
use Rattle.book.specs.Answer.{CallAnswer, PlanAnswer, empty_book, held_in, hands_back, open_answer, add_answer, withdraw_answer, plan_answer}
use Rattle.book.specs.History.{Call, adds, withdraws, plans, after_call, after_calls, collected}
use Rattle.book.proofs.Faults.{add_list, add_join, add_passes, withdraw_list, withdraw_leave, withdraw_passes}
use Rattle.book.proofs.Joining.{join_passes, leave_passes}
use Rattle.book.proofs.Answering.{open_answers, add_answers, withdraw_answers, plan_refused}
use Rattle.book.proofs.HandedBack.{open_refusal, add_refusal, add_book, withdraw_refusal, withdraw_book}
use Rattle.book.proofs.Histories.{Kept, book_of, formed_kept, kept_most, kept_in_order, kept_passes, kept_adds, kept_withdraws}
use Rattle.book.proofs.Histories.{kept_more, kept_less, calls_kept, calls_book, open_kept, open_book, collected-append, all_taken}
use Rattle.book.proofs.Named.{new_numbers, open_each, join_each, leave_each, choose_each}

-- what planning a book answers, and fills the table lent with, is what Choose does on a list
pub record PlansAs (book : Book) (list : Week) (table : List ℕ) : Type 0 where
  pub answers : (plan_answer book (length table)).plan ≡ choose_answer list (length table)
  pub fills : table_after book.list table ≡ table_after list table

-- Document 02, Two: "Two accepted lists that are rearrangements of each other get the same plan.": planning a book is Choose on each
-- rearrangement of the list that it holds, and so planning a book that holds one.
pub plans_alike : (book : Book) (w : Week) → Rearranged book.list w → WellFormed book.list → (table : List ℕ) → PlansAs book w table
unfolding plan_answer
plans_alike book w same list table = record { answers = same_choose same list (length table); fills = same_table same list table }

-- lists written from rearrangements are rearrangements
written_rearranged : (t c : ℕ) {bs cs : List Batch} → Perm bs cs → Rearranged (written t c bs) (written t c cs)
written_rearranged t c {bs} {cs} p =
    record { opening = refl; closing = refl; count = perm-length p; batches = rw (written_batches t c bs, written_batches t c cs) p }

-- a list of some batches, in order
pub record ListOf (t c : ℕ) (bs cs : List Batch) : Type 0 where
  pub rearranged : Perm bs cs
  pub order : InOrder t cs
  pub well_formed : WellFormed (written t c cs)
  pub most : length cs ≤ max_batches

module _ (t c : ℕ) (opened : open_fault t c ≡ accepted) (calls : List Call) where
  kept : Kept t c (collected c calls [])
  kept = calls_kept calls (open_kept opened)

  -- "After any calls from opening on, planning a book answers, and fills the table lent, as Choose does on a freshly written list of the
  -- batches added and not withdrawn since." The book is that list, in order ..
  pub history_book : after_calls calls (open_answer t c).book ≡ record { list = written t c (ordered t (collected c calls [])) }
  history_book = ap (after_calls calls) (open_book opened) ∙ calls_book calls (open_kept opened)

  pub history_list : ListOf t c (collected c calls []) (ordered t (collected c calls []))
  history_list =
      record {
        rearranged = ordered_perm t (collected c calls []);
        order = kept_in_order kept;
        well_formed = kept_passes kept;
        most = kept_most kept;
      }

  -- .. and on one that is written afresh in whatever order Choose does the same.
  pub history_plans : (bs : List Batch) → Perm (collected c calls []) bs → (table : List ℕ) →
      PlansAs (after_calls calls (open_answer t c).book) (written t c bs) table
  history_plans bs perm table =
      let same = written_rearranged t c (both (perm_sym history_list.rearranged) perm) in
      rw history_book (plans_alike (book_of t c (collected c calls [])) (written t c bs) same history_list.well_formed table)

  -- What is added and what is withdrawn is said of those batches, without a book: the book refuses just what they do.
  pub history_adds : (b : Batch) → (add_answer (after_calls calls (open_answer t c).book) b).refusal ≡ join_fault c (collected c calls []) b
  history_adds b = rw history_book (add_refusal (book_of t c (collected c calls [])) b ∙ kept_adds kept b)

  pub history_withdraws : (number : ℕ) →
      (withdraw_answer (after_calls calls (open_answer t c).book) number).refusal ≡ leave_fault (collected c calls []) number
  history_withdraws number = rw history_book (withdraw_refusal (book_of t c (collected c calls [])) number ∙ kept_withdraws kept number)

-- "A withdrawn place is used again.": whatever was added and withdrawn before, batches that with those held now are fit, and at most 16,
-- are all taken.
pub places_again : (t c : ℕ) (calls : List Call) (bs : List Batch) →
    Fit t c (collected c calls [] ++ bs) → length (collected c calls [] ++ bs) ≤ max_batches →
    collected c (calls ++ map adds bs) [] ≡ collected c calls [] ++ bs
places_again t c calls bs fit most =
    collected-append c calls (map adds bs) []
    ∙ all_taken c {t = t} bs (collected c calls []) (record { most = most; fit = fit })

-- "Checks": a call is accepted exactly where none of its checks holds.
pub open_accepts : (t c : ℕ) → ((open_answer t c).refusal.number ≡ 0) ↔ ((t < c) × (c - t ≤ max_minutes))
unfolding open_fault
open_accepts t c = rw (open_refusal t c) (minutes_passes t c)

module _ (book : Book) where
  pub add_accepts : (b : Batch) →
      ((add_answer book b).refusal.number ≡ 0) ↔ (WellFormed book.list × Joins book.list.closing (held_in book) b)
  add_accepts b =
      let joins = join_passes book.list.closing (held_in book) b in
      rw (add_refusal book b) (
        λ z. let both = add_passes book.list b z in (both.0, joins.0 both.1),
        λ (list, h). number_of_lem (add_join book.list b list) ∙ joins.1 h,
      )

  pub withdraw_accepts : (number : ℕ) →
      ((withdraw_answer book number).refusal.number ≡ 0) ↔ (WellFormed book.list × (is_held number (held_in book) ≡ true))
  withdraw_accepts number =
      let leaves = leave_passes (held_in book) number in
      rw (withdraw_refusal book number) (
        λ z. let both = withdraw_passes book.list number z in (both.0, leaves.0 both.1),
        λ (list, h). number_of_lem (withdraw_leave book.list number list) ∙ leaves.1 h,
      )

-- Document 02, Two: "an accepted call hands a book back in that order", whatever order the held list stands in: some batches, none lost or
-- doubled, each of which stands before every later one.
pub record HoldsInOrder (bs : List Batch) (book : Book) : Type 0 where
  pub rearranged : Perm bs (held_in book)
  pub order : InOrder book.list.opening (held_in book)

pub record HandsInOrder (book : Book) : Type 0 where
  pub adds : (b : Batch) → (add_answer book b).refusal.number ≡ 0 → HoldsInOrder (held_in book ++ (b ∷ [])) (add_answer book b).book
  pub withdraws : (number : ℕ) → (withdraw_answer book number).refusal.number ≡ 0 →
      HoldsInOrder (without number (held_in book)) (withdraw_answer book number).book
  pub plans : (size : ℕ) → (plan_answer book size).plan.refusal.number ≡ 0 → HoldsInOrder (held_in book) (plan_answer book size).book

holds_in_order : {t c : ℕ} {bs : List Batch} {book : Book} → Kept t c bs → book ≡ book_of t c bs → HoldsInOrder bs book
holds_in_order {t} {c} {bs} able is =
    let held : held_in (book_of t c bs) ≡ ordered t bs = written_batches t c (ordered t bs) in
    rw is record { rearranged = rw held (ordered_perm t bs); order = rw held (kept_in_order able) }

pub hands_in_order : (book : Book) → HandsInOrder book
unfolding plan_answer
hands_in_order book =
    let w = book.list in
    record {
      adds = λ b z.
          let (list, joins) = (add_accepts book b).0 z in
          holds_in_order (kept_more (formed_kept w list) joins)
          (add_book book b ∙ unless_passed _ _ _ (number_of_lem (sym (add_refusal book b)) ∙ z));
      withdraws = λ number z.
          let (list, held) = (withdraw_accepts book number).0 z in
          holds_in_order (kept_less (formed_kept w list) number)
          (withdraw_book book number ∙ unless_passed _ _ _ (number_of_lem (sym (withdraw_refusal book number)) ∙ z));
      plans = λ size z. holds_in_order (formed_kept w ((choose_plans w size).0 z).0) (unless_passed _ _ _ z);
    }

-- "1 and 2 (opening; a refused one hands back an empty book of week 0 to 0)", a list that is itself refused, by 1
pub open_refused : (t c : ℕ) → ((open_fault t c).number ≡ 0 → ⊥) → open_answer t c ≡ hands_back (empty_book 0 0) (open_fault t c)
open_refused t c n = (open_answers t c).refused refl n

pub empty_refused : list_fault (empty_week 0 0) ≡ refused 1 0 0
unfolding list_fault week_fault first_of first or_else refused_if
empty_refused = refl

-- "every other call first refuses a held list that is not well formed, as Choose would": with Choose's own refusal, whatever the size of a
-- table
pub record RefusesAsChoose (book : Book) (size : ℕ) : Type 0 where
  pub adds : (b : Batch) → add_answer book b ≡ hands_back book (choose_answer book.list size).refusal
  pub withdraws : (number : ℕ) → withdraw_answer book number ≡ hands_back book (choose_answer book.list size).refusal
  pub plans : plan_answer book size ≡ record { plan = choose_answer book.list size; book = book }

pub held_refused : (book : Book) → ((list_fault book.list).number ≡ 0 → ⊥) → (size : ℕ) → RefusesAsChoose book size
unfolding refused_plan
held_refused book n size =
    let w = book.list in
    let fault = sym (ap (λ (p : ChooseAnswer). p.refusal) (choose-refused w size (fill_list w size n) n)) in
    let refuses = refuses_too fault n in
    record {
      adds = λ b. (add_answers book b).refused (add_list w b n ∙ fault) refuses;
      withdraws = λ number. (withdraw_answers book number).refused (withdraw_list w number n ∙ fault) refuses;
      plans = plan_refused book size refl refuses;
    }

-- "a refused call leaves the book", also where it is 14 that refuses ..
pub record RefusedLeaves (book : Book) : Type 0 where
  pub adds : (b : Batch) → ((add_answer book b).refusal.number ≡ 0 → ⊥) → (add_answer book b).book ≡ book
  pub withdraws : (number : ℕ) → ((withdraw_answer book number).refusal.number ≡ 0 → ⊥) → (withdraw_answer book number).book ≡ book
  pub plans : (size : ℕ) → ((plan_answer book size).plan.refusal.number ≡ 0 → ⊥) → (plan_answer book size).book ≡ book

pub refused_leaves : (book : Book) → RefusedLeaves book
unfolding plan_answer
refused_leaves book =
    record {
      adds = λ b n. add_book book b ∙ unless_refused_lem _ _ _ (refuses_too (add_refusal book b) n);
      withdraws = λ number n. withdraw_book book number ∙ unless_refused_lem _ _ _ (refuses_too (withdraw_refusal book number) n);
      plans = λ size n. unless_refused_lem _ _ _ n;
    }

-- so after a refused opening every call is refused, by 1, and the book stays as it was handed back
empty_refuses : (size : ℕ) → RefusesAsChoose (empty_book 0 0) size
empty_refuses = held_refused (empty_book 0 0) (refuses_too (sym empty_refused) (λ z. omega arith))

empty_stays : (calls : List Call) → after_calls calls (empty_book 0 0) ≡ empty_book 0 0
empty_stays [] = refl
empty_stays (call ∷ calls) = ap (after_calls calls) (after call) ∙ empty_stays calls
  where
    after : (call : Call) → after_call call (empty_book 0 0) ≡ empty_book 0 0
    after (adds b) = ap (λ (a : CallAnswer). a.book) ((empty_refuses 0).adds b)
    after (withdraws number) = ap (λ (a : CallAnswer). a.book) ((empty_refuses 0).withdraws number)
    after (plans table) = ap (λ (p : PlanAnswer). p.book) (empty_refuses (length table)).plans

pub history_refused : (t c : ℕ) → ((open_fault t c).number ≡ 0 → ⊥) → (calls : List Call) →
    after_calls calls (open_answer t c).book ≡ empty_book 0 0
history_refused t c n calls = ap (λ (a : CallAnswer). after_calls calls a.book) (open_refused t c n) ∙ empty_stays calls

-- .. "and, unless it is the held list that is refused, names place 0"
abbrev InPlace0 : Refusal → Type 0
InPlace0 r = r.place ≡ 0

pub open_names_0 : (t c : ℕ) → (open_answer t c).refusal.place ≡ 0
open_names_0 t c = rw (open_refusal t c) (open_each InPlace0 refl refl refl t c)

pub record NamesPlace0 (book : Book) : Type 0 where
  pub adds : (b : Batch) → (add_answer book b).refusal.place ≡ 0
  pub withdraws : (number : ℕ) → (withdraw_answer book number).refusal.place ≡ 0
  pub plans : (size : ℕ) → (plan_answer book size).plan.refusal.place ≡ 0

module _ (book : Book) (list : WellFormed book.list) where
  pub names_0 : NamesPlace0 book
  unfolding plan_answer
  names_0 =
      record {
        adds = λ b. rw (add_refusal book b, add_join book.list b list) (join_each InPlace0 refl (λ _ _ _. refl) _ _ b refl);
        withdraws = λ number.
            rw (withdraw_refusal book number, withdraw_leave book.list number list) (leave_each InPlace0 refl refl _ number);
        plans = λ size. rw (choose_refusal book.list size) (choose_each InPlace0 refl refl refl book.list list size);
      }

  -- "add puts the batch in order, so 10 never occurs there"
  pub never_10 : (b : Batch) → (add_answer book b).refusal.number ≡ 10 → ⊥
  never_10 b =
      rw (add_refusal book b, add_join book.list b list)
      (join_each (λ r. r.number ≡ 10 → ⊥) (λ e. omega arith)
      (λ number recipe one e. true≢false (sym one ∙ ap (one_of new_numbers) e)) _ _ b (λ e. omega arith))
