-- A book after its opening: it holds the batches that are collected without a book, in order and freshly written, and these can always
-- make a list. Each call keeps that.
use Prim.Native.Nat.{ℕ, ◌≤◌}
use native.Mathlib.Omega.{arith}
use mathlib.Core.Path.{◌≡◌, refl, sym, ap, ap₂, ◌∙◌}
use mathlib.Core.List.{List, [], ◌∷◌, ◌++◌, map, append-nil}
use lib.ListN.{length, length-append}
use lib.Seq.{append_snoc}
use Rattle.arrays.specs.Each.{All}
use Rattle.arrays.specs.Rearranged.{Perm}
use Rattle.arrays.proofs.Pairs.{all_map, all_append, pairs_middle}
use Rattle.arrays.proofs.Rearranges.{perm-length, perm_middle}
use Rattle.week.specs.declared.record.Batch.{Batch}
use Rattle.week.specs.declared.refusal.Refusal.{Refusal}
use Rattle.week.specs.Record.{Week, max_batches}
use Rattle.week.specs.Refusal.{accepted, unless_refused}
use Rattle.week.specs.Order.{InOrder, among, ordered}
use Rattle.week.specs.Numbers.{Others, without}
use Rattle.week.specs.Written.{batches_of, written}
use Rattle.week.proofs.First.{number_of_lem}
use Rattle.week.proofs.Answering.{unless_passed, unless_both, unless-map}
use Rattle.week.proofs.Ordering.{ordered_perm, ordered_in_order, ordered_same}
use Rattle.week.proofs.Without.{without-length, without_perm}
use Rattle.week.proofs.Writing.{written_batches}
use Rattle.judge.specs.Fault.{WellFormed}
use Rattle.judge.specs.Fit.{Fit}
use Rattle.judge.proofs.WellFormed.{minutes_passes}
use Rattle.judge.proofs.Fit.{list_fit, list_counted, fit_perm, fit_more, fit_without}
use Rattle.judge.proofs.Written.{written_passes}
use Rattle.planner.specs.Choose.{choose_answer}
use Rattle.book.specs.declared.book.Book.{Book}
use Rattle.book.specs.Fault.{open_fault, join_fault, leave_fault, add_fault, withdraw_fault}
use Rattle.book.specs.Answer.{CallAnswer, held_in, holding, open_answer, plan_answer}
use Rattle.book.specs.Joins.{Joins}
use Rattle.book.specs.History.{Call, adds, withdraws, plans, after_call, after_calls, collected_by, collected}
use Rattle.book.proofs.Faults.{add_join, withdraw_leave}
use Rattle.book.proofs.Answering.{open_answers}
use Rattle.book.proofs.HandedBack.{add_book, withdraw_book}
use Rattle.book.proofs.Joining.{join_passes, join_perm, leave_perm, ordered_joined}

-- batches that can make a list, in the week from t to c
pub record Kept (t c : ℕ) (bs : List Batch) : Type 0 where
  pub most : length bs ≤ max_batches
  pub fit : Fit t c bs

-- the book that holds them
abbrev pub book_of : (t c : ℕ) → List Batch → Book
book_of t c bs = record { list = written t c (ordered t bs) }

-- those of a list that is well formed are such
pub formed_kept : (w : Week) → WellFormed w → Kept w.opening w.closing (batches_of w)
formed_kept w list =
    let counted = list_counted w list in
    let passed = (list_fit w counted).0 list in
    record { most = omega (arith, counted, passed.0); fit = passed.1 }

module _ {t c : ℕ} {bs : List Batch} (kept : Kept t c bs) where
  -- ---- the list that the book holds
  pub kept_most : length (ordered t bs) ≤ max_batches
  kept_most = omega (arith, perm-length (ordered_perm t bs), kept.most)

  pub kept_in_order : InOrder t (ordered t bs)
  kept_in_order = ordered_in_order t bs kept.fit.differ

  pub kept_passes : WellFormed (written t c (ordered t bs))
  kept_passes = (written_passes t c (ordered t bs) kept_most).1 (fit_perm (ordered_perm t bs) kept.fit)

  -- ---- what refuses a call is said over the collection
  pub kept_adds : (b : Batch) → add_fault (written t c (ordered t bs)) b ≡ join_fault c bs b
  kept_adds b =
      add_join (written t c (ordered t bs)) b kept_passes
      ∙ ap (λ (cs : List Batch). join_fault c cs b) (written_batches t c (ordered t bs))
      ∙ sym (join_perm (ordered_perm t bs) c b)

  pub kept_withdraws : (number : ℕ) → withdraw_fault (written t c (ordered t bs)) number ≡ leave_fault bs number
  kept_withdraws number =
      withdraw_leave (written t c (ordered t bs)) number kept_passes
      ∙ ap (λ (cs : List Batch). leave_fault cs number) (written_batches t c (ordered t bs))
      ∙ sym (leave_perm (ordered_perm t bs) number)

  -- ---- a call
  -- those of a number left out
  pub kept_less : (number : ℕ) → Kept t c (without number bs)
  kept_less number = record { most = omega (arith, without-length number bs, kept.most); fit = fit_without number kept.fit }

  -- the next book holds what f makes of the list, in order, as the next collection is
  next_book : (f : List Batch → List Batch) (cs : List Batch) → ordered t cs ≡ ordered t (f (ordered t bs)) →
      holding (book_of t c bs) (f (held_in (book_of t c bs))) ≡ book_of t c cs
  next_book f cs e =
      ap (λ (ds : List Batch). holding (book_of t c bs) (f ds)) (written_batches t c (ordered t bs))
      ∙ ap (λ (ds : List Batch). record { list = written t c ds }) (sym e)

  -- it is handed back, or the book
  either_book : {fault : Refusal} (other : Refusal) {next : Book} (cs : List Batch) → fault ≡ other → next ≡ book_of t c cs →
      unless_refused fault next (book_of t c bs) ≡ book_of t c (unless_refused other cs bs)
  either_book other cs same e =
      ap₂ (λ (r : Refusal) (book : Book). unless_refused r book (book_of t c bs)) same e ∙ unless-map (book_of t c) other cs bs

  pub call_book : (call : Call) → after_call call (book_of t c bs) ≡ book_of t c (collected_by c call bs)
  unfolding plan_answer
  call_book (adds b) =
      add_book (book_of t c bs) b
      ∙ either_book (join_fault c bs b) (bs ++ (b ∷ [])) (kept_adds b)
      (next_book (λ ds. ds ++ (b ∷ [])) (bs ++ (b ∷ [])) (ordered_joined (ordered_perm t bs) t kept.fit.differ b))
  call_book (withdraws number) =
      withdraw_book (book_of t c bs) number
      ∙ either_book (leave_fault bs number) (without number bs) (kept_withdraws number)
      (next_book (without number) (without number bs)
      (ordered_same t (kept_less number).fit.differ (without_perm number (ordered_perm t bs))))
  call_book (plans table) =
      unless_both (λ (book : Book). book ≡ book_of t c bs) (choose_answer (written t c (ordered t bs)) (length table)).refusal
      (λ _. next_book (λ ds. ds) bs (ordered_same t kept.fit.differ (ordered_perm t bs))) refl

  -- one more that may join
  pub kept_more : {b : Batch} → Joins c bs b → Kept t c (bs ++ (b ∷ []))
  kept_more {b} joins =
      let others : All (Others b) bs = all_map (λ x other e. other (sym e)) bs joins.new in
      let last : Perm (b ∷ bs) (bs ++ (b ∷ [])) = rw append-nil at (perm_middle b bs []) in
      record {
        most = omega (arith, joins.room, length-append bs (b ∷ []));
        fit = fit_perm last (fit_more joins.fair joins.numbered others kept.fit);
      }

  pub call_kept : (call : Call) → Kept t c (collected_by c call bs)
  call_kept (adds b) = unless_both (Kept t c) (join_fault c bs b) (λ z. kept_more ((join_passes c bs b).0 z)) kept
  call_kept (withdraws number) = unless_both (Kept t c) (leave_fault bs number) (λ _. kept_less number) kept
  call_kept (plans table) = kept

module _ {t c : ℕ} where
  -- ---- several calls
  pub calls_kept : (calls : List Call) {bs : List Batch} → Kept t c bs → Kept t c (collected c calls bs)
  calls_kept [] kept = kept
  calls_kept (call ∷ calls) kept = calls_kept calls (call_kept kept call)

  pub calls_book : (calls : List Call) {bs : List Batch} → Kept t c bs →
      after_calls calls (book_of t c bs) ≡ book_of t c (collected c calls bs)
  calls_book [] kept = refl
  calls_book (call ∷ calls) kept = ap (after_calls calls) (call_book kept call) ∙ calls_book calls (call_kept kept call)

  -- ---- the opening
  module _ (opened : open_fault t c ≡ accepted) where
    pub open_kept : Kept t c []
    unfolding open_fault
    open_kept =
        let (opens, short) = (minutes_passes t c).0 (number_of_lem opened) in
        record {
          most = omega arith;
          fit = record { opens = opens; short = short; fair = tt; numbered = tt; differ = tt };
        }

    pub open_book : (open_answer t c).book ≡ book_of t c []
    unfolding ordered among
    open_book = ap (λ (a : CallAnswer). a.book) ((open_answers t c).passed (number_of_lem opened))

-- ---- what is collected
module _ (c : ℕ) where
  -- call after call
  pub collected-append : (calls more : List Call) (bs : List Batch) →
      collected c (calls ++ more) bs ≡ collected c more (collected c calls bs)
  collected-append [] more bs = refl
  collected-append (call ∷ calls) more bs = collected-append calls more (collected_by c call bs)

  -- batches that can make a list with those held are all taken
  pub all_taken : {t : ℕ} (bs held : List Batch) → Kept t c (held ++ bs) → collected c (map adds bs) held ≡ held ++ bs
  all_taken [] held kept = sym (append-nil held)
  all_taken {t} (b ∷ bs) held kept =
      let fit = kept.fit in
      let joins : Joins c held b =
      record {
        room = omega (arith, kept.most, length-append held (b ∷ bs));
        fair = ((all_append _ held (b ∷ bs)).0 fit.fair).1.0;
        numbered = ((all_append _ held (b ∷ bs)).0 fit.numbered).1.0;
        new = pairs_middle Others held b bs fit.differ;
      } in
      let taken = unless_passed (join_fault c held b) (held ++ (b ∷ [])) held ((join_passes c held b).1 joins) in
      let rest : Kept t c (held ++ (b ∷ []) ++ bs) = rw append_snoc kept in
      ap (collected c (map adds bs)) taken ∙ all_taken bs (held ++ (b ∷ [])) rest ∙ append_snoc held b bs
