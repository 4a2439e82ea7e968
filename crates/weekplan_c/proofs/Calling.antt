-- The call's answer: which refusal comes first, what is answered then, and what the table and the buffer hold.
use Prim.Native.Nat.{ℕ, suc, ◌*◌, ◌-◌, ◌≤◌, min}
use native.Mathlib.Decide.{ℕ_discrete}
use native.Mathlib.Omega.{arith}
use mathlib.Core.Path.{◌≡◌, refl, sym, ap, ◌∙◌}
use mathlib.Core.Logic.Iff
use mathlib.Core.Logic.{◌↔◌, inl, inr, ⊎_elim}
use mathlib.Core.List.{List, [], ◌∷◌, ◌++◌}
use lib.ListN.{length, drop}
use lib.IntN.{ℤ, pos}
use Rattle.arrays.specs.Bits.{max16}
use Rattle.arrays.specs.Made.{tabulate}
use Rattle.arrays.proofs.Places.{length_padded}
use Rattle.arrays.proofs.Tabulates.{length_tabulate}
use Rattle.week.specs.declared.refusal.Refusal.{Refusal}
use Rattle.week.specs.Record.{Week, max_batches, empty_batch}
use Rattle.week.specs.Ordered.{ordered_week}
use Rattle.week.specs.Refusal.{first_of}
use Rattle.week.proofs.Owned.{WorthsFit}
use Rattle.week.proofs.OrderedEach.{ordered_worths}
use Rattle.week.proofs.First.{Proper, number_of_lem, refuses_too, append_first, append_last, append_rest}
use Rattle.week.proofs.Passes.{short_proper, first_of_passes, short_passes, append_passes}
use Rattle.week.proofs.Answering.{Answers, answers, unless_passed, unless_refused_lem}
use Rattle.judge.proofs.Sound.{sound}
use Rattle.planner.specs.Choose.{plan_fault, fill_fault, week_best, plan_choice, choose_answer, table_after, LongTable}
use Rattle.planner.proofs.Jobs.{handed_names, total_small, list_choice_lem}
use Rattle.planner.proofs.Demands.{choose_best, choose_names}
use Rattle.planner.proofs.Choosing.{fill_faultless, fills_faultless, plan_fault_lem, plan_proper, table_proper}
use Rattle.sheet.specs.Line.{lines_of, line_at}
use Rattle.sheet.specs.List.{batch_from, week_from, sheet_week}
use Rattle.sheet.specs.Read.{read_faults, read_fault, WellWritten}
use Rattle.sheet.proofs.Values.{worths_small}
use Rattle.sheet.proofs.WellWritten.{read_faultless}
use Rattle.weekplan_c.specs.Call.{buffer_fault, lent_faults, keep_faults, keep_fault, call_fault, minus_of, call_answer, picks_after}
use Rattle.weekplan_c.specs.Call.{recipes_after, Planned, CallFills, LongBuffer}
use Rattle.weekplan_c.proofs.Holding.{keep_other}
use Rattle.weekplan_c.proofs.Signed.{minus_injective, not_minus}

module _ (sheet : List ℕ) (table_size buffer_size : ℕ) where
  abbrev w : Week
  w = sheet_week sheet

  -- what refuses before anything is written, all that refuses, and the answer
  abbrev keep : Refusal
  keep = keep_fault sheet table_size buffer_size

  abbrev call : Refusal
  call = call_fault sheet table_size buffer_size

  abbrev answer : ℤ
  answer = call_answer sheet table_size buffer_size

  buffer_proper : Proper (buffer_fault w buffer_size)
  unfolding buffer_fault
  buffer_proper = short_proper 19 w.count buffer_size refl

  pub long_buffer : LongBuffer w buffer_size ↔ (w.count ≤ buffer_size)
  unfolding buffer_fault
  long_buffer = short_passes 19 w.count buffer_size refl

  -- what keeps all that is lent: the sheet refuses, ..
  pub keep_sheet : ((read_fault sheet).number ≡ 0 → ⊥) → keep ≡ read_fault sheet
  unfolding keep_fault read_fault
  keep_sheet = append_first (read_faults sheet) (lent_faults w table_size buffer_size)

  -- .. or the sizes do
  pub keep_sizes : (read_fault sheet).number ≡ 0 → keep ≡ first_of (lent_faults w table_size buffer_size)
  unfolding keep_fault read_fault
  keep_sizes = append_rest (read_faults sheet) (lent_faults w table_size buffer_size)

  pub keep_faultless :
      (keep.number ≡ 0) ↔ (WellWritten sheet × LongTable w table_size × LongBuffer w buffer_size)
  unfolding keep_fault read_fault
  keep_faultless = Iff.trans (append_passes (read_faults sheet) (lent_faults w table_size buffer_size)) (
    λ (read, lent).
        let (table, (buffer, _)) = (first_of_passes _).0 lent in
        ((read_faultless sheet).0 read, table_proper w table_size table, buffer_proper buffer),
    λ (read, table, buffer).
        ((read_faultless sheet).1 read, (first_of_passes _).1 (number_of_lem table, (number_of_lem buffer, tt))),
  )

  pub keep_fills : keep.number ≡ 0 → (fill_fault w table_size).number ≡ 0
  keep_fills z = let passed = keep_faultless.0 z in (fill_faultless w table_size).1 (passed.0.list, passed.1)

  -- the first refusal of the call's order
  pub call_keep : (keep.number ≡ 0 → ⊥) → call ≡ keep
  unfolding call_fault keep_fault
  call_keep = append_first (keep_faults sheet table_size buffer_size) (plan_fault (week_best w) ∷ [])

  -- where nothing refuses before, it is Choose's
  pub call_plan : keep.number ≡ 0 → call ≡ (choose_answer w table_size).refusal
  unfolding call_fault keep_fault
  call_plan z =
      append_last (keep_faults sheet table_size buffer_size) (plan_fault (week_best w)) (plan_proper (week_best w)) z
      ∙ sym (plan_fault_lem w table_size (keep_fills z))

  -- nothing refuses: not before anything is written, and there is a plan
  pub call_passed : call.number ≡ 0 →
      (keep.number ≡ 0) × ((choose_answer w table_size).refusal.number ≡ 0)
  call_passed z =
      elim (ℕ_discrete keep.number 0)
      [ yes e ↦ (e, number_of_lem (sym (call_plan e)) ∙ z) | no n ↦ absurd (refuses_too (sym (call_keep n)) n z) ]

  -- 14 is Choose's
  pub call_no_plan : call.number ≡ 14 →
      (keep.number ≡ 0) × ((choose_answer w table_size).refusal.number ≡ 14)
  call_no_plan f =
      elim (ℕ_discrete keep.number 0) [
        | yes z ↦ (z, number_of_lem (sym (call_plan z)) ∙ f)
        | no n ↦ absurd (keep_other sheet table_size buffer_size n (number_of_lem (sym (call_keep n)) ∙ f))
      ]

  pub call_answer_lem : Answers call (λ r. minus_of r.number) (pos (choose_answer w table_size).total) answer
  unfolding call_answer
  call_answer_lem = answers _ _ _

  -- each worth of a sheet has two bytes, in its list in order as in the list
  ordered_small : WorthsFit (ordered_week w)
  unfolding week_from
  ordered_small =
      let n = min (length (lines_of sheet) - 1) max_batches in
      let batch = (λ (i : ℕ). batch_from (line_at (lines_of sheet) (suc i))) in
      let few : length (tabulate batch 0 n) ≤ max_batches = omega (arith, length_tabulate batch 0 n) in
      ordered_worths w (length_padded max_batches empty_batch (tabulate batch 0 n) few) (worths_small sheet)

  -- so that a total is at most 1,048,560
  pub answer_small : call.number ≡ 0 → (choose_answer w table_size).total ≤ max_batches * max16
  answer_small z =
      let passed = call_passed z in
      let fine = sound w (keep_faultless.0 passed.0).0.list in
      let names = handed_names w fine (choose_names w table_size passed.1) in
      rw (choose_best w table_size passed.1).summed
      (rw (list_choice_lem w (choose_answer w table_size).choice) at (total_small w fine ordered_small names))

  -- it is a total exactly where nothing refuses
  pub planned_passes : Planned answer ↔ (call.number ≡ 0)
  planned_passes = (
    λ planned.
        elim (ℕ_discrete call.number 0)
        [ yes z ↦ z | no n ↦ absurd (not_minus _ n (sym (call_answer_lem.refused refl n) ∙ planned.1)) ],
    λ z. ((choose_answer w table_size).total, call_answer_lem.passed z),
  )

  -- minus 14 is the answer exactly where 14 is the first refusal
  pub answer_no_plan : (answer ≡ minus_of 14) ↔ (call.number ≡ 14)
  answer_no_plan = (
    λ e.
        elim (ℕ_discrete call.number 0) [
          | yes z ↦ absurd (not_minus 14 (λ f. omega arith) (sym e ∙ call_answer_lem.passed z))
          | no n ↦ minus_injective (sym (call_answer_lem.refused refl n) ∙ e)
        ],
    λ f. call_answer_lem.refused refl (λ z. omega arith) ∙ ap minus_of f,
  )

  -- a total or minus 14 is the answer exactly where nothing refuses before anything is written
  pub fills_keep_faultless : CallFills answer ↔ (keep.number ≡ 0)
  fills_keep_faultless = (
    λ fills. ⊎_elim (λ p. (call_passed (planned_passes.0 p)).0) (λ e. (call_no_plan (answer_no_plan.0 e)).0) fills,
    λ z.
        let same = number_of_lem (call_plan z) in
        ⊎_elim (λ e. inl (planned_passes.1 (same ∙ e))) (λ e. inr (answer_no_plan.1 (same ∙ e)))
        ((fills_faultless w table_size).1 (keep_fills z)),
  )

-- the table and the buffer
module _ (sheet picks recipes : List ℕ) where
  pub picks_kept : ((keep_fault sheet (length picks) (length recipes)).number ≡ 0 → ⊥) →
      picks_after sheet picks (length recipes) ≡ picks
  unfolding picks_after
  picks_kept n = unless_refused_lem _ _ _ n

  pub picks_filled : (keep_fault sheet (length picks) (length recipes)).number ≡ 0 →
      picks_after sheet picks (length recipes) ≡ table_after (sheet_week sheet) picks
  unfolding picks_after
  picks_filled z = unless_passed _ _ _ z

  pub recipes_written : (call_fault sheet (length picks) (length recipes)).number ≡ 0 →
      let w = sheet_week sheet in
      recipes_after sheet (length picks) recipes ≡ plan_choice w (choose_answer w (length picks)) ++ drop w.count recipes
  unfolding recipes_after
  recipes_written z = unless_passed _ _ _ z

  pub recipes_kept : ((call_fault sheet (length picks) (length recipes)).number ≡ 0 → ⊥) →
      recipes_after sheet (length picks) recipes ≡ recipes
  unfolding recipes_after
  recipes_kept n = unless_refused_lem _ _ _ n
