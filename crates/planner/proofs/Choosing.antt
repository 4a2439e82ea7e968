-- Choose's answer: which refusal comes first, what is answered then, and what the table holds.
use Prim.Native.Nat.{ℕ, ◌+◌, ◌*◌, ◌/◌, ◌<◌, ◌≤◌}
use native.Mathlib.Decide.{ℕ_discrete}
use native.Mathlib.Nat.{mul-le-mul, div-lt_iff_lt-mul}
use native.Mathlib.Omega.{arith}
use mathlib.Core.Path.{◌≡◌, refl, sym, ap, ◌∙◌}
use mathlib.Core.Logic.Iff
use mathlib.Core.Logic.{◌↔◌, inl, inr, ⊎_elim}
use mathlib.Core.List.{List, [], ◌∷◌}
use mathlib.Core.Option.{Option, none, some}
use lib.ListN.{length}
use Rattle.arrays.proofs.Cases.{option_cases}
use Rattle.jobs.specs.Choice.{total}
use Rattle.jobs.specs.Best.{Chosen}
use Rattle.jobs.proofs.ChoiceArrays.{chosen_placed}
use Rattle.jobs.proofs.BestOfAll.{best_some}
use Rattle.select.specs.Table.{filled}
use Rattle.week.specs.declared.refusal.Refusal.{Refusal}
use Rattle.week.specs.Record.{Week, max_minutes}
use Rattle.week.specs.Refusal.{accepted, refused}
use Rattle.judge.specs.Fault.{list_fault, WellFormed}
use Rattle.week.proofs.First.{Proper, number_of_lem, refuses_too, first_of_here, first_of_last, first_of_proper, append_first, append_last}
use Rattle.week.proofs.Passes.{first_of_passes, short_proper, short_passes, short_refuses}
use Rattle.week.proofs.Answering.{Answers, answers, answers_name, unless_passed, unless_refused_lem}
use Rattle.judge.proofs.WellFormed.{list_proper}
use Rattle.judge.proofs.Sound.{sound}
use Rattle.planner.specs.Job.{job_list_of, week_jobs, week_choice}
use Rattle.planner.specs.Choose.{width_of, max_picks, table_fault, plan_fault, week_best, fill_faults, fill_fault, choose_fault}
use Rattle.planner.specs.Choose.{ChooseAnswer, refused_plan, plan_of, choose_answer, table_after, FillsTable, LongTable}
use Rattle.planner.proofs.Holding.{fill_other}

-- 14, where there is no best choice
pub plan_proper : (o : Option (List ℕ)) → Proper (plan_fault o)
plan_proper none z = absurd (omega arith)
plan_proper (some ks) z = refl

-- a plan's refusal is that of the best choice
plan_refusal : (w : Week) (o : Option (List ℕ)) → (plan_of w o).refusal ≡ plan_fault o
unfolding plan_of refused_plan
plan_refusal w none = refl
plan_refusal w (some ks) = refl

plan_none : (w : Week) → plan_of w none ≡ refused_plan (plan_fault none)
unfolding plan_of
plan_none w = refl

plan_number : {a b : ChooseAnswer} → a ≡ b → a.refusal.number ≡ b.refusal.number
plan_number e = ap (λ (p : ChooseAnswer). p.refusal.number) e

module _ (w : Week) (size : ℕ) where
  pub table_proper : Proper (table_fault w size)
  unfolding table_fault
  table_proper = short_proper 11 (w.count * width_of w) size refl

  pub long_table : LongTable w size ↔ (w.count * width_of w ≤ size)
  unfolding table_fault
  long_table = short_passes 11 (w.count * width_of w) size refl

  -- as a quotient tells, which is below n exactly where the size is below the product
  by_quotient : (size / width_of w < w.count) ↔ (size < w.count * width_of w)
  by_quotient = div-lt_iff_lt-mul (omega arith)

  pub quotient_short : size / width_of w < w.count → table_fault w size ≡ refused 11 0 0
  unfolding table_fault
  quotient_short less = short_refuses 11 (by_quotient.0 less)

  pub quotient_long : w.count ≤ size / width_of w → table_fault w size ≡ accepted
  quotient_long enough =
      let fits : size < w.count * width_of w → ⊥ = λ less. omega (arith, by_quotient.1 less) in
      long_table.1 (omega (arith, fits))

  -- a table of 16 × 2,401 bytes is, for every list
  pub picks_enough : WellFormed w → max_picks ≤ size → LongTable w size
  picks_enough list enough =
      let fine = sound w list in
      let width : width_of w ≤ max_minutes + 1 = omega (arith, fine.short) in
      long_table.1 (omega (arith, mul-le-mul fine.most width))

  -- what refuses the filling: the list, or the table
  pub fill_list : ((list_fault w).number ≡ 0 → ⊥) → fill_fault w size ≡ list_fault w
  unfolding fill_fault
  fill_list = first_of_here (list_fault w) (table_fault w size ∷ [])

  pub fill_table : (list_fault w).number ≡ 0 → fill_fault w size ≡ table_fault w size
  unfolding fill_fault
  fill_table z = first_of_last (list_fault w) (table_fault w size) z table_proper

  pub fill_faultless : ((fill_fault w size).number ≡ 0) ↔ (WellFormed w × LongTable w size)
  unfolding fill_fault
  fill_faultless = Iff.trans (first_of_passes _) (
    λ (list, (table, _)). (list_proper w list, table_proper table),
    λ (list, table). (number_of_lem list, (number_of_lem table, tt)),
  )

  -- the first refusal of Choose's order: what refuses the filling, or 14
  choose_fill : ((fill_fault w size).number ≡ 0 → ⊥) → choose_fault w size ≡ fill_fault w size
  unfolding choose_fault fill_fault
  choose_fill = append_first (fill_faults w size) (plan_fault (week_best w) ∷ [])

  choose_plan : (fill_fault w size).number ≡ 0 → choose_fault w size ≡ plan_fault (week_best w)
  unfolding choose_fault fill_fault
  choose_plan = append_last (fill_faults w size) (plan_fault (week_best w)) (plan_proper (week_best w))

  -- the answer
  choose_answers : Answers (choose_fault w size) refused_plan (plan_of w (week_best w)) (choose_answer w size)
  unfolding choose_answer
  choose_answers = answers _ _ _

  -- the refusal answered is the first of the order
  pub choose_refusal : (choose_answer w size).refusal ≡ choose_fault w size
  unfolding choose_fault refused_plan
  choose_refusal =
      answers_name choose_answers (λ (a : ChooseAnswer). a.refusal)
      (λ z. plan_refusal w (week_best w) ∙ plan_proper (week_best w) ((first_of_passes _).0 z).1.1.0) (λ r. refl) (first_of_proper _)

  -- where nothing refuses the filling, it is that of the best choice
  pub plan_fault_lem : (fill_fault w size).number ≡ 0 → (choose_answer w size).refusal ≡ plan_fault (week_best w)
  plan_fault_lem z = choose_refusal ∙ choose_plan z

  pub answer_fault : ((choose_answer w size).refusal.number ≡ 0 → ⊥) → choose_answer w size ≡ refused_plan (choose_fault w size)
  answer_fault n = choose_answers.refused refl (refuses_too choose_refusal n)

  pub plan_refused : {r : Refusal} → fill_fault w size ≡ r → (r.number ≡ 0 → ⊥) → choose_answer w size ≡ refused_plan r
  plan_refused e n = choose_answers.refused (choose_fill (refuses_too (sym e) n) ∙ e) n

  pub plan_passed : (fill_fault w size).number ≡ 0 → {o : Option (List ℕ)} → week_best w ≡ o → choose_answer w size ≡ plan_of w o
  plan_passed z {o = o} e = by_best o e
    where
      by_best : (o : Option (List ℕ)) → week_best w ≡ o → choose_answer w size ≡ plan_of w o
      by_best none e = choose_answers.refused (choose_plan z ∙ ap plan_fault e) (λ zero. omega arith) ∙ sym (plan_none w)
      by_best (some ks) e = choose_answers.passed (number_of_lem (choose_plan z ∙ ap plan_fault e)) ∙ ap (plan_of w) e

  -- it is a plan, or 14, exactly where nothing refuses the filling
  pub fills_faultless : FillsTable (choose_answer w size) ↔ ((fill_fault w size).number ≡ 0)
  unfolding plan_of refused_plan
  fills_faultless = (
    λ fills.
        elim (ℕ_discrete (fill_fault w size).number 0) [
          | yes z ↦ z
          | no n ↦
              let same = plan_number (plan_refused refl n) in
              absurd (⊎_elim (λ e. n (sym same ∙ e)) (λ e. fill_other w size n (sym same ∙ e)) fills)
        ],
    λ z.
        ⊎_elim (λ e. inr (plan_number (plan_passed z e))) (λ s. inl (plan_number (plan_passed z s.1))) (option_cases (week_best w)),
  )

  -- a plan is of a best choice, and 14 says that there is none
  pub plan_exists : (choose_answer w size).refusal.number ≡ 0 → (ks : List ℕ) × (week_best w ≡ some ks)
  unfolding plan_of refused_plan
  plan_exists z =
      let passed = fills_faultless.0 (inl z) in
      ⊎_elim (λ e. absurd (omega (arith, plan_number (plan_passed passed e)))) (λ s. s) (option_cases (week_best w))

  pub plan_absent : (choose_answer w size).refusal.number ≡ 14 → week_best w ≡ none
  unfolding plan_of
  plan_absent f =
      let passed = fills_faultless.0 (inr f) in
      ⊎_elim (λ e. e) (λ s. absurd (omega (arith, plan_number (plan_passed passed s.1)))) (option_cases (week_best w))

  -- a plan is the choice that demand 3 asks for, with its total
  pub plan_chosen : (choose_answer w size).refusal.number ≡ 0 →
      let choice = week_choice w (choose_answer w size).choice in
      Chosen (week_jobs w) w.closing choice × ((choose_answer w size).total ≡ total (week_jobs w) choice)
  unfolding plan_of
  plan_chosen z =
      let plan = plan_exists z in
      let chosen = best_some (week_jobs w) w.closing plan.0 plan.1 in
      let back = chosen_placed (job_list_of w) plan.0 chosen.valid in
      rw (plan_passed (fills_faultless.0 (inl z)) plan.1) (rw back chosen, rw back)

-- the table
module _ (w : Week) (table : List ℕ) where
  pub table_kept : {r : Refusal} → fill_fault w (length table) ≡ r → (r.number ≡ 0 → ⊥) → table_after w table ≡ table
  unfolding table_after
  table_kept e n = unless_refused_lem _ _ _ (refuses_too (sym e) n)

  pub table_filled : (fill_fault w (length table)).number ≡ 0 →
      table_after w table ≡ filled (week_jobs w) w.opening (width_of w) table
  unfolding table_after
  table_filled z = unless_passed _ _ _ z
