-- What the buyer demands of the control program's call, each demand's sentence above its theorem. The contract of `weekplan_choose`
-- says that it answers `call_answer` and leaves `picks_after` and `recipes_after` on every input; the theorems here say that these are
-- what the buyer asks for.
use Prim.Native.Nat.{ℕ, ◌≤◌}
use native.Mathlib.Decide.{ℕ_discrete}
use native.Mathlib.Omega.{arith}
use mathlib.Core.Path.{◌≡◌, refl, sym, ap, ◌∙◌}
use mathlib.Core.Logic.{◌↔◌, ◌⊎◌, inl, inr}
use mathlib.Core.Bool.{true}
use mathlib.Core.List.{List}
use lib.ListN.{length, get_or, drop}
use lib.IntN.{ℤ, pos, nat_abs}
use lib.Seq.{take_at}
use Rattle.arrays.specs.Sum.{sum_to}
use Rattle.arrays.proofs.Front.{length_kept, later_kept}
use Rattle.week.specs.Record.{Week, max_batches}
use Rattle.week.specs.Ordered.{Rearranged}
use Rattle.week.specs.RefusalOrder.{one_of, AtFault}
use Rattle.week.proofs.First.{number_of_lem}
use Rattle.week.proofs.Naming.{at_fault}
use Rattle.judge.proofs.Sound.{sound}
use Rattle.planner.specs.Job.{list_choice}
use Rattle.planner.specs.Choose.{max_picks, plan_choice, choose_answer, PicksTable, SomePlan, NoPlan, LongTable}
use Rattle.planner.specs.Written.{chosen_worth}
use Rattle.planner.specs.Run.{run_answer, LongLog}
use Rattle.planner.proofs.Choosing.{picks_enough, fills_faultless}
use Rattle.planner.proofs.Demands.{choose_fills, choose_names, choose_total, choose_runs, choose_best, choose_none, choose_plans}
use Rattle.planner.proofs.Jobs.{list_choice_lem}
use Rattle.sheet.specs.Line.{lines_of}
use Rattle.sheet.specs.List.{sheet_week}
use Rattle.sheet.specs.Read.{WellWritten}
use Rattle.weekplan_c.specs.Call.{call_fault, minus_of, call_answer, picks_after, recipes_after, Planned, CallFills}
use Rattle.weekplan_c.specs.Call.{BestCall, LongBuffer}
use Rattle.weekplan_c.specs.Holds.{CallHolds, call_numbers}
use Rattle.weekplan_c.proofs.Holding.{call_holds, call_naming}
use Rattle.weekplan_c.proofs.Calling.{keep_faultless, keep_fills, call_plan, call_passed}
use Rattle.weekplan_c.proofs.Calling.{call_answer_lem, long_buffer, answer_small, planned_passes, answer_no_plan, call_no_plan}
use Rattle.weekplan_c.proofs.Calling.{fills_keep_faultless, picks_filled, picks_kept, recipes_written, recipes_kept}
use Rattle.weekplan_c.proofs.AnyOrder.{same_answer, same_picks, same_recipes}

module _ (sheet : List ℕ) (table_size buffer_size : ℕ) where
  -- Demand 1: "The answer to any list of batches, in order or damaged, is either a plan or one numbered refusal, which says which batch is
  -- at fault where a batch is." 01 gives the call the number alone, "minus the refusal number". Any bytes get a total, or minus the number
  -- of the first refusal of the call's order ..
  pub call_refuses : (Planned (call_answer sheet table_size buffer_size) → ⊥) →
      call_answer sheet table_size buffer_size ≡ minus_of (call_fault sheet table_size buffer_size).number
  call_refuses n = (call_answer_lem sheet table_size buffer_size).refused refl (λ z. n ((planned_passes sheet table_size buffer_size).1 z))

  -- .. whose condition holds, and none that stands before it does ..
  pub call_at_fault :
      AtFault (CallHolds sheet table_size buffer_size) call_numbers (sheet_week sheet).count (length (lines_of sheet))
      (call_fault sheet table_size buffer_size)
  call_at_fault = at_fault (call_holds sheet table_size buffer_size) (call_naming sheet table_size buffer_size)

  -- .. and which is one of 1 to 9, 11, 14 and 16 to 19.
  pub call_answers :
      Planned (call_answer sheet table_size buffer_size)
      ⊎ ((n : ℕ) × (one_of call_numbers n ≡ true) × (call_answer sheet table_size buffer_size ≡ minus_of n))
  call_answers =
      elim (ℕ_discrete (call_fault sheet table_size buffer_size).number 0) [
        | yes z ↦ inl ((planned_passes sheet table_size buffer_size).1 z)
        | no n ↦
            inr (
              (call_fault sheet table_size buffer_size).number,
              (call_at_fault.names n).number,
              (call_answer_lem sheet table_size buffer_size).refused refl n,
            )
      ]

module _ (sheet picks recipes : List ℕ) where
  abbrev w : Week
  w = sheet_week sheet

  abbrev answer : ℤ
  answer = call_answer sheet (length picks) (length recipes)

  -- "A refused call alters no memory it was lent, but for the one table that document 01 names."
  pub call_keeps_recipes : (Planned answer → ⊥) → recipes_after sheet (length picks) recipes ≡ recipes
  call_keeps_recipes n = recipes_kept sheet picks recipes (λ z. n ((planned_passes sheet (length picks) (length recipes)).1 z))

  pub call_keeps_picks : (CallFills answer → ⊥) → picks_after sheet picks (length recipes) ≡ picks
  call_keeps_picks n = picks_kept sheet picks recipes (λ z. n ((fills_keep_faultless sheet (length picks) (length recipes)).1 z))

  -- That table, where the call answers a total or minus 14: each of its bytes is what 01 says of it.
  pub call_fills : CallFills answer → PicksTable w picks (picks_after sheet picks (length recipes))
  call_fills fills =
      let none = (fills_keep_faultless sheet (length picks) (length recipes)).0 fills in
      rw (picks_filled sheet picks recipes none)
      (choose_fills w picks ((fills_faultless w (length picks)).1 (keep_fills sheet (length picks) (length recipes) none)))

  -- A plan.
  module _ (planned : Planned answer) where
    none : (call_fault sheet (length picks) (length recipes)).number ≡ 0
    none = (planned_passes sheet (length picks) (length recipes)).0 planned

    chosen : (choose_answer w (length picks)).refusal.number ≡ 0
    chosen = (call_passed sheet (length picks) (length recipes) none).1

    abbrev plan : List ℕ
    plan = plan_choice w (choose_answer w (length picks))

    whole : length plan ≡ w.count
    whole = (choose_names w (length picks) chosen).whole

    long : w.count ≤ length recipes
    long =
        let kept = (call_passed sheet (length picks) (length recipes) none).0 in
        let passed = (keep_faultless sheet (length picks) (length recipes)).0 kept in
        (long_buffer sheet (length picks) (length recipes)).0 passed.2

    -- 01: totals are "answered in 32" bits; the greatest is 16 × 65,535.
    pub call_total_small : planned.0 ≤ 1048560
    call_total_small =
        omega (
          arith,
          answer_small sheet (length picks) (length recipes) none,
          ap nat_abs (sym planned.1 ∙ (call_answer_lem sheet (length picks) (length recipes)).passed none),
        )

    -- "Acceptance writes one byte a batch and keeps the rest of that buffer."
    pub call_writes : list_choice w (recipes_after sheet (length picks) recipes) ≡ plan
    call_writes = rw (recipes_written sheet picks recipes none) (take_at plan (drop w.count recipes) w.count whole)

    pub call_keeps_rest :
        (length (recipes_after sheet (length picks) recipes) ≡ length recipes)
        × ((e : ℕ) → w.count ≤ e → get_or (recipes_after sheet (length picks) recipes) e 0 ≡ get_or recipes e 0)
    call_keeps_rest =
        rw (recipes_written sheet picks recipes none)
        (length_kept plan recipes w.count whole long, later_kept plan recipes w.count whole 0)

    -- Demand 3: "the total answered is the sum of its recipes' worths", those that the desk wrote.
    pub call_total :
        answer ≡ pos (sum_to (chosen_worth w (list_choice w (recipes_after sheet (length picks) recipes))) w.count)
    call_total =
        (call_answer_lem sheet (length picks) (length recipes)).passed none
        ∙ ap pos (rw call_writes (choose_total w (length picks) chosen))

    -- "Whatever list a plan is chosen for, the plan meets the rule, and the total answered is the sum of its recipes' worths. Every other
    -- choice of one recipe a batch that meets the rule has a smaller total, or the same total and a higher recipe number at the last batch
    -- where the two differ." "In the station's run of the chosen plan, the minutes that each batch gets before its stretch ends number
    -- exactly its recipe's minutes."
    pub call_best : BestCall w (recipes_after sheet (length picks) recipes) answer
    call_best =
        let best = choose_best w (length picks) chosen in
        let same = list_choice_lem w (choose_answer w (length picks)).choice in
        record {
          chosen = rw (call_writes, same) best.chosen;
          summed = rw (call_writes, same) ((call_answer_lem sheet (length picks) (length recipes)).passed none ∙ ap pos best.summed);
          in_time = rw call_writes best.in_time;
        }

    -- 01: "Run with the same list, with that plan as its choice and with a log that 12 does not catch": Run takes it.
    pub call_runs : (log : List ℕ) → LongLog w (length log) →
        (run_answer w (list_choice w (recipes_after sheet (length picks) recipes)) (length log)).refusal.number ≡ 0
    call_runs = rw call_writes (choose_runs w (length picks) chosen)

module _ (sheet : List ℕ) (table_size buffer_size : ℕ) where
  -- "A well-formed list, with a table long enough (and a recipe buffer long enough, where one is lent), is refused for want of a plan
  -- exactly when no choice meets the rule" ..
  pub call_none :
      (call_answer sheet table_size buffer_size ≡ minus_of 14)
      ↔ (WellWritten sheet × LongTable (sheet_week sheet) table_size × LongBuffer (sheet_week sheet) buffer_size × NoPlan (sheet_week sheet))
  call_none = (
    λ e.
        let no = call_no_plan sheet table_size buffer_size ((answer_no_plan sheet table_size buffer_size).0 e) in
        let passed = (keep_faultless sheet table_size buffer_size).0 no.0 in
        (passed.0, passed.1, passed.2, ((choose_none (sheet_week sheet) table_size).0 no.1).2),
    λ h.
        let passed = (keep_faultless sheet table_size buffer_size).1 (h.0, h.1, h.2) in
        let fourteen = (choose_none (sheet_week sheet) table_size).1 (h.0.list, h.1, h.3) in
        (answer_no_plan sheet table_size buffer_size).1 (number_of_lem (call_plan sheet table_size buffer_size passed) ∙ fourteen),
  )

  -- .. "and is given a plan whenever one does." 01: "and nothing else is refused".
  pub call_plans :
      Planned (call_answer sheet table_size buffer_size)
      ↔ (WellWritten sheet × LongTable (sheet_week sheet) table_size × LongBuffer (sheet_week sheet) buffer_size × SomePlan (sheet_week sheet))
  call_plans = (
    λ planned.
        let none = call_passed sheet table_size buffer_size ((planned_passes sheet table_size buffer_size).0 planned) in
        let passed = (keep_faultless sheet table_size buffer_size).0 none.0 in
        (passed.0, passed.1, passed.2, ((choose_plans (sheet_week sheet) table_size).0 none.1).2),
    λ h.
        let passed = (keep_faultless sheet table_size buffer_size).1 (h.0, h.1, h.2) in
        let planned = (choose_plans (sheet_week sheet) table_size).1 (h.0.list, h.1, h.3) in
        (planned_passes sheet table_size buffer_size).1 (number_of_lem (call_plan sheet table_size buffer_size passed) ∙ planned),
  )

  -- include/weekplan.h: 16 × 2,401 bytes of table and 16 of buffer are enough for every list.
  pub call_enough : WellWritten sheet → max_picks ≤ table_size → max_batches ≤ buffer_size →
      LongTable (sheet_week sheet) table_size × LongBuffer (sheet_week sheet) buffer_size
  call_enough written picks recipes = (
    picks_enough (sheet_week sheet) table_size written.list picks,
    (long_buffer sheet table_size buffer_size).1 (omega (arith, (sound (sheet_week sheet) written.list).most)),
  )

-- 02: "Sheets may come in any order as well. Choices, answers, tables, logs and the recipe buffer follow the ordered list": two sheets that
-- are well written, and whose lists are rearrangements of each other, get one answer, one table and one recipe buffer.
pub call_any_order : (a b : List ℕ) → Rearranged (sheet_week a) (sheet_week b) → WellWritten a → WellWritten b →
    (picks recipes : List ℕ) →
    (call_answer a (length picks) (length recipes) ≡ call_answer b (length picks) (length recipes))
    × (picks_after a picks (length recipes) ≡ picks_after b picks (length recipes))
    × (recipes_after a (length picks) recipes ≡ recipes_after b (length picks) recipes)
call_any_order a b same read_a read_b picks recipes = (
  same_answer a b same read_a read_b (length picks) (length recipes),
  same_picks a b same read_a read_b picks recipes,
  same_recipes a b same read_a read_b picks recipes,
)
