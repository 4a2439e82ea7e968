-- `plan_into` meets its contract: each return is one of the cases of `Calling`.
use borrow.Author.Rules.{rules}
use Prim.Native.Nat.{ℕ, ◌≤◌}
use native.Mathlib.Omega.{arith}
use mathlib.Core.Path.{◌≡◌, sym, ap, ap₂, ◌∙◌}
use mathlib.Core.List.{List, ◌++◌}
use lib.ListN.{length, take, drop}
use lib.IntN.{ℤ, pos}
use Rattle.std.specs.Prelude.{Ok}
use Rattle.week.specs.declared.refusal.Fault.{Fault}
use Rattle.week.specs.declared.refusal.Refusal.{Refusal}
use Rattle.week.specs.Record.{Week, max_batches}
use Rattle.week.specs.Ordered.{ordered_week}
use Rattle.week.specs.Refusal.{accepted, first_of}
use Rattle.week.specs.Fault.{number_of, numbers}
use Rattle.week.proofs.First.{number_of_lem, refuses_too}
use Rattle.week.proofs.Faults.{fault_refuses}
use Rattle.weekplan_c.specs.Call.{buffer_fault, lent_faults, keep_fault, call_fault, minus_of, answered, call_answer}
use Rattle.weekplan_c.specs.Call.{picks_after, recipes_after}
use Rattle.weekplan_c.proofs.Calling.{keep_sheet, keep_sizes, keep_faultless, call_keep, call_plan, long_buffer, call_answer_lem}
use Rattle.weekplan_c.proofs.Calling.{picks_filled, picks_kept, recipes_written, recipes_kept}
use Rattle.weekplan_c.proofs.plan_into.Goals as goal
use Rattle.judge.proofs.Sound.{sound}
use Rattle.judge.proofs.AnyOrder.{in_order_rearranged}
use Rattle.planner.specs.declared.choose.Plan.{Plan}
use Rattle.planner.specs.Choose.{ChooseAnswer, table_fault, refused_plan, chosen_answer, choose_answer, table_after}
use Rattle.planner.proofs.AnyOrder.{same_choose, same_table}
use Rattle.sheet.specs.List.{sheet_week}
use Rattle.sheet.specs.Read.{read_answer, answer_of}
use Rattle.sheet.proofs.Reading.{handed_fault, handed_week}

-- what is answered, and left in the table and in the buffer
module _ (sheet lent buffer : List ℕ) where
  abbrev Left : ℤ → List ℕ → List ℕ → Type 0
  Left given picks_now recipes_now = record {
    answer : given ≡ call_answer sheet (length lent) (length buffer);
    picks : picks_now ≡ picks_after sheet lent (length buffer);
    recipes : recipes_now ≡ recipes_after sheet (length lent) buffer;
  }

module _ (sheet picks recipes : List ℕ) where
  -- a refusal that keeps all that is lent
  kept : (fault : Fault) {given : ℤ} → keep_fault sheet (length picks) (length recipes) ≡ numbers fault →
      given ≡ minus_of (number_of fault.reason) → Left sheet picks recipes given picks recipes
  kept fault is minus =
      let other = fault_refuses fault in
      let keep = refuses_too (sym is) other in
      let call = call_keep sheet (length picks) (length recipes) keep in
      record {
        answer = minus ∙ sym ((call_answer_lem sheet (length picks) (length recipes)).refused (call ∙ is) other);
        picks = sym (picks_kept sheet picks recipes keep);
        recipes = sym (recipes_kept sheet picks recipes (refuses_too (sym call) keep));
      }

  -- a sheet is read: the sizes are judged, by the list in order as by the list
  sizes_judged : {w : Week} → answer_of (Ok w) ≡ read_answer sheet → {size : Refusal} →
      size ≡ first_of (lent_faults w (length picks) (length recipes)) → size ≡ keep_fault sheet (length picks) (length recipes)
  unfolding table_fault buffer_fault
  sizes_judged {w} read sizes =
      let week = handed_week sheet w read in
      rw week.1 at sizes ∙ sym (keep_sizes sheet (length picks) (length recipes) week.0)

  -- what holds once Choose has answered for w, the list in order, and the table is filled: `after` is what it holds then
  record Chosen (w : Week) (plan : ChooseAnswer) (after : List ℕ) : Type 0 where
    week : w ≡ ordered_week (sheet_week sheet)
    keep : (keep_fault sheet (length picks) (length recipes)).number ≡ 0
    plan_is : plan ≡ choose_answer (sheet_week sheet) (length picks)
    filled : after ≡ picks_after sheet picks (length recipes)

  chosen : {w : Week} {plan : ChooseAnswer} {after : List ℕ} → answer_of (Ok w) ≡ read_answer sheet →
      accepted ≡ first_of (lent_faults w (length picks) (length recipes)) → plan ≡ choose_answer w (length picks) →
      after ≡ table_after w picks → Chosen w plan after
  chosen {w} read sizes plan table =
      let week = (handed_week sheet w read).1 in
      let keep = number_of_lem (sym (sizes_judged read sizes)) in
      let list = ((keep_faultless sheet (length picks) (length recipes)).0 keep).0.list in
      let rearranged = in_order_rearranged (sheet_week sheet) list in
      record {
        week = week;
        keep = keep;
        plan_is = rw week at plan ∙ sym (same_choose rearranged list (length picks));
        filled = rw week at table ∙ sym (same_table rearranged list picks) ∙ sym (picks_filled sheet picks recipes keep);
      }

  module _ {w : Week} {after : List ℕ} where
    call_is : {plan : ChooseAnswer} → Chosen w plan after → call_fault sheet (length picks) (length recipes) ≡ plan.refusal
    call_is h = call_plan sheet (length picks) (length recipes) h.keep ∙ ap (λ (p : ChooseAnswer). p.refusal) (sym h.plan_is)

    -- the list has at most 16 batches, and the buffer has room for them
    rooms : {plan : ChooseAnswer} → Chosen w plan after → (w.count ≤ max_batches) × (w.count ≤ length recipes)
    rooms h =
        let passed = (keep_faultless sheet (length picks) (length recipes)).0 h.keep in
        let batches = ap (λ (w : Week). w.count) h.week in (
          omega (arith, batches, (sound _ passed.0.list).most),
          omega (arith, batches, (long_buffer sheet (length picks) (length recipes)).0 passed.2),
        )

    -- there is no plan
    refused : (fault : Fault) {given : ℤ} → Chosen w (refused_plan (numbers fault)) after → given ≡ minus_of (number_of fault.reason) →
        Left sheet picks recipes given after recipes
    unfolding refused_plan
    refused fault h minus =
        let other = fault_refuses fault in
        let call = call_is h in
        record {
          answer = minus ∙ sym ((call_answer_lem sheet (length picks) (length recipes)).refused call other);
          picks = h.filled;
          recipes = sym (recipes_kept sheet picks recipes (refuses_too (sym call) other));
        }

    -- there is one, and its recipes are written
    planned : {plan : Plan} {buffer : List ℕ} → Chosen w (chosen_answer (Ok plan)) after →
        buffer ≡ take w.count plan.choice ++ drop w.count recipes → Left sheet picks recipes (pos plan.total) after buffer
    planned h written =
        let none = number_of_lem (call_is h) in
        record {
          answer =
              ap (λ (p : ChooseAnswer). pos p.total) h.plan_is
              ∙ sym ((call_answer_lem sheet (length picks) (length recipes)).passed none);
          picks = h.filled;
          recipes =
              written
              ∙ ap₂ (λ (n : ℕ) (choice : List ℕ). take n choice ++ drop n recipes)
              (ap (λ (w : Week). w.count) h.week) (ap (λ (p : ChooseAnswer). p.choice) h.plan_is)
              ∙ sym (recipes_written sheet picks recipes none);
        }

pub returns-in_err-week : goal.returns-in_err-week
returns-in_err-week c =
    let fault = c.in_err-week.field-0.0 in
    let answer : answered c.from_residual.result ≡ minus_of (number_of fault.reason) = search rules in
    let sheet = handed_fault c.args.sheet.now fault c.in_err-week.ensures in
    kept _ _ _ fault (keep_sheet _ _ _ (refuses_too sheet (fault_refuses fault)) ∙ sym sheet) answer

pub returns-in_err-lent_fault : goal.returns-in_err-lent_fault
returns-in_err-lent_fault c =
    let fault = c.in_err-lent_fault.field-0.0 in
    let answer : answered c.from_residual-in_err-lent_fault.result ≡ minus_of (number_of fault.reason) = search rules in
    let sizes = sizes_judged c.args.sheet.now c.args.picks.now c.args.recipes.now c.in_ok-week.ensures c.in_err-lent_fault.ensures in
    kept _ _ _ fault (sym sizes) answer

pub returns-in_err-plan : goal.returns-in_err-plan
returns-in_err-plan c =
    let fault = c.in_err-plan.field-0.0 in
    let answer : answered c.from_residual-in_err-plan.result ≡ minus_of (number_of fault.reason) = search rules in
    let plan = c.in_err-plan.ensures in
    let a = c.args in
    let h = chosen a.sheet.now a.picks.now a.recipes.now c.in_ok-week.ensures c.in_ok-lent_fault.ensures plan.answer plan.table in
    refused _ _ _ fault h answer

pub write_recipes-requires : goal.write_recipes-requires
write_recipes-requires c =
    let plan = c.in_ok-plan.ensures in
    let a = c.args in
    rooms _ _ _ (chosen a.sheet.now a.picks.now a.recipes.now c.in_ok-week.ensures c.in_ok-lent_fault.ensures plan.answer plan.table)

pub returns : goal.returns
returns c =
    let plan = c.in_ok-plan.ensures in
    let a = c.args in
    let h = chosen a.sheet.now a.picks.now a.recipes.now c.in_ok-week.ensures c.in_ok-lent_fault.ensures plan.answer plan.table in
    planned _ _ _ h c.write_recipes.ensures
