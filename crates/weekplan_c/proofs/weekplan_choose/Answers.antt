-- `weekplan_choose` meets its contract: what the buyer demands follows from what `plan_into` answers and writes.
use Prim.Native.Nat.{ℕ, ◌*◌, ◌≤◌}
use native.Mathlib.Omega.{arith}
use mathlib.Core.Path.{◌≡◌, sym, ap, ◌∙◌}
use mathlib.Core.Logic.{◌↔◌}
use mathlib.Core.List.{List}
use lib.ListN.{length}
use lib.IntN.{ℤ, pos, nat_abs}
use mir.Syntax.{w32}
use mir.Facts.{to_z_pos, to_z-of_z}
use Rattle.arrays.specs.Bits.{max16}
use Rattle.week.specs.Record.{max_batches}
use Rattle.planner.specs.Choose.{SomePlan, NoPlan, LongTable}
use Rattle.sheet.specs.List.{sheet_week}
use Rattle.sheet.specs.Read.{WellWritten}
use Rattle.weekplan_c.specs.Call.{minus_of, call_answer, picks_after, recipes_after, Planned, BestCall, LongBuffer}
use Rattle.weekplan_c.proofs.Calling.{call_answer_lem, answer_small, planned_passes}
use Rattle.weekplan_c.proofs.Demands.{call_best, call_none, call_plans}
use Rattle.weekplan_c.proofs.weekplan_choose.Goals as goal

-- what the call promises of its answer, and of the table and the buffer after it: the last three follow from the first three
module _ (sheet lent buffer : List ℕ) where
  abbrev Promised : List ℕ → List ℕ → ℤ → Type 0
  Promised picks_now recipes_now total = record {
    answer : total ≡ call_answer sheet (length lent) (length buffer);
    picks : picks_now ≡ picks_after sheet lent (length buffer);
    recipes : recipes_now ≡ recipes_after sheet (length lent) buffer;
    best : Planned total → BestCall (sheet_week sheet) recipes_now total;
    none : (total ≡ minus_of 14)
        ↔ (WellWritten sheet × LongTable (sheet_week sheet) (length lent) × LongBuffer (sheet_week sheet) (length buffer)
        × NoPlan (sheet_week sheet));
    plans : Planned total
        ↔ (WellWritten sheet × LongTable (sheet_week sheet) (length lent) × LongBuffer (sheet_week sheet) (length buffer)
        × SomePlan (sheet_week sheet));
  }

module _ (sheet picks recipes : List ℕ) where
  promised : {table buffer : List ℕ} {total : ℤ} → total ≡ call_answer sheet (length picks) (length recipes) →
      table ≡ picks_after sheet picks (length recipes) → buffer ≡ recipes_after sheet (length picks) recipes →
      Promised sheet picks recipes table buffer total
  promised answered table buffer = record {
    answer = answered;
    picks = table;
    recipes = buffer;
    best = rw (answered, buffer) (call_best sheet picks recipes);
    none = rw answered (call_none sheet (length picks) (length recipes));
    plans = rw answered (call_plans sheet (length picks) (length recipes));
  }

  -- a total is small
  small : {total : ℕ} → pos total ≡ call_answer sheet (length picks) (length recipes) → total ≤ max_batches * max16
  small {total} e =
      let none = (planned_passes sheet (length picks) (length recipes)).0 (total, sym e) in
      rw (ap nat_abs (e ∙ (call_answer_lem sheet (length picks) (length recipes)).passed none))
      (answer_small sheet (length picks) (length recipes) none)

pub overflow_cast-result : goal.overflow_cast-result
overflow_cast-result c =
    record { sfits = omega (arith, small c.args.sheet.now c.args.picks.now c.args.recipes.now c.in-Ok.ensures.answer) }

pub returns-in-Ok : goal.returns-in-Ok
returns-in-Ok c =
    let sheet = c.args.sheet.now in
    let picks = c.args.picks.now in
    let recipes = c.args.recipes.now in
    promised sheet picks recipes
    (to_z_pos w32 (omega (arith, small sheet picks recipes c.in-Ok.ensures.answer)) ∙ c.in-Ok.ensures.answer)
    c.plan_into.ensures.picks c.plan_into.ensures.recipes

pub returns-in-Err : goal.returns-in-Err
returns-in-Err c =
    let sheet = c.args.sheet.now in
    let picks = c.args.picks.now in
    let recipes = c.args.recipes.now in
    promised sheet picks recipes
    (to_z-of_z {w = w32} (record { sfits = c.minus.type_inv }) ∙ c.minus.ensures ∙ ap minus_of c.number.ensures ∙ c.in-Err.ensures.answer)
    c.plan_into.ensures.picks c.plan_into.ensures.recipes
