-- Two sheets that are read, and whose lists are rearrangements of each other, get one answer, one table and one recipe buffer.
use Prim.Native.Nat.{ℕ}
use mathlib.Core.Path.{◌≡◌, sym, ap, ap₂, ◌∙◌}
use mathlib.Core.List.{List, [], ◌∷◌}
use lib.ListN.{length}
use Rattle.week.specs.declared.refusal.Refusal.{Refusal}
use Rattle.week.specs.Ordered.{Rearranged}
use Rattle.week.specs.Refusal.{or_else, first_of}
use Rattle.week.proofs.First.{first_of-append}
use Rattle.judge.proofs.AnyOrder.{one_order}
use Rattle.planner.specs.Job.{listed_jobs}
use Rattle.planner.specs.Choose.{table_fault, plan_fault, week_best}
use Rattle.planner.proofs.AnyOrder.{same_choose, same_table}
use Rattle.sheet.specs.List.{sheet_week}
use Rattle.sheet.specs.Read.{WellWritten}
use Rattle.sheet.proofs.WellWritten.{read_faultless}
use Rattle.weekplan_c.specs.Call.{buffer_fault, keep_faults, keep_fault, call_fault, call_answer, picks_after, recipes_after}
use Rattle.weekplan_c.proofs.Calling.{keep_sizes}

module _ (a b : List ℕ) (same : Rearranged (sheet_week a) (sheet_week b)) (read_a : WellWritten a) (read_b : WellWritten b) where
  module _ (table_size buffer_size : ℕ) where
    same_keep : keep_fault a table_size buffer_size ≡ keep_fault b table_size buffer_size
    unfolding table_fault buffer_fault
    same_keep =
        let opening = same.opening in
        let closing = same.closing in
        let count = same.count in
        let a_sizes = keep_sizes a table_size buffer_size ((read_faultless a).1 read_a) in
        let b_sizes = keep_sizes b table_size buffer_size ((read_faultless b).1 read_b) in
        cc

    same_plan : plan_fault (week_best (sheet_week a)) ≡ plan_fault (week_best (sheet_week b))
    same_plan =
        let jobs = ap listed_jobs (one_order same read_a.list) in
        let closing = same.closing in
        cc

    same_call : call_fault a table_size buffer_size ≡ call_fault b table_size buffer_size
    unfolding call_fault keep_fault
    same_call =
        first_of-append (keep_faults a table_size buffer_size) _
        ∙ ap₂ (λ (kept plan : Refusal). or_else kept (first_of (plan ∷ []))) same_keep same_plan
        ∙ sym (first_of-append (keep_faults b table_size buffer_size) _)

    pub same_answer : call_answer a table_size buffer_size ≡ call_answer b table_size buffer_size
    unfolding call_answer
    same_answer =
        let call = same_call in
        let plan = same_choose same read_a.list table_size in
        cc

  module _ (picks recipes : List ℕ) where
    pub same_picks : picks_after a picks (length recipes) ≡ picks_after b picks (length recipes)
    unfolding picks_after
    same_picks =
        let keep = same_keep (length picks) (length recipes) in
        let table = same_table same read_a.list picks in
        cc

    pub same_recipes : recipes_after a (length picks) recipes ≡ recipes_after b (length picks) recipes
    unfolding recipes_after
    same_recipes =
        let call = same_call (length picks) (length recipes) in
        let plan = same_choose same read_a.list (length picks) in
        let count = same.count in
        cc
