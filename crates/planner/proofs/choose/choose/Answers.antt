-- `choose` meets its contract: each return is one of the cases of `Choosing`, and what the buyer asks follows.
use Prim.Native.Nat.{ℕ, ◌*◌, ◌≤◌}
use Rattle.std.specs.Prelude.{Option, Some, None}
use Rattle.std.proofs.lemmas.Result.{err_from_is_err_and}
use native.Mathlib.Omega.{arith}
use mathlib.Core.Path.{◌≡◌, refl, sym, ap, ◌∙◌}
use mathlib.Core.Logic.{◌↔◌}
use mathlib.Core.List.{List}
use lib.ListN.{length}
use Rattle.jobs.specs.declared.model.JobList.{JobList}
use Rattle.jobs.specs.Model.{jobs_of}
use Rattle.jobs.specs.Best.{best}
use Rattle.select.specs.Table.{filled}
use Rattle.select.specs.Contract.{best_choice}
use Rattle.select.proofs.BestChoices.{choice_none}
use Rattle.week.specs.Record.{Week}
use Rattle.week.specs.Ordered.{ordered_week}
use Rattle.week.specs.declared.refusal.Reason.TheVariants as reason
use Rattle.week.specs.declared.refusal.Refusal.{Refusal}
use Rattle.week.specs.Fault.{fault_at}
use Rattle.judge.specs.Fault.{WellFormed}
use Rattle.week.proofs.First.{number_of_lem}
use Rattle.week.proofs.Faults.{fault_refuses}
use Rattle.week.proofs.Owned.{batches_owned, worths_fit}
use Rattle.week.proofs.OrderedEach.{ordered_worths}
use Rattle.judge.proofs.Sound.{Sound, sound}
use Rattle.planner.specs.Job.{job_list_of, week_jobs}
use Rattle.planner.specs.Choose.{ChooseAnswer, week_best, width_of, fill_fault, refused_plan, plan_of, choose_answer, table_after, FillsTable}
use Rattle.planner.specs.Choose.{PicksTable, BestPlan, SomePlan, NoPlan, LongTable}
use Rattle.planner.proofs.Jobs.{ordered_jobs, packable, answerable, fillable}
use Rattle.planner.proofs.Choosing.{fill_faultless, long_table, plan_refused, plan_passed, table_kept, table_filled}
use Rattle.planner.proofs.ReadOff.{readable, read_some, read_names, read_answer_lem}
use Rattle.planner.proofs.Demands.{choose_fills, choose_best, choose_none, choose_plans}
use Rattle.planner.proofs.choose.choose.Goals as goal

-- what `choose` promises of its plan and of the table after it: the last four follow from the first two
abbrev Promised : Week → List ℕ → List ℕ → ChooseAnswer → Type 0
Promised w before after plan = record {
  answer : plan ≡ choose_answer w (length before);
  table : after ≡ table_after w before;
  picks : FillsTable plan → PicksTable w before after;
  best : plan.refusal.number ≡ 0 → BestPlan w plan;
  none : (plan.refusal.number ≡ 14) ↔ (WellFormed w × LongTable w (length before) × NoPlan w);
  plans : (plan.refusal.number ≡ 0) ↔ (WellFormed w × LongTable w (length before) × SomePlan w);
}

promised : (w : Week) (table after : List ℕ) (plan : ChooseAnswer) → plan ≡ choose_answer w (length table) → after ≡ table_after w table →
    Promised w table after plan
promised w table after plan answer same = record {
  answer = answer;
  table = same;
  picks = rw (answer, same) (choose_fills w table);
  best = rw answer (choose_best w (length table));
  none = rw answer (choose_none w (length table));
  plans = rw answer (choose_plans w (length table));
}

-- a refusal that leaves the table as it was
kept : (w : Week) (table : List ℕ) (plan : ChooseAnswer) {r : Refusal} → fill_fault w (length table) ≡ r → (r.number ≡ 0 → ⊥) →
    plan ≡ refused_plan r → Promised w table table plan
kept w table plan fault other is =
    promised w table table plan (is ∙ sym (plan_refused w (length table) fault other)) (sym (table_kept w table fault other))

-- where nothing has refused, the list is sound and the table long
fine : (w : Week) (size : ℕ) → (fill_fault w size).number ≡ 0 → Sound (ordered_week w)
fine w size zero = sound w ((fill_faultless w size).0 zero).0

long : (w : Week) (size : ℕ) → (fill_fault w size).number ≡ 0 → w.count * width_of w ≤ size
long w size zero = (long_table w size).0 ((fill_faultless w size).0 zero).1

-- what `fill` leaves, over the jobs of the week
filled_over : (w : Week) (table after : List ℕ) {v : Week} {jobs : JobList} {width : ℕ} → v ≡ ordered_week w → jobs ≡ job_list_of w →
    width ≡ width_of w → after ≡ filled (jobs_of jobs) v.opening width table → after ≡ filled (week_jobs w) w.opening (width_of w) table
filled_over w table after {v} {jobs} {width} list is_jobs is_width is = rw (list, is_jobs, is_width) at is

-- what `read_off` answers, over the jobs of the week
best_over : (w : Week) (r : Option (List ℕ)) {v : Week} {jobs : JobList} → v ≡ ordered_week w → jobs ≡ job_list_of w →
    r ≡ best_choice (best (jobs_of jobs) v.closing) → r ≡ best_choice (week_best w)
best_over w r {v} {jobs} list is_jobs is = rw (list, is_jobs) at is

-- a row of the list in order is one of the list
same_width : (w : Week) {v : Week} {width : ℕ} → v ≡ ordered_week w → width ≡ width_of v → width ≡ width_of w
same_width w list is = is ∙ ap width_of list

pub returns-in_err-week : goal.returns-in_err-week
returns-in_err-week c =
    let p = err_from_is_err_and c.from_residual.result c.from_residual.ensures.1 in
    rw (p.1, p.2) (kept _ _ _ (sym c.in_err-week.ensures.refusal) (fault_refuses c.in_err-week.field-0.0) refl)

pub fill-requires : goal.fill-requires
fill-requires c =
    let w = c.args.week in
    let list = c.in_ok-week.ensures.list in
    let zero = number_of_lem (sym c.in_ok-week.ensures.refusal) in
    let worths = ordered_worths w (batches_owned w _ c.well_formed.0) (worths_fit w _ c.well_formed.0) in
    rw (ordered_jobs w list c.jobs_of-jobs.ensures, same_width w list c.row_width-width.ensures, list)
    record { fillable = fillable _ (fine _ _ zero) _ (long _ _ zero); packable = packable _ (fine _ _ zero) worths }

pub read_off-best-requires : goal.read_off-best-requires
read_off-best-requires c =
    let w = c.args.week in
    let list = c.in_ok-week.ensures.list in
    let zero = number_of_lem (sym c.in_ok-week.ensures.refusal) in
    let jobs = ordered_jobs w list c.jobs_of-jobs.ensures in
    let width = same_width w list c.row_width-width.ensures in
    let after = filled_over w _ _ list jobs width c.fill.ensures in
    rw (width, list) (readable _ (fine _ _ zero) _ (long _ _ zero) jobs after)

pub returns-in_err-choice : goal.returns-in_err-choice
unfolding plan_of
returns-in_err-choice c =
    let w = c.args.week in
    let list = c.in_ok-week.ensures.list in
    let zero = number_of_lem (sym c.in_ok-week.ensures.refusal) in
    let jobs = ordered_jobs w list c.jobs_of-jobs.ensures in
    let after = filled_over w _ _ list jobs (same_width w list c.row_width-width.ensures) c.fill.ensures in
    let best = best_over w _ list jobs c.read_off-best.ensures in
    let p = err_from_is_err_and c.from_residual-in_err-choice.result c.from_residual-in_err-choice.ensures.1 in
    let h = c.ok_or.ensures in
    let fault : c.in_err-choice.field-0.0 ≡ fault_at reason.NoPlan 0 0 = grind arith in
    let none : c.read_off-best.result ≡ None = grind arith in
    let absent = choice_none (week_best w) (sym none ∙ best) in
    rw (p.1, p.2, fault)
    (promised _ _ _ _
    (sym (plan_passed _ _ zero absent))
    (after ∙ sym (table_filled _ _ zero)))

pub total-requires : goal.total-requires
total-requires c =
    let w = c.args.week in
    let list = c.in_ok-week.ensures.list in
    let zero = number_of_lem (sym c.in_ok-week.ensures.refusal) in
    let jobs = ordered_jobs w list c.jobs_of-jobs.ensures in
    let worths = ordered_worths w (batches_owned w _ c.well_formed.0) (worths_fit w _ c.well_formed.0) in
    let some : c.read_off-best.result ≡ Some c.in_ok-choice.choice = grind arith in
    let present = read_some w (sym some ∙ best_over w _ list jobs c.read_off-best.ensures) in
    rw jobs (answerable _ (fine _ _ zero) worths (read_names _ (fine _ _ zero) present))

pub returns : goal.returns
returns c =
    let w = c.args.week in
    let list = c.in_ok-week.ensures.list in
    let zero = number_of_lem (sym c.in_ok-week.ensures.refusal) in
    let jobs = ordered_jobs w list c.jobs_of-jobs.ensures in
    let after = filled_over w _ _ list jobs (same_width w list c.row_width-width.ensures) c.fill.ensures in
    let some : c.read_off-best.result ≡ Some c.in_ok-choice.choice = grind arith in
    let present = read_some w (sym some ∙ best_over w _ list jobs c.read_off-best.ensures) in
    promised _ _ _ _
    (read_answer_lem _ (fine _ _ zero) present _ zero refl jobs c.total.ensures)
    (after ∙ sym (table_filled _ _ zero))
