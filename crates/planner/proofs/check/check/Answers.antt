-- `check` meets its contract: each return is one of the cases of `Checking`.
use Prim.Native.Nat.{ℕ}
use Rattle.std.specs.Prelude.{Result}
use Rattle.std.proofs.Common.{rules}
use Rattle.std.proofs.lemmas.Result.{err_from_is_err_and}
use mathlib.Core.Path.{◌≡◌, sym, ap, ap₂, ◌∙◌}
use mathlib.Core.List.{List}
use lib.ListN.{length}
use Rattle.jobs.specs.declared.model.JobList.{JobList}
use Rattle.jobs.specs.declared.rule.Stretch.{Stretch}
use Rattle.jobs.specs.declared.rule.Failing.{Failing}
use Rattle.week.specs.Record.{Week, max_batches}
use Rattle.week.specs.Ordered.{ordered_week}
use Rattle.jobs.specs.Model.{jobs_of, chosen}
use Rattle.jobs.specs.Choice.{total}
use Rattle.jobs.specs.Contract.{Answerable, stretched}
use Rattle.week.specs.declared.refusal.Reason.TheVariants.{BreaksTheRule}
use Rattle.week.specs.declared.refusal.Fault.{Fault}
use Rattle.week.specs.Refusal.{first_of}
use Rattle.week.specs.Fault.{fault_at}
use Rattle.judge.specs.Fault.{handed_faults}
use Rattle.week.proofs.First.{number_of_lem, refuses_too}
use Rattle.week.proofs.Faults.{fault_refuses}
use Rattle.week.proofs.Owned.{WorthsFit, batches_owned, worths_fit}
use Rattle.week.proofs.OrderedEach.{ordered_worths}
use Rattle.judge.proofs.Sound.{sound, choice_passes, handed_passes}
use Rattle.planner.specs.Job.{listed_jobs, job_list_of, week_jobs, week_choice}
use Rattle.planner.proofs.Jobs.{ordered_jobs, handed_names, answerable}
use Rattle.planner.proofs.Mapped.{map_err_ok, map_err_err}
use Rattle.planner.proofs.Checking.{check_answers, fault_handed, stretched_refused, stretched_passed}
use Rattle.planner.proofs.check.check.Goals as goal

-- where nothing has refused, the choice names a version of each job, and its total fits 32 bits
has_answer : (w : Week) (choice : List ℕ) → length w.batches ≡ max_batches → WorthsFit w → (first_of (handed_faults w choice)).number ≡ 0 →
    Answerable (job_list_of w) choice
has_answer w choice long fit zero =
    let (list, names) = (handed_passes w choice).0 zero in
    let fine = sound w list in
    answerable w fine (ordered_worths w long fit) (handed_names w fine ((choice_passes w choice).0 names))

-- the rule's answer is over the jobs of the week
stretched_over : (w : Week) (choice : List ℕ) {v : Week} {jobs : JobList} (r : Result (List Stretch) Failing) → v ≡ ordered_week w →
    jobs ≡ listed_jobs v → r ≡ stretched (jobs_of jobs) v.closing (chosen jobs choice) →
    r ≡ stretched (week_jobs w) w.closing (week_choice w choice)
stretched_over w choice r list is ensures =
    ensures
    ∙ ap₂ (λ (v : Week) (jobs : JobList). stretched (jobs_of jobs) v.closing (chosen jobs choice)) list (ordered_jobs w list is)

-- the fault that names the position where it fails
abbrev broken_at : Failing → Fault
broken_at failing = fault_at BreaksTheRule failing.position 0

pub returns-in_err-week : goal.returns-in_err-week
returns-in_err-week c =
    let fault = c.in_err-week.ensures.refusal in
    let refuses = fault_refuses c.in_err-week.field-0.0 in
    let p = err_from_is_err_and c.from_residual.result c.from_residual.ensures.1 in
    rw (p.1, p.2) (sym ((check_answers _ _).refused (fault_handed _ _ (refuses_too fault refuses) ∙ sym fault) refuses))

pub stretch_all-requires : goal.stretch_all-requires
stretch_all-requires c =
    let zero = number_of_lem (sym c.in_ok-week.ensures.refusal) in
    rw (ordered_jobs _ c.in_ok-week.ensures.list c.jobs_of-jobs.ensures)
    (has_answer _ _ (batches_owned c.args.week _ c.well_formed.0) (worths_fit c.args.week _ c.well_formed.0) zero).names

pub returns-in_err-stretches : goal.returns-in_err-stretches
returns-in_err-stretches c =
    let zero = number_of_lem (sym c.in_ok-week.ensures.refusal) in
    let p = err_from_is_err_and c.from_residual-in_err-stretches.result c.from_residual-in_err-stretches.ensures.1 in
    let (failing, was, fault) =
    map_err_err broken_at c.stretch_all.result c.map_err.result c.map_err.ensures.cases (λ x y called. search rules)
    c.in_err-stretches.was
    in
    rw (p.1, p.2, fault)
    (stretched_refused _ _
    (sym was ∙ stretched_over c.args.week c.args.choice.now _ c.in_ok-week.ensures.list c.jobs_of-jobs.ensures c.stretch_all.ensures)
    zero)

pub total-requires : goal.total-requires
total-requires c =
    let zero = number_of_lem (sym c.in_ok-week.ensures.refusal) in
    rw (ordered_jobs _ c.in_ok-week.ensures.list c.jobs_of-jobs.ensures)
    (has_answer _ _ (batches_owned c.args.week _ c.well_formed.0) (worths_fit c.args.week _ c.well_formed.0) zero)

pub returns : goal.returns
returns c =
    let args = c.args in
    let zero = number_of_lem (sym c.in_ok-week.ensures.refusal) in
    let was =
    map_err_ok broken_at c.stretch_all.result c.map_err.result c.map_err.ensures.cases (λ x y called. search rules)
    c.in_ok-stretches.was
    in
    let list = c.in_ok-week.ensures.list in
    stretched_passed _ _ (sym was ∙ stretched_over args.week args.choice.now _ list c.jobs_of-jobs.ensures c.stretch_all.ensures) zero
    (c.total.ensures
    ∙ ap (λ (jobs : JobList). total (jobs_of jobs) (chosen jobs args.choice.now)) (ordered_jobs _ list c.jobs_of-jobs.ensures))
