-- `run` meets its contract: each return is one of the cases of `Running`, and what the buyer asks follows.
use Prim.Native.Nat.{ℕ, ◌≤◌}
use native.Mathlib.Omega.{arith}
use Rattle.std.proofs.lemmas.Result.{err_from_is_err_and}
use mathlib.Core.Path.{◌≡◌, refl, sym, ap, ap₂, ◌∙◌}
use mathlib.Core.Bool.{true}
use mathlib.Core.List.{List, ◌++◌}
use lib.ListN.{length, take, drop}
use lib.Seq.{length-take-le}
use Rattle.jobs.specs.declared.model.JobList.{JobList}
use Rattle.jobs.specs.Rule.{meets}
use Rattle.edf.specs.declared.workload.Workload.{Workload}
use Rattle.edf.specs.Workload.{workload_of, work_log}
use Rattle.edf.proofs.Workloads.{workload_log}
use Rattle.week.specs.declared.refusal.Refusal.{Refusal}
use Rattle.week.specs.Record.{Week, span_of}
use Rattle.week.specs.Ordered.{ordered_week}
use Rattle.judge.specs.Fault.{WellChosen}
use Rattle.week.proofs.First.{number_of_lem}
use Rattle.week.proofs.Faults.{fault_refuses}
use Rattle.judge.proofs.Sound.{Sound, sound, choice_passes}
use Rattle.planner.specs.Job.{job_list_of, week_jobs, week_choice}
use Rattle.planner.specs.Run.{RunAnswer, run_fault, week_log, log_answer, refused_run, run_answer, log_after, StationLog, LogSays}
use Rattle.planner.specs.Run.{InTime}
use Rattle.planner.proofs.Jobs.{ordered_jobs, handed_names}
use Rattle.planner.proofs.Running.{run_faultless, run_answers, log_kept, log_written, long_log}
use Rattle.planner.proofs.Demands.{run_reads, run_says, run_in_time}
use Rattle.planner.proofs.run.run.Goals as goal

-- what `run` promises of its answer and of the log after it: the last three follow from the first two
abbrev Promised : Week → List ℕ → List ℕ → List ℕ → RunAnswer → Type 0
Promised w choice before after run = record {
  answer : run ≡ run_answer w choice (length before);
  log : after ≡ log_after w choice before;
  reads : run.refusal.number ≡ 0 → StationLog w choice before after;
  says : run.refusal.number ≡ 0 → LogSays w choice after run;
  in_time : run.refusal.number ≡ 0 → meets (week_jobs w) w.closing (week_choice w choice) ≡ true → InTime w choice after;
}

promised : (w : Week) (choice before after : List ℕ) (run : RunAnswer) →
    run ≡ run_answer w choice (length before) → after ≡ log_after w choice before → Promised w choice before after run
promised w choice before after run is same = record {
  answer = is;
  log = same;
  reads = rw (is, same) (run_reads w choice before);
  says = rw (is, same) (run_says w choice before);
  in_time = rw (is, same) (run_in_time w choice before);
}

-- a refusal, which keeps the log
kept : (w : Week) (choice log : List ℕ) (run : RunAnswer) {r : Refusal} → run_fault w choice (length log) ≡ r →
    (r.number ≡ 0 → ⊥) → run ≡ refused_run r → Promised w choice log log run
kept w choice log run fault other is =
    promised w choice log log run (is ∙ sym ((run_answers w choice (length log)).refused fault other))
    (sym (log_kept w choice log fault other))

-- where nothing has refused, the list is sound, the choice is one of its choices and the log is long enough
passed : (w : Week) (choice : List ℕ) (size : ℕ) → (run_fault w choice size).number ≡ 0 →
    Sound (ordered_week w) × WellChosen w choice × (span_of w ≤ size)
passed w choice size zero =
    let (list, names, log) = (run_faultless w choice size).0 zero in
    (sound w list, names, (long_log w size).0 log)

-- what the station is handed, over the jobs of the week
work_over : (w : Week) (choice : List ℕ) {jobs : JobList} {work : Workload} → jobs ≡ job_list_of w →
    work ≡ workload_of jobs choice → work ≡ workload_of (job_list_of w) choice
work_over w choice jobs is = is ∙ ap (λ (list : JobList). workload_of list choice) jobs

-- the part of the log that is lent has a byte for each minute
part_length : (w : Week) (log : List ℕ) {n : ℕ} → n ≡ span_of w → span_of w ≤ length log → length (take n log) ≡ span_of w
part_length w log is long = ap (λ (n : ℕ). length (take n log)) is ∙ length-take-le (span_of w) log long

-- what the station leaves in it
part_after : (w : Week) (choice part : List ℕ) {work : Workload} {n : ℕ} → work ≡ workload_of (job_list_of w) choice →
    n ≡ span_of w → part ≡ work_log work w.opening n → part ≡ week_log w choice
unfolding week_log
part_after w choice part work n is =
    is
    ∙ ap₂ (λ (work : Workload) (n : ℕ). work_log work w.opening n) work n
    ∙ workload_log (job_list_of w) choice w.opening (span_of w)

-- the list in order has the minutes of the list
same_span : (w : Week) {v : Week} {n : ℕ} → v ≡ ordered_week w → n ≡ span_of v → n ≡ span_of w
same_span w list is = is ∙ ap span_of list

pub returns-in_err-week : goal.returns-in_err-week
returns-in_err-week c =
    let p = err_from_is_err_and c.from_residual.result c.from_residual.ensures.1 in
    rw (p.1, p.2) (kept _ _ _ _ (sym c.in_err-week.ensures.refusal) (fault_refuses c.in_err-week.field-0.0) refl)

pub workload_of-work-requires : goal.workload_of-work-requires
workload_of-work-requires c =
    let (sound, names, log) = passed _ _ _ (number_of_lem (sym c.in_ok-week.ensures.refusal)) in
    rw (ordered_jobs _ c.in_ok-week.ensures.list c.jobs_of.ensures) (handed_names _ sound ((choice_passes _ _).0 names))

pub slice_bounds-run_work-end : goal.slice_bounds-run_work-end
slice_bounds-run_work-end c =
    let (sound, names, log) = passed _ _ _ (number_of_lem (sym c.in_ok-week.ensures.refusal)) in
    omega (arith, log, same_span c.args.week c.in_ok-week.ensures.list c.minutes-minutes.ensures)

pub slice_bounds-run_work-end-2 : goal.slice_bounds-run_work-end-2
slice_bounds-run_work-end-2 c =
    let (sound, names, log) = passed _ _ _ (number_of_lem (sym c.in_ok-week.ensures.refusal)) in
    sym (length-take-le c.minutes-minutes.result c.args.log.now
    (omega (arith, log, same_span c.args.week c.in_ok-week.ensures.list c.minutes-minutes.ensures)))

pub run_work-requires : goal.run_work-requires
unfolding workload_of
run_work-requires c =
    let (sound, names, log) = passed _ _ _ (number_of_lem (sym c.in_ok-week.ensures.refusal)) in
    let w = c.args.week in
    let list = c.in_ok-week.ensures.list in
    rw (
      work_over w c.args.choice.now (ordered_jobs w list c.jobs_of.ensures) c.workload_of-work.ensures,
      part_length w c.args.log.now (same_span w list c.minutes-minutes.ensures) log,
      list,
    )
    record { most = sound.most; ends = omega (arith, sound.opens) }

pub returns : goal.returns
returns c =
    let args = c.args in
    let w = args.week in
    let choice = args.choice.now in
    let list = c.in_ok-week.ensures.list in
    let zero = number_of_lem (sym c.in_ok-week.ensures.refusal) in
    let (sound, names, long) = passed w choice (length args.log.now) zero in
    let work = work_over w choice (ordered_jobs w list c.jobs_of.ensures) c.workload_of-work.ensures in
    let span = same_span w list c.minutes-minutes.ensures in
    let n = part_length w args.log.now span long in
    let after = part_after w choice _ work n (rw list at c.run_work.ensures.log) in
    promised _ _ _ _ _
    (rw list at c.run_work.ensures.answer
    ∙ ap₂ (λ (work : Workload) (log : List ℕ). log_answer work w.opening log) work after
    ∙ sym ((run_answers _ _ _).passed zero))
    (ap₂ (λ (part : List ℕ) (n : ℕ). part ++ drop n args.log.now) after span
    ∙ sym (log_written _ _ _ zero))
