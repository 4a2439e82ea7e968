-- Run's answer: which refusal comes first, what is answered then, and what the log holds.
use Prim.Native.Nat.{ℕ, ◌<◌, ◌≤◌}
use native.Mathlib.Omega.{arith}
use mathlib.Core.Path.{◌≡◌, refl, sym}
use mathlib.Core.Logic.Iff
use mathlib.Core.Logic.{◌↔◌}
use mathlib.Core.List.{List, [], ◌∷◌, ◌++◌}
use lib.ListN.{length, drop}
use Rattle.edf.specs.Workload.{workload_of}
use Rattle.week.specs.declared.refusal.Refusal.{Refusal}
use Rattle.week.specs.Record.{Week, max_minutes, span_of}
use Rattle.week.specs.Ordered.{ordered_week}
use Rattle.week.specs.Refusal.{accepted, refused, first_of}
use Rattle.judge.specs.Fault.{handed_faults, WellFormed, WellChosen}
use Rattle.week.proofs.First.{Proper, number_of_lem, refuses_too, first_of_proper, append_first, append_last}
use Rattle.week.proofs.Faults.{fault_refuses}
use Rattle.week.proofs.Passes.{first_of_passes, short_proper, short_passes, short_refuses}
use Rattle.week.proofs.Answering.{Answers, answers, answers_name, unless_passed, unless_refused_lem}
use Rattle.judge.proofs.WellFormed.{list_proper}
use Rattle.judge.proofs.Sound.{sound, choice_proper}
use Rattle.planner.specs.Job.{job_list_of}
use Rattle.planner.specs.Run.{RunAnswer, log_fault, run_fault, week_log, log_answer, refused_run, run_answer, log_after, LongLog}

pub long_log : (w : Week) (size : ℕ) → LongLog w size ↔ (span_of w ≤ size)
unfolding log_fault
long_log w size = short_passes 12 (span_of w) size refl

pub log_short : (w : Week) (size : ℕ) → size < span_of w → log_fault w size ≡ refused 12 0 0
unfolding log_fault
log_short w size less = short_refuses 12 less

pub log_fits : (w : Week) (size : ℕ) → span_of w ≤ size → log_fault w size ≡ accepted
log_fits w size = (long_log w size).1

-- a log of 2,400 bytes is long enough for every list
pub log_enough : (w : Week) (size : ℕ) → WellFormed w → max_minutes ≤ size → LongLog w size
log_enough w size list enough = (long_log w size).1 (omega (arith, (sound w list).short))

module _ (w : Week) (choice : List ℕ) (size : ℕ) where
  log_proper : Proper (log_fault w size)
  unfolding log_fault
  log_proper = short_proper 12 (span_of w) size refl

  pub run_handed : ((first_of (handed_faults w choice)).number ≡ 0 → ⊥) → run_fault w choice size ≡ first_of (handed_faults w choice)
  unfolding run_fault
  run_handed = append_first (handed_faults w choice) (log_fault w size ∷ [])

  pub run_log : (first_of (handed_faults w choice)).number ≡ 0 → run_fault w choice size ≡ log_fault w size
  unfolding run_fault
  run_log = append_last (handed_faults w choice) (log_fault w size) log_proper

  pub run_faultless : ((run_fault w choice size).number ≡ 0) ↔ (WellFormed w × WellChosen w choice × LongLog w size)
  unfolding run_fault
  run_faultless = Iff.trans (first_of_passes _) (
    λ (list, (names, (log, _))). (list_proper w list, choice_proper (ordered_week w) choice names, log_proper log),
    λ (list, names, log). (number_of_lem list, (number_of_lem names, (number_of_lem log, tt))),
  )

  pub run_answers :
      Answers (run_fault w choice size) refused_run (log_answer (workload_of (job_list_of w) choice) w.opening (week_log w choice))
      (run_answer w choice size)
  unfolding run_answer
  run_answers = answers _ _ _

  -- the refusal answered is the first of the order
  pub run_refusal : (run_answer w choice size).refusal ≡ run_fault w choice size
  unfolding log_answer refused_run run_fault
  run_refusal = answers_name run_answers (λ (a : RunAnswer). a.refusal) (λ z. refl) (λ r. refl) (first_of_proper _)

-- what `run_fault` answers: the list, the choice or the log refuses, or none does
pub ruleset run_refusals = (run_handed, run_log, log_short, log_fits, fault_refuses)

module _ (w : Week) (choice log : List ℕ) where
  pub log_kept : {r : Refusal} → run_fault w choice (length log) ≡ r → (r.number ≡ 0 → ⊥) → log_after w choice log ≡ log
  unfolding log_after
  log_kept e n = unless_refused_lem _ _ _ (refuses_too (sym e) n)

  pub log_written : (run_fault w choice (length log)).number ≡ 0 → log_after w choice log ≡ week_log w choice ++ drop (span_of w) log
  unfolding log_after
  log_written z = unless_passed _ _ _ z
