-- Run: what it answers and what it leaves in the log, on every list, choice and log.
use Rattle.std.specs.Prelude.{ℕ, suc, ◌+◌, ◌-◌, ◌≤◌, ◌<◌, ◌≡◌, cond, List, [], ◌∷◌, ◌++◌, length, get_or, take, drop, replicate, leb, eqb}
use Rattle.std.specs.Prelude.{Result, Ok, Err}
use Rattle.arrays.specs.Position.{at_position}
use Rattle.arrays.specs.Made.{tabulate, padded}
use Rattle.jobs.specs.Stretches.{stretch_at}
use Rattle.edf.specs.declared.outcome.Outcome.{Outcome}
use Rattle.edf.specs.declared.outcome.Outcome.TheVariants.{SetAside}
use Rattle.edf.specs.declared.workload.Workload.{Workload}
use Rattle.edf.specs.Run.{Reads, entries, minutes_left, minutes_before, idle, changes, up_to_last, outcome_numbers}
use Rattle.edf.specs.Workload.{choice_log, workload_of, outcome_at}
use Rattle.week.specs.declared.refusal.Fault.{Fault}
use Rattle.week.specs.declared.refusal.Refusal.{Refusal}
use Rattle.planner.specs.declared.run.WeekRun.{WeekRun}
use Rattle.week.specs.Record.{Week, max_batches, batch_of, span_of, ready_of}
use Rattle.week.specs.Ordered.{ordered_week}
use Rattle.week.specs.Refusal.{accepted, first_of, short_fault, unless_refused, answer_by}
use Rattle.week.specs.Fault.{numbers}
use Rattle.judge.specs.Fault.{handed_faults}
use Rattle.planner.specs.Job.{job_list_of}
use Rattle.planner.specs.Written.{chosen_minutes}

-- what Run answers: a refusal's three numbers, the idle minutes, the changes, and for each batch, in list order, its outcome
pub record RunAnswer : Type 0 where
  pub refusal : Refusal
  pub idle : ℕ
  pub changes : ℕ
  pub batches : List Outcome

-- "12: log shorter than c − t."
unfoldable pub log_fault : Week → ℕ → Refusal
log_fault w size = short_fault 12 (span_of w) size

-- the refusals of Run in their order
unfoldable pub run_fault : Week → List ℕ → ℕ → Refusal
run_fault w choice size = first_of (handed_faults w choice ++ (log_fault w size ∷ []))

-- "For each minute from t to c − 1, the station reads the first batch in list order that has s at or before this minute and
-- minutes left to read."
unfoldable pub week_log : Week → List ℕ → List ℕ
week_log w choice = choice_log (job_list_of w) choice w.opening (span_of w)

-- a place of the answer for a batch that is set aside, and beyond n
abbrev pub set_aside : Outcome
set_aside = SetAside

-- "For each batch the run answers one of: set aside; finished, with the minute after its last; unfinished, with the minutes
-- left. It answers the idle minutes. It answers the number of changes": of a workload, after a log that starts at minute t
unfoldable pub log_answer : Workload → ℕ → List ℕ → RunAnswer
log_answer work t log =
    record {
      refusal = accepted;
      idle = idle log;
      changes = changes log;
      batches = padded max_batches set_aside (tabulate (λ i. outcome_at work t log (suc i)) 0 work.count);
    }

-- "Anything else that its record holds is 0 (in the run, set aside)."
unfoldable pub refused_run : Refusal → RunAnswer
refused_run r = record { refusal = r; idle = 0; changes = 0; batches = replicate max_batches set_aside }

-- the answer that the code's result is
abbrev pub ran_answer : Result WeekRun Fault → RunAnswer
ran_answer (Ok ran) = record { refusal = accepted; idle = ran.idle; changes = ran.changes; batches = ran.batches }
ran_answer (Err fault) = refused_run (numbers fault)

unfoldable pub run_answer : Week → List ℕ → ℕ → RunAnswer
run_answer w choice size =
    answer_by (run_fault w choice size) refused_run
    (log_answer (workload_of (job_list_of w) choice) w.opening (week_log w choice))

-- "Entry m of a lent log of bytes, from 0, is the position of the batch read in minute t + m, or 0 for an idle minute. Bytes
-- after entry c − t − 1 keep their values." "Only 14 alters lent memory (the picks table)."
unfoldable pub log_after : Week → List ℕ → List ℕ → List ℕ
log_after w choice log = unless_refused (run_fault w choice (length log)) (week_log w choice ++ drop (span_of w) log) log

-- 01, "The words of demand 3": a log "that 12 does not catch"
abbrev pub LongLog : Week → ℕ → Type 0
LongLog w size = log_fault w size ≡ accepted

-- the minutes of position i that a log has not read when minute m begins
abbrev pub unread_at : Week → List ℕ → List ℕ → ℕ → ℕ → ℕ
unread_at w choice log m = minutes_left (chosen_minutes w choice) (take (m - w.opening) log)

-- demand 2: "The station's run is earliest due first, minute by minute, by the rule given there." 01: "For each minute from t to c − 1,
-- the station reads the first batch in list order that has s at or before this minute and minutes left to read." "Bytes after
-- entry c − t − 1 keep their values."
pub record StationLog (w : Week) (choice before after : List ℕ) : Type 0 where
  pub size : length after ≡ length before
  pub reads : (m : ℕ) → w.opening ≤ m → m < w.closing →
      Reads (λ i. ready_of w.opening (batch_of (ordered_week w) i)) (unread_at w choice after m) m w.count (get_or after (m - w.opening) 0)
  pub later : (e : ℕ) → span_of w ≤ e → get_or after e 0 ≡ get_or before e 0

-- the outcome of position i after a week's log, as `outcome_numbers` has it: 0 0 set aside, 1 and the minute after its last, 2 and
-- the minutes left
abbrev pub outcome_said : Week → List ℕ → List ℕ → ℕ → List ℕ
outcome_said w choice log i =
    let cost = chosen_minutes w choice i in
    cond (eqb cost 0) (0 ∷ 0 ∷ [])
    (cond (leb cost (entries i log)) (1 ∷ (w.opening + up_to_last i log) ∷ []) (2 ∷ (cost - entries i log) ∷ []))

-- 01: "For each batch the run answers one of: ..", of the log that is left: each part of the answer
pub record LogSays (w : Week) (choice log : List ℕ) (answer : RunAnswer) : Type 0 where
  pub idle : answer.idle ≡ entries 0 (take (span_of w) log)
  pub changes : answer.changes ≡ changes (take (span_of w) log)
  pub outcome : (i : ℕ) → 1 ≤ i → i ≤ w.count →
      outcome_numbers (at_position set_aside answer.batches i) ≡ outcome_said w choice (take (span_of w) log) i
  pub beyond : (i : ℕ) → w.count < i → at_position set_aside answer.batches i ≡ set_aside

-- demand 3: "the minutes that each batch gets before its stretch ends number exactly its recipe's minutes". No stretch ends after the
-- close, so these are minutes of the week.
abbrev pub InTime : Week → List ℕ → List ℕ → Type 0
InTime w choice log =
    (i : ℕ) → 1 ≤ i → i ≤ w.count →
    minutes_before (stretch_at (job_list_of w) choice w.closing i).end w.opening log i ≡ chosen_minutes w choice i
