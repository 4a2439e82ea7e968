-- The log that Run leaves: each of its minutes in 01's words, the bytes after them, and the minutes before each stretch ends.
use Prim.Native.Nat.{ℕ, ◌+◌, ◌-◌, ◌≤◌, ◌<◌}
use native.Mathlib.Omega.{arith}
use mathlib.Core.Path.{◌≡◌, ap, subst, ◌∙◌}
use mathlib.Core.Bool.{true}
use mathlib.Core.List.{List, ◌++◌}
use lib.ListN.{length, get_or, take, drop, get_or-append}
use lib.Seq.{take-append-le, take_at}
use Rattle.arrays.proofs.Front.{length_kept, later_kept}
use Rattle.jobs.specs.Rule.{meets}
use Rattle.jobs.specs.Stretches.{stretch_at}
use Rattle.edf.specs.Run.{Reads, entries, minutes_left, minutes_before}
use Rattle.edf.specs.Workload.{ready_at, minutes_at, choice_log}
use Rattle.edf.proofs.Pending.{reads_same}
use Rattle.edf.proofs.Logs.{length_log}
use Rattle.edf.proofs.Left.{reads_log}
use Rattle.edf.proofs.StretchEnds.{Feasible}
use Rattle.edf.proofs.InTime.{stretch_in, choice_in_time}
use Rattle.week.specs.Record.{Week, span_of, batch_of, ready_of}
use Rattle.week.specs.Ordered.{ordered_week}
use Rattle.judge.proofs.Sound.{Sound, Named}
use Rattle.planner.specs.Job.{job_list_of, week_jobs, week_choice}
use Rattle.planner.specs.Written.{chosen_minutes}
use Rattle.planner.specs.Run.{week_log, unread_at, StationLog, InTime}
use Rattle.planner.proofs.AsWritten.{ready_written, minutes_written}

-- a choice that meets the rule is feasible, and none of its batches is ready before the opening
pub feasible : (w : Week) (choice : List ℕ) → Sound (ordered_week w) → Named (ordered_week w) choice →
    meets (week_jobs w) w.closing (week_choice w choice) ≡ true →
    Feasible (job_list_of w) choice (minutes_at (job_list_of w) choice) w.opening w.count w.closing
feasible w choice sound named meeting =
    record {
      from = omega (arith, sound.opens);
      ready = λ i low high. omega (arith, ready_written w sound i low high);
      meeting = meeting;
      few = λ i low high. omega arith;
    }

module _ (w : Week) (choice log : List ℕ) where
  length_week : length (week_log w choice) ≡ span_of w
  unfolding week_log choice_log
  length_week = length_log w.count (ready_at (job_list_of w)) (minutes_at (job_list_of w) choice) w.opening (span_of w)

  -- the log that is left: the run, and the bytes after it
  abbrev after : List ℕ
  after = week_log w choice ++ drop (span_of w) log

  -- its first d minutes are those of the run, and so all of the week's
  take_after : (d : ℕ) → d ≤ span_of w → take d after ≡ take d (week_log w choice)
  take_after d within = take-append-le d (week_log w choice) (drop (span_of w) log) (omega (arith, length_week))

  pub take_week : take (span_of w) after ≡ week_log w choice
  take_week = take_at (week_log w choice) (drop (span_of w) log) (span_of w) length_week

  module _ (sound : Sound (ordered_week w)) (named : Named (ordered_week w) choice) where
    reads_minute : (m : ℕ) → w.opening ≤ m → m < w.closing →
        Reads (λ i. ready_of w.opening (batch_of (ordered_week w) i)) (unread_at w choice after m) m w.count
        (get_or after (m - w.opening) 0)
    unfolding minutes_left week_log choice_log
    reads_minute m from to =
        let d = m - w.opening in
        let now : w.opening + d ≡ m = omega arith in
        rw (
          get_or-append (week_log w choice) (drop (span_of w) log) 0 d (omega (arith, length_week)),
          take_after d (omega arith),
        )
        (subst
        (λ (k : ℕ).
        Reads (λ i. ready_of w.opening (batch_of (ordered_week w) i))
        (minutes_left (chosen_minutes w choice) (take d (week_log w choice))) k w.count (get_or (week_log w choice) d 0))
        now
        (reads_same (ready_written w sound)
        (λ i low high.
        ap (λ (minutes : ℕ). minutes - entries i (take d (week_log w choice))) (minutes_written w sound named i low high))
        (reads_log w.count (ready_at (job_list_of w)) (minutes_at (job_list_of w) choice) w.opening d (span_of w) (omega arith))))

    pub station_log : span_of w ≤ length log → StationLog w choice log after
    station_log long =
        record {
          size = length_kept (week_log w choice) log (span_of w) length_week long;
          reads = reads_minute;
          later = later_kept (week_log w choice) log (span_of w) length_week 0;
        }

    -- a choice that meets the rule
    module _ (meeting : meets (week_jobs w) w.closing (week_choice w choice) ≡ true) where
      pub week_in_time : InTime w choice after
      unfolding minutes_before week_log
      week_in_time i low high =
          let plan = feasible w choice sound named meeting in
          let end = (stretch_at (job_list_of w) choice w.closing i).end in
          ap (entries i) (take_after (end - w.opening) (omega (arith, (stretch_in plan i low high).to)))
          ∙ choice_in_time plan (span_of w) (omega arith) i low high
          ∙ minutes_written w sound named i low high
