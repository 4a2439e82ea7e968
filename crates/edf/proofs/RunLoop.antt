-- The loop of the run: what holds after some of its minutes, as it starts, from minute to minute, and as it ends.
use Prim.Native.Nat.{ℕ, ◌+◌, ◌≤◌, ◌<◌}
use native.Mathlib.Omega.{arith}
use native.Mathlib.Numerals.{add-one}
use mathlib.Core.Path.{◌≡◌, refl, sym, ap, ap₂, ◌∙◌}
use mathlib.Core.List.{List, [], ◌∷◌, ◌++◌}
use lib.ListN.{length, set, take, length-set}
use lib.Seq.{take_all, take-suc-set}
use Rattle.std.specs.Prelude.{Option}
use Rattle.std.specs.List.{position}
use Rattle.jobs.specs.Model.{max_jobs}
use Rattle.edf.specs.declared.workload.Task.{Task}
use Rattle.edf.specs.Run.{entries, minutes_left, log_of}
use Rattle.edf.specs.Workload.{is_pending, ready_in, left_in}
use Rattle.edf.proofs.Pending.{reads_one, pending_same}
use Rattle.edf.proofs.Logs.{log_to, left_at, read_at, log_next, entries_next}
use Rattle.edf.proofs.Tasks.{entry_of, reads_found, Spent}

-- after m of w minutes from minute t: the log is written so far, and the tasks have what each job has left
pub record Running (n : ℕ) (ready minutes : ℕ → ℕ) (t w : ℕ) (log : List ℕ) (tasks : List Task) (m : ℕ) : Type 0 where
  pub within : m ≤ w
  pub size : length log ≡ w
  pub room : n ≤ length tasks
  pub written : take m log ≡ log_to n ready minutes t m
  pub arrives : (j : ℕ) → ready_in tasks j ≡ ready j
  pub remains : (j : ℕ) → left_in tasks j ≡ left_at n ready minutes t m j

pub running_start : (n t : ℕ) (log : List ℕ) (tasks : List Task) → n ≤ max_jobs → length tasks ≡ max_jobs →
    Running n (ready_in tasks) (left_in tasks) t (length log) log tasks 0
unfolding log_of minutes_left entries
running_start n t log tasks most size =
    record {
      within = omega arith;
      size = refl;
      room = omega arith;
      written = refl;
      arrives = λ j. refl;
      remains = λ j. omega arith;
    }

module _
    {n : ℕ} {ready minutes : ℕ → ℕ} {t w : ℕ} {log : List ℕ} {tasks : List Task} {m : ℕ}
    (h : Running n ready minutes t w log tasks m) (found : Option ℕ) (first : found ≡ position (is_pending (t + m)) (take n tasks))
  where
    -- the job that is found is the one that the log has next
    found_read : entry_of found ≡ read_at n ready minutes t m
    found_read =
        reads_one (ready_in tasks) (left_in tasks) (t + m) (reads_found tasks (t + m) n h.room found first)
        ∙ pending_same (λ j low high. h.arrives j) (λ j low high. h.remains j) (t + m)

    pub running_step : m < w → {tasks' : List Task} → Spent (entry_of found) tasks tasks' →
        Running n ready minutes t w (set log m (entry_of found)) tasks' (m + 1)
    unfolding minutes_left
    running_step more spent =
        record {
          within = omega arith;
          size = length-set log m (entry_of found) ∙ h.size;
          room = omega (arith, spent.size, h.room);
          written =
              rw add-one
              (take-suc-set log m (entry_of found) (omega arith)
              ∙ ap₂ (λ (l : List ℕ) (x : ℕ). l ++ (x ∷ [])) h.written found_read
              ∙ sym (log_next n ready minutes t m));
          arrives = λ j. spent.ready j ∙ h.arrives j;
          remains = λ j. rw (add-one, entries_next, ← found_read) (omega (arith, spent.left j, h.remains j));
        }

pub running_end : {n : ℕ} {ready minutes : ℕ → ℕ} {t w : ℕ} {log : List ℕ} {tasks : List Task} {m : ℕ} →
    Running n ready minutes t w log tasks m → w ≤ m → log ≡ log_to n ready minutes t w
running_end {n} {ready} {minutes} {t} {w} {log} {tasks} {m} h over =
    let all : m ≡ w = omega arith in
    sym (take_all m log (omega arith)) ∙ h.written ∙ ap (log_to n ready minutes t) all
