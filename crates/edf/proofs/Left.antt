-- What a minute leaves of each job: one minute less of the job that is read, as much as before of every other. And a job gets no
-- minute before its ready minute.
use Prim.Native.Nat.{ℕ, zero, suc, ◌+◌, ◌≤◌, ◌<◌}
use native.Mathlib.Decide.{ℕ_discrete}
use native.Mathlib.Omega.{arith}
use mathlib.Core.Path.{◌≡◌, refl, ap, subst, ◌∙◌}
use mathlib.Core.List.{List}
use lib.ListN.{get_or, take}
use borrow.Author.Tests.{eq-eqb, ne_eqb}
use Rattle.edf.specs.Run.{entries, minutes_left, log_of, Reads}
use Rattle.edf.proofs.Pending.{reads}
use Rattle.edf.proofs.Logs.{log_to, left_at, read_at, take_log, entry_log, entries_next}

module _ (n : ℕ) (ready minutes : ℕ → ℕ) (t : ℕ) where
  abbrev log : ℕ → List ℕ
  log d = log_to n ready minutes t d

  abbrev left : ℕ → ℕ → ℕ
  left d j = left_at n ready minutes t d j

  abbrev next : ℕ → ℕ
  next d = read_at n ready minutes t d

  pub reads_at : (d : ℕ) → Reads ready (left d) (t + d) n (next d)
  reads_at d = reads ready (left d) (t + d) n

  entries_read : (d j : ℕ) → next d ≡ j → entries j (log (suc d)) ≡ entries j (log d) + 1
  entries_read d j e = rw (eq-eqb (next d) j e) at (entries_next n ready minutes t d j)

  entries_other : (d j : ℕ) → (next d ≡ j → ⊥) → entries j (log (suc d)) ≡ entries j (log d)
  entries_other d j other = omega (arith, rw (ne_eqb (next d) j other) at (entries_next n ready minutes t d j))

  -- the minutes of a job are those that the log has read and those that it has left: it never reads more
  pub read_left : (d j : ℕ) → 1 ≤ j → entries j (log d) + left d j ≡ minutes j
  unfolding log_of minutes_left entries
  read_left zero j low = omega arith
  read_left (suc d) j low =
      elim (ℕ_discrete (next d) j) [
        | yes e ↦
            let some : 1 ≤ left d j = subst (λ (k : ℕ). 1 ≤ left d k) e ((reads_at d).unread (omega arith)) in
            omega (arith, entries_read d j e, read_left d j low)
        | no other ↦ omega (arith, entries_other d j other, read_left d j low)
      ]

  pub left_read : (d : ℕ) → 1 ≤ next d → left (suc d) (next d) + 1 ≡ left d (next d)
  left_read d low =
      omega (arith, entries_read d (next d) refl, read_left d (next d) low, read_left (suc d) (next d) low)

  pub left_falls : (d j : ℕ) → left (suc d) j ≤ left d j
  unfolding minutes_left
  left_falls d j = omega (arith, entries_next n ready minutes t d j)

  -- the first d minutes, where they all come before the ready minute of a job, have no entry of it
  pub none_before : (d j : ℕ) → 1 ≤ j → t + d ≤ ready j → entries j (log d) ≡ 0
  unfolding log_of entries
  none_before zero j low early = refl
  none_before (suc d) j low early =
      entries_other d j (λ e. omega (arith, ap ready e, (reads_at d).arrived (omega arith))) ∙ none_before d j low (omega arith)

  -- entry d of a log, by the entries before it
  pub reads_log : (d w : ℕ) → d < w → Reads ready (minutes_left minutes (take d (log w))) (t + d) n (get_or (log w) d 0)
  reads_log d w more =
      rw (take_log n ready minutes t d w (omega arith), entry_log n ready minutes t d w more) (reads_at d)
