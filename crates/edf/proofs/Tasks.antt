-- Tasks: the one that is found in a minute is the job that the run reads, and what that minute leaves of them.
use Prim.Native.Nat.{ℕ, zero, suc, ◌+◌, ◌-◌, ◌≤◌, ◌<◌}
use native.Mathlib.Numerals.{add-one}
use native.Mathlib.Omega.{arith}
use mathlib.Core.Path.{◌≡◌, refl, sym, ◌∙◌}
use mathlib.Core.Bool.{Bool, true, false, cond, false≢true}
use mathlib.Core.List.{List}
use lib.ListN.{length, get_or, set, take, length-set}
use lib.Seq.{get_or-take}
use lib.Dec.{ltb, eqb}
use borrow.Author.Tests.{eq-eqb, ne_eqb, ltb-false}
use Rattle.std.specs.Prelude.{Option, Some, None}
use Rattle.std.specs.List.{position, position_or_len}
use Rattle.std.proofs.lemmas.List.{length-take}
use Rattle.std.proofs.lemmas.List.Quantifiers.{position-Some}
use Rattle.std.proofs.lemmas.List.Sums.{fails_before_first}
use Rattle.arrays.proofs.Stores.{set_each}
use Rattle.edf.specs.declared.workload.Task.{Task}
use Rattle.edf.specs.Run.{Reads}
use Rattle.edf.specs.Workload.{no_task, is_pending, ready_in, left_in}
use Rattle.edf.proofs.Pending.{pending_true, true_pending, none_pending, next_passed, next_pending}

-- the entry of the log for the index that is found: positions count from 1, and 0 is idle
abbrev pub entry_of : Option ℕ → ℕ
entry_of None = 0
entry_of (Some i) = i + 1

-- where no task passes a test, each fails it
none_pass : (p : Task → Bool) (tasks : List Task) → None ≡ position p tasks → (i : ℕ) → i < length tasks →
    p (get_or tasks i no_task) ≡ false
none_pass p tasks none i inside = by_test (ltb (position_or_len p tasks) (length tasks)) refl none
  where
    by_test : (q : Bool) → ltb (position_or_len p tasks) (length tasks) ≡ q → None ≡ cond q (Some (position_or_len p tasks)) None →
        p (get_or tasks i no_task) ≡ false
    by_test true e n = absurd (cc)
    by_test false e n = fails_before_first p tasks i no_task (omega (arith, ltb-false _ _ e))

-- what is found in minute m among the first n tasks
module _ (tasks : List Task) (m n : ℕ) (within : n ≤ length tasks) where
  abbrev first : List Task
  first = take n tasks

  length_first : length first ≡ n
  length_first = omega (arith, length-take n tasks)

  pub found_pending : (i : ℕ) → Some i ≡ position (is_pending m) first →
      (i < n) × ((get_or tasks i no_task).ready ≤ m) × (1 ≤ (get_or tasks i no_task).minutes)
  found_pending i found =
      let at = position-Some (is_pending m) first i no_task (sym found) in
      let inside : i < n = omega (arith, at.0, length_first) in
      let both = pending_true _ _ m (rw (get_or-take n tasks i no_task inside) at at.1) in
      (inside, both.0, both.1)

  -- where each of the first i fails the test, none of them is pending
  none_first : (i : ℕ) → i ≤ n → ((k : ℕ) → k < i → is_pending m (get_or first k no_task) ≡ false) →
      Reads (ready_in tasks) (left_in tasks) m i 0
  none_first zero low fails = none_pending (ready_in tasks) (left_in tasks) m
  none_first (suc i) low fails =
      next_passed (none_first i (omega arith) (λ k l. fails k (omega arith)))
      (λ ready some.
      false≢true
      (sym (rw (get_or-take n tasks i no_task (omega arith)) at (fails i (omega arith))) ∙ true_pending _ _ m ready some))

  -- it is the job that the run reads
  pub reads_found : (found : Option ℕ) → found ≡ position (is_pending m) first →
      Reads (ready_in tasks) (left_in tasks) m n (entry_of found)
  reads_found None found =
      none_first n (omega arith) (λ k l. none_pass (is_pending m) first found k (omega (arith, length_first)))
  reads_found (Some i) found =
      let here = found_pending i found in
      let before = (position-Some (is_pending m) first i no_task (sym found)).2 in
      rw add-one (next_pending (none_first i (omega (arith, here.0)) before) here.0 here.1 here.2)

-- the tasks before and after a minute that reads the one at position k; 0 is idle
pub record Spent (k : ℕ) (tasks tasks' : List Task) : Type 0 where
  pub size : length tasks' ≡ length tasks
  pub ready : (j : ℕ) → ready_in tasks' j ≡ ready_in tasks j
  pub left : (j : ℕ) → left_in tasks' j ≡ left_in tasks j - cond (eqb k j) 1 0

module _ (tasks : List Task) where
  -- what the task at index i is after it
  abbrev read_once : ℕ → Task
  read_once i =
      let task = get_or tasks i no_task in
      record { ready = task.ready; minutes = task.minutes - 1; aside = task.aside }

  abbrev Read : ℕ → ℕ → Task → Type 0
  Read i k task =
      let before = get_or tasks k no_task in
      (task.ready ≡ before.ready) × (task.minutes ≡ before.minutes - cond (eqb (i + 1) (suc k)) 1 0)

  spent_at : (i : ℕ) → i < length tasks → (k : ℕ) → Read i k (get_or (set tasks i (read_once i)) k no_task)
  spent_at i inside =
      set_each no_task tasks i (read_once i) inside (Read i) (refl, rw (eq-eqb (i + 1) (suc i) (omega arith)))
      (λ k other. (refl, rw (ne_eqb (i + 1) (suc k) (λ e. other (omega arith))) (omega arith)))

  pub spent_one : (i : ℕ) → i < length tasks → Spent (i + 1) tasks (set tasks i (read_once i))
  spent_one i inside =
      record {
        size = length-set tasks i (read_once i);
        ready = elim [ zero ↦ refl | suc k ↦ (spent_at i inside k).0 ];
        left = elim [ zero ↦ omega arith | suc k ↦ (spent_at i inside k).1 ];
      }

  pub spent_none : Spent 0 tasks tasks
  spent_none =
      record {
        size = refl;
        ready = λ j. refl;
        left = elim [ zero ↦ omega arith | suc k ↦ rw (ne_eqb 0 (suc k) (λ e. omega arith)) (omega arith) ];
      }
