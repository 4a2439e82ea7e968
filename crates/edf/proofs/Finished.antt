-- A job that has all its minutes before minute e gets none later: the run finishes it by e.
use Prim.Native.Nat.{ℕ, zero, suc, ◌+◌, ◌-◌, ◌≤◌}
use native.Mathlib.Omega.{arith}
use mathlib.Core.Path.{◌≡◌, refl}
use mathlib.Core.Bool.{Bool, true, false}
use mathlib.Core.List.{List, [], ◌∷◌}
use lib.ListN.{take}
use lib.Dec.{eqb}
use borrow.Author.Tests.{le-leb}
use Rattle.edf.specs.declared.outcome.Outcome.TheVariants.{Finished}
use Rattle.edf.specs.Run.{entries, log_of, minutes_before, up_to_last, outcome_of}
use Rattle.edf.proofs.Logs.{entries-take}
use Rattle.edf.proofs.Counts.{up_to_last_next}
use Rattle.edf.proofs.Left.{read_left}

last_none : (j : ℕ) (log : List ℕ) → entries j log ≡ 0 → up_to_last j log ≡ 0
unfolding up_to_last entries
last_none j [] none = refl
last_none j (x ∷ log) none = by_entry (eqb x j) refl (last_none j log (omega arith))
  where
    by_entry : (q : Bool) → eqb x j ≡ q → up_to_last j log ≡ 0 → up_to_last j (x ∷ log) ≡ 0
    by_entry true here rest = absurd (omega (arith, rw here at none))
    by_entry false other rest = rw (rest, other)

-- where all the entries of a job are among the first d, so is the last
last_within : (j d : ℕ) (log : List ℕ) → entries j log ≤ entries j (take d log) → up_to_last j log ≤ d
unfolding up_to_last entries
last_within j d [] all = omega arith
last_within j zero (x ∷ log) all = omega (arith, last_none j (x ∷ log) (omega arith))
last_within j (suc d) (x ∷ log) all = up_to_last_next j x log d (last_within j d log (omega arith))

pub finished_by : (n : ℕ) (ready minutes : ℕ → ℕ) (t w e j : ℕ) → 1 ≤ j → t ≤ e →
    minutes_before e t (log_of n ready minutes t w) j ≡ minutes j →
    (f : ℕ) × (outcome_of false (minutes j) t (log_of n ready minutes t w) j ≡ Finished f) × (f ≤ e)
unfolding minutes_before outcome_of
finished_by n ready minutes t w e j low after got =
    let log = log_of n ready minutes t w in
    let whole : minutes j ≤ entries j log = omega (arith, entries-take j (e - t) log) in (
      t + up_to_last j log,
      rw (le-leb (minutes j) (entries j log) whole),
      omega (arith, last_within j (e - t) log (omega (arith, read_left n ready minutes t w j low))),
    )
