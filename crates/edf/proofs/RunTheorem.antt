-- The run theorem: if from any minute on the jobs up to position i that are ready then or later need no more than the minutes from
-- then to minute e, the run has read jobs 1 to i to their end by e.
use Prim.Native.Nat.{ℕ, zero, suc, ◌+◌, ◌-◌, ◌≤◌, ◌<◌}
use native.Mathlib.Decide.{dec_le}
use native.Mathlib.Omega.{arith}
use mathlib.Core.Path.{◌≡◌, ap}
use borrow.Author.Tests.{le-leb}
use Rattle.arrays.specs.Sum.{sum_to}
use Rattle.arrays.proofs.Sums.{sum_part, sum_le, sum_less}
use Rattle.edf.specs.Run.{entries, log_of, minutes_before}
use Rattle.edf.specs.Needed.{needed_from, demand_from}
use Rattle.edf.proofs.Logs.{left_at, read_at, take_log}
use Rattle.edf.proofs.Left.{reads_at, read_left, left_read, left_falls}

module _
    (n : ℕ) (ready minutes : ℕ → ℕ) (t i e : ℕ)
    (within : i ≤ n)
    (from : (j : ℕ) → 1 ≤ j → j ≤ i → t ≤ ready j)
    (fits : (m : ℕ) → t ≤ m → demand_from ready minutes m i ≤ e - m)
  where
    abbrev left : ℕ → ℕ → ℕ
    left d j = left_at n ready minutes t d j

    abbrev next : ℕ → ℕ
    next d = read_at n ready minutes t d

    -- those of jobs 1 to i that are ready before minute t + d are read to their end
    abbrev Done : ℕ → Type 0
    Done d = (j : ℕ) → 1 ≤ j → j ≤ i → ready j < t + d → left d j ≡ 0

    done_fits : (d : ℕ) → Done d → sum_to (left d) i ≤ e - (t + d)
    unfolding demand_from
    done_fits d done =
        omega (
          arith,
          fits (t + d) (omega arith),
          sum_le (left d) (needed_from ready minutes (t + d)) i (λ j low high.
              elim (dec_le (t + d) (ready j)) [
                | yes later ↦ rw (le-leb (t + d) (ready j) later) (omega (arith, read_left n ready minutes t d j low))
                | no earlier ↦ omega (arith, done j low high (omega arith))
              ]),
        )

    -- a minute in which none of them is read
    none_done : (d : ℕ) → (1 ≤ next d → i < next d) → Done (suc d)
    none_done d none j low high earlier =
        elim (dec_le 1 (left d j)) [
          | yes some ↦
              let first = (reads_at n ready minutes t d).first j low (omega arith) (omega arith) some in
              absurd (omega (arith, none first.0))
          | no over ↦ omega (arith, left_falls n ready minutes t d j)
        ]

    -- what is left of jobs 1 to i fits into the minutes that are left before e
    left_fits : (d : ℕ) → sum_to (left d) i ≤ e - (t + d)
    left_fits zero = done_fits 0 (λ j low high earlier. absurd (omega (arith, from j low high)))
    left_fits (suc d) =
        elim (dec_le 1 (next d)) [
          | yes some ↦ elim (dec_le (next d) i) [
            | yes one ↦
                omega (
                  arith,
                  left_fits d,
                  sum_less (left (suc d)) (left d) i (λ j low high. left_falls n ready minutes t d j) (next d) some one
                      (omega (arith, left_read n ready minutes t d some)),
                )
            | no beyond ↦ done_fits (suc d) (none_done d (λ q. omega arith))
          ]
          | no idle ↦ done_fits (suc d) (none_done d (λ q. absurd (idle q)))
        ]

    pub run_theorem : (w : ℕ) → t ≤ e → e ≤ t + w → (j : ℕ) → 1 ≤ j → j ≤ i →
        minutes_before e t (log_of n ready minutes t w) j ≡ minutes j
    unfolding minutes_before
    run_theorem w after before j low high =
        omega (
          arith,
          ap (entries j) (take_log n ready minutes t (e - t) w (omega arith)),
          read_left n ready minutes t (e - t) j low,
          left_fits (e - t),
          sum_part (left (e - t)) j i low high,
        )
