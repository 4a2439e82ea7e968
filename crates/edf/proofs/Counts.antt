-- What is counted over a log is at most its length; and no entry of a job comes after the last.
use Prim.Native.Nat.{ℕ, zero, suc, ◌+◌, ◌-◌, ◌≤◌}
use native.Mathlib.Omega.{arith}
use mathlib.Core.Path.{◌≡◌, refl}
use mathlib.Core.Bool.{Bool, true, false, cond, ◌&&◌, not}
use mathlib.Core.List.{List, [], ◌∷◌}
use lib.ListN.{length, take}
use lib.Dec.{eqb}
use Rattle.std.specs.Prelude.{◌==◌}
use Rattle.std.specs.List.{count_by}
use Rattle.std.proofs.lemmas.List.Recursion.{is_count_by}
use Rattle.std.proofs.lemmas.List.Sums.{count_by-le-length}
use Rattle.edf.specs.Run.{entries, changes_after, changes, up_to_last}

one_at_most : (q : Bool) → cond q 1 0 ≤ 1
one_at_most true = omega arith
one_at_most false = omega arith

-- how many entries are j is std's count of them
pub entries_count : (j : ℕ) (log : List ℕ) → entries j log ≡ count_by (λ x. x == j) log
unfolding entries
entries_count j = is_count_by (entries j) (λ x. x == j) refl (λ x xs. by_test (eqb x j) (entries j xs))
  where
    by_test : (q : Bool) (n : ℕ) → cond q 1 0 + n ≡ cond q (1 + n) n
    by_test true n = refl
    by_test false n = omega arith

pub entries_short : (j : ℕ) (log : List ℕ) → entries j log ≤ length log
entries_short j log = omega (arith, entries_count j log, count_by-le-length (λ x. x == j) log)

changes_after_short : (p : ℕ) (log : List ℕ) → changes_after p log ≤ length log
unfolding changes_after
changes_after_short p [] = omega arith
changes_after_short p (x ∷ xs) = omega (arith, one_at_most (not (eqb x 0) && not (eqb x p)), changes_after_short x xs)

pub changes_short : (log : List ℕ) → changes log ≤ length log
unfolding changes
changes_short log = changes_after_short 0 log

pub up_to_last_next : (j x : ℕ) (log : List ℕ) (d : ℕ) → up_to_last j log ≤ d → up_to_last j (x ∷ log) ≤ suc d
unfolding up_to_last
up_to_last_next j x log d rest = by_last (up_to_last j log) refl (eqb x j) refl
  where
    by_last : (u : ℕ) → up_to_last j log ≡ u → (q : Bool) → eqb x j ≡ q → up_to_last j (x ∷ log) ≤ suc d
    by_last zero e true f = rw (e, f) (omega arith)
    by_last zero e false f = rw (e, f) (omega arith)
    by_last (suc u) e q f = rw e (omega arith)

pub up_to_last_short : (j : ℕ) (log : List ℕ) → up_to_last j log ≤ length log
unfolding up_to_last
up_to_last_short j [] = omega arith
up_to_last_short j (x ∷ xs) = up_to_last_next j x xs (length xs) (up_to_last_short j xs)

pub ruleset short = (entries_short, changes_short, up_to_last_short)

-- one entry more before a log: the last stands at least one place further on, and not before that entry if it is one
last_further : (j x : ℕ) (log : List ℕ) →
    (up_to_last j log ≤ up_to_last j (x ∷ log) - 1) × (cond (eqb x j) 1 0 ≤ up_to_last j (x ∷ log))
unfolding up_to_last
last_further j x log = by_last (up_to_last j log) refl (eqb x j) refl
  where
    by_last : (u : ℕ) → up_to_last j log ≡ u → (q : Bool) → eqb x j ≡ q →
        (up_to_last j log ≤ up_to_last j (x ∷ log) - 1) × (cond (eqb x j) 1 0 ≤ up_to_last j (x ∷ log))
    by_last zero e true f = rw (e, f) (omega arith)
    by_last zero e false f = rw (e, f) (omega arith)
    by_last (suc u) e true f = rw (e, f) (omega arith)
    by_last (suc u) e false f = rw (e, f) (omega arith)

-- where the last entry of a job is among the first d, so are all
pub all_within : (j d : ℕ) (log : List ℕ) → up_to_last j log ≤ d → entries j log ≤ entries j (take d log)
unfolding entries
all_within j d [] last = omega arith
all_within j zero (x ∷ log) last =
    omega (arith, last_further j x log, all_within j zero log (omega (arith, last_further j x log)))
all_within j (suc d) (x ∷ log) last = omega (arith, all_within j d log (omega (arith, last_further j x log)))
