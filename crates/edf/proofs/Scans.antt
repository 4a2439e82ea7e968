-- Scans of a log: what is left of its entries and changes from some place on, and where the last entry of a job stands.
use Prim.Native.Nat.{ℕ, zero, suc, ◌+◌, ◌≤◌, ◌<◌}
use native.Mathlib.Omega.{arith}
use mathlib.Core.Path.{◌≡◌, refl}
use mathlib.Core.Bool.{cond, ◌&&◌, not}
use mathlib.Core.List.{List, [], ◌∷◌}
use lib.ListN.{length, get_or, drop}
use lib.Dec.{eqb}
use borrow.Author.Tests.{eq-eqb, ne_eqb}
use Rattle.std.proofs.lemmas.List.{at_drop_more, at_drop_all}
use Rattle.edf.specs.Run.{entries, changes_after, up_to_last}

-- entry m among the entries that are left to count, and none at the end
pub entries_more : (j : ℕ) (log : List ℕ) (m : ℕ) → m < length log →
    entries j (drop m log) ≡ cond (eqb (get_or log m 0) j) 1 0 + entries j (drop (m + 1) log)
unfolding entries
entries_more j log m more = at_drop_more (entries j) log m 0 more

pub entries_done : (j : ℕ) (log : List ℕ) (m : ℕ) → length log ≤ m → entries j (drop m log) ≡ 0
unfolding entries
entries_done j log m over = at_drop_all (entries j) log m over

-- entry m of the changes that are left, and none at the end
pub changes_more : (p : ℕ) (log : List ℕ) (m : ℕ) → m < length log →
    changes_after p (drop m log)
    ≡ cond (not (eqb (get_or log m 0) 0) && not (eqb (get_or log m 0) p)) 1 0 + changes_after (get_or log m 0) (drop (m + 1) log)
unfolding changes_after
changes_more p log m more = at_drop_more (changes_after p) log m 0 more

pub changes_done : (p : ℕ) (log : List ℕ) (m : ℕ) → length log ≤ m → changes_after p (drop m log) ≡ 0
unfolding changes_after
changes_done p log m over = at_drop_all (changes_after p) log m over

-- none of the entries is j: there is no last
pub never_last : (j : ℕ) (log : List ℕ) → ((k : ℕ) → k < length log → get_or log k 0 ≡ j → ⊥) → up_to_last j log ≡ 0
unfolding up_to_last
never_last j [] none = refl
never_last j (x ∷ log) none =
    rw (never_last j log (λ k l e. none (suc k) (omega arith) e), ne_eqb x j (none 0 (omega arith)))

-- entry i is j, and no later one is: it is the last
pub last_at : (j i : ℕ) (log : List ℕ) → i < length log → get_or log i 0 ≡ j →
    ((k : ℕ) → i < k → k < length log → get_or log k 0 ≡ j → ⊥) → up_to_last j log ≡ suc i
unfolding up_to_last
last_at j i [] inside here later = absurd (omega arith)
last_at j zero (x ∷ log) inside here later =
    rw (never_last j log (λ k l e. later (suc k) (omega arith) (omega arith) e), eq-eqb x j here)
last_at j (suc i) (x ∷ log) inside here later =
    rw (last_at j i log (omega arith) here (λ k after l e. later (suc k) (omega arith) (omega arith) e))
