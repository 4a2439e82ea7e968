-- What an outcome says in numbers.
use Prim.Native.Nat.{ℕ, ◌+◌, ◌-◌}
use mathlib.Core.Path.{◌≡◌, refl}
use mathlib.Core.Bool.{Bool, true, false, cond}
use mathlib.Core.List.{List, [], ◌∷◌}
use lib.Dec.{leb}
use Rattle.edf.specs.Run.{entries, up_to_last, outcome_of, outcome_numbers}

-- test by test: set aside or not, read to its end or not
pub outcome_numbers_lem : (aside : Bool) (m t : ℕ) (log : List ℕ) (j : ℕ) →
    outcome_numbers (outcome_of aside m t log j)
    ≡ cond aside (0 ∷ 0 ∷ []) (cond (leb m (entries j log)) (1 ∷ (t + up_to_last j log) ∷ []) (2 ∷ (m - entries j log) ∷ []))
unfolding outcome_of outcome_numbers
outcome_numbers_lem true m t log j = refl
outcome_numbers_lem false m t log j = by_read (leb m (entries j log)) refl
  where
    by_read : (q : Bool) → leb m (entries j log) ≡ q →
        outcome_numbers (outcome_of false m t log j) ≡ cond q (1 ∷ (t + up_to_last j log) ∷ []) (2 ∷ (m - entries j log) ∷ [])
    by_read true e = rw e
    by_read false e = rw e
