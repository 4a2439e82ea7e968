-- What jobs need of the station from some minute on. Jobs are numbered from 1 in list order; `ready j` is job j's ready minute and
-- `minutes j` what it has to read.
use Rattle.std.specs.Prelude.{ℕ, cond, leb}
use Rattle.arrays.specs.Sum.{sum_to}

-- the minutes of job j if it is ready at minute m or later
abbrev pub needed_from : (ready minutes : ℕ → ℕ) → ℕ → ℕ → ℕ
needed_from ready minutes m j = cond (leb m (ready j)) (minutes j) 0

-- the minutes of jobs 1 to i that are ready at minute m or later
unfoldable pub demand_from : (ready minutes : ℕ → ℕ) → ℕ → ℕ → ℕ
demand_from ready minutes m i = sum_to (needed_from ready minutes m) i
