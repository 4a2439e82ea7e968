-- The picks table: document 01, "The picks table". Jobs stand last first; t is the opening, and a row has w entries, one for
-- each close from t on.
use Rattle.std.specs.Prelude.{ℕ, ◌+◌, ◌-◌, ◌*◌, List, [], ◌∷◌, ◌++◌, length, drop}
use Rattle.arrays.specs.Made.{tabulate}
use Rattle.jobs.specs.declared.model.Job.{Job}
use Rattle.jobs.specs.Best.{pick}

-- "For position i (from 1) and minute x from t to c": row i holds, for each x, "the recipe that the best choice for batches 1
-- to i, with x as the closing minute, gives to batch i; it is 0 if no choice exists"
abbrev pub picks : List Job → ℕ → ℕ → List ℕ
picks [] t w = []
picks (j ∷ js) t w = picks js t w ++ tabulate (pick (j ∷ js)) t w

-- "Later bytes of the table keep their values."
unfoldable pub filled : List Job → ℕ → ℕ → List ℕ → List ℕ
filled js t w table = picks js t w ++ drop (length js * w) table

-- "entry (i − 1) × (c − t + 1) + (x − t), counted from 0"
abbrev pub entry_at : ℕ → ℕ → ℕ → ℕ → ℕ
entry_at t w i x = (i - 1) * w + (x - t)
