-- The backward rule: document 01, "The backward rule"; source document 000, equations 3 and 4, with lines 20 to 22 of
-- its algorithm for a cancelled job. Jobs and choices stand last first; x is the bound, which starts at the close.
use Rattle.std.specs.Prelude.{ℕ, suc, ◌+◌, ◌-◌, min, Bool, true, false, cond, ◌&&◌, List, [], ◌∷◌, length, leb, Some, None}
use Rattle.jobs.specs.declared.model.Version.{Version}
use Rattle.jobs.specs.declared.model.Job.{Job}
use Rattle.jobs.specs.declared.rule.Stretch.{Stretch}
use Rattle.jobs.specs.Model.{version_of}

-- "For a batch that is read, its stretch ends at the smaller of d and the bound"
abbrev pub end_of : Job → ℕ → ℕ
end_of j x = min j.due x

-- "and starts its recipe's cost earlier." "A batch that is set aside .. leaves the bound; its stretch starts and ends at the
-- bound."
unfoldable pub stretch_of : Job → Version → ℕ → Stretch
stretch_of j v x =
    elim v.minutes [
      | Some minutes ↦ record { start = end_of j x - minutes; end = end_of j x }
      | None ↦ record { start = x; end = x }
    ]

-- "The rule asks that s plus the cost is at most that end." "A batch that is set aside asks nothing".
unfoldable pub fits : Job → Version → ℕ → Bool
fits j v x = elim v.minutes [ Some minutes ↦ leb (j.ready + minutes) (end_of j x) | None ↦ true ]

-- "The start becomes the next bound."
unfoldable pub next_bound : Job → Version → ℕ → ℕ
next_bound j v x = (stretch_of j v x).start

-- "It meets the rule if what the rule asks holds at every batch."
abbrev pub meets : List Job → ℕ → List ℕ → Bool
meets [] x ks = true
meets (j ∷ js) x [] = false
meets (j ∷ js) x (k ∷ ks) = fits j (version_of j k) x && meets js (next_bound j (version_of j k) x) ks

-- refusal 15: "the first failing position met going backward", or 0
abbrev pub failing : List Job → ℕ → List ℕ → ℕ
failing [] x ks = 0
failing (j ∷ js) x [] = suc (length js)
failing (j ∷ js) x (k ∷ ks) = cond (fits j (version_of j k) x) (failing js (next_bound j (version_of j k) x) ks) (suc (length js))

-- the stretches of a choice, the last job's first
abbrev pub stretches : List Job → ℕ → List ℕ → List Stretch
stretches [] x ks = []
stretches (j ∷ js) x [] = []
stretches (j ∷ js) x (k ∷ ks) = stretch_of j (version_of j k) x ∷ stretches js (next_bound j (version_of j k) x) ks
