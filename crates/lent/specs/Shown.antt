-- The bytes of a table or a log, in runs: docs/WEEKDESK.md, ‘The operations’.
use Rattle.std.specs.Prelude.{ℕ, suc, ◌+◌, ◌*◌, ◌≤◌, ◌≡◌, cond, take, replicate, eqb}
use mathlib.Core.List.{List, [], ◌∷◌, ◌++◌, map, flatten}
use Rattle.arrays.specs.Each.{All}
use Rattle.arrays.specs.Text.{bytes}
use Rattle.text.specs.Decimal.{decimal}
use Rattle.text.specs.Line.{rest_of}
use Rattle.lent.specs.Size.{max_table}

-- bytes of one value that are neighbours
pub record Run : Type 0 where
  pub value : ℕ
  pub count : ℕ

abbrev pub run_of : (value count : ℕ) → Run
run_of value count = record { value = value; count = count }

-- b, before the first run: one more of it, or a run of its own
unfoldable pub joined : ℕ → List Run → List Run
joined b [] = run_of b 1 ∷ []
joined b (r ∷ runs) = cond (eqb b r.value) (run_of b (suc r.count) ∷ runs) (run_of b 1 ∷ r ∷ runs)

unfoldable pub runs_of : List ℕ → List Run
runs_of [] = []
runs_of (b ∷ bs) = joined b (runs_of bs)

-- ‘`0x10 2x20 1x71` is ten 0s, twenty 2s, seventy-one 1s’
unfoldable pub run_field : Run → List ℕ
run_field r = decimal r.value ++ (bytes "x" ++ decimal r.count)

-- ‘`table` or `log`, then every byte lent, in runs’: what follows the word
unfoldable pub shown_rest : List ℕ → List ℕ
shown_rest lent = rest_of (map run_field (runs_of (take max_table lent)))

-- the longest text: each byte a run of its own, as ` 255x1`, and the line feed
abbrev pub max_shown : ℕ
max_shown = 6 * max_table + 1

-- What the runs of some bytes are: spread out they are the bytes again; each has a byte or more; and neighbours are of different
-- values. There are no others (`runs_only`).
abbrev pub spread : Run → List ℕ
spread r = replicate r.count r.value

-- the first run, if there is one, is of another value
abbrev pub Other : ℕ → List Run → Type 0
Other v [] = Unit {0}
Other v (r ∷ runs) = v ≡ r.value → ⊥

abbrev pub Apart : List Run → Type 0
Apart [] = Unit {0}
Apart (r ∷ runs) = Other r.value runs × Apart runs

pub record AreRuns (lent : List ℕ) (runs : List Run) : Type 0 where
  pub whole : flatten (map spread runs) ≡ lent
  pub some : All (λ r. 1 ≤ r.count) runs
  pub apart : Apart runs
