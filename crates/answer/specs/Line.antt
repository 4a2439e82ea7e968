-- The lines of an answer: docs/WEEKDESK.md, ‘The operations’.
use Rattle.std.specs.Prelude.{ℕ, ◌+◌, ◌*◌}
use mathlib.Core.List.{List, [], ◌∷◌, map, flatten}
use Rattle.arrays.specs.Text.{bytes}
use Rattle.jobs.specs.declared.rule.Stretch.{Stretch}
use Rattle.edf.specs.declared.outcome.Outcome.{Outcome}
use Rattle.edf.specs.declared.outcome.Outcome.TheVariants.{SetAside, Finished, Unfinished}
use Rattle.week.specs.Record.{max_batches}
use Rattle.text.specs.Decimal.{decimal}
use Rattle.text.specs.Line.{line_of, counts}

-- ‘`plan TOTAL`’, ‘`passed TOTAL`’
unfoldable pub total_line : List ℕ → ℕ → List ℕ
total_line word total = line_of word (decimal total ∷ [])

-- ‘`ran changes N idle N`’
unfoldable pub ran_line : (changes idle : ℕ) → List ℕ
ran_line changes idle = line_of (bytes "ran") (counts changes idle)

-- a word, and after it the fields of each batch, in list order
abbrev pub each_line : {A : Type 0} → List ℕ → (A → List (List ℕ)) → List A → List ℕ
each_line word fields batches = line_of word (flatten (map fields batches))

-- ‘`recipes K K ..`’
abbrev pub recipe_fields : ℕ → List (List ℕ)
recipe_fields recipe = map decimal (recipe ∷ [])

abbrev pub recipes_line : List ℕ → List ℕ
recipes_line = each_line (bytes "recipes") recipe_fields

-- ‘`stretches S E S E ..`’
abbrev pub stretch_fields : Stretch → List (List ℕ)
stretch_fields s = map decimal (s.start ∷ s.end ∷ [])

abbrev pub stretches_line : List Stretch → List ℕ
stretches_line = each_line (bytes "stretches") stretch_fields

-- ‘`outcomes ..`: for each batch `aside`, `finished M` or `unfinished M`’
unfoldable pub outcome_fields : Outcome → List (List ℕ)
outcome_fields SetAside = bytes "aside" ∷ []
outcome_fields (Finished minute) = bytes "finished" ∷ decimal minute ∷ []
outcome_fields (Unfinished left) = bytes "unfinished" ∷ decimal left ∷ []

abbrev pub outcomes_line : List Outcome → List ℕ
outcomes_line = each_line (bytes "outcomes") outcome_fields

-- the widest first lines, line feeds counted: `passed 4294967295`; `ran changes 65535 idle 65535`
abbrev pub total_width : ℕ
total_width = 18

abbrev pub ran_width : ℕ
ran_width = 29

-- the widest fields of a batch, with the spaces before them: ` 255`; ` 65535 65535`; ` unfinished 65535`
abbrev pub recipe_width : ℕ
recipe_width = 4

abbrev pub stretch_width : ℕ
stretch_width = 12

abbrev pub outcome_width : ℕ
outcome_width = 17

-- the widest second line, its line feed counted: `outcomes`, and sixteen that are unfinished
abbrev pub batches_width : ℕ
batches_width = 9 + max_batches * outcome_width
