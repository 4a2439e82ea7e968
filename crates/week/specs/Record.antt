-- The records that the desk hands in: document 01, "What the planner holds".
use Rattle.std.specs.Prelude.{ℕ, ◌-◌, max, [], get_or, replicate}
use Rattle.arrays.specs.Position.{at_position}
use Rattle.jobs.specs.Model.{max_jobs, max_span, max_versions}
use Rattle.week.specs.declared.record.Recipe.{Recipe}
use Rattle.week.specs.declared.record.Batch.{Batch}
use Rattle.week.specs.declared.record.Listing.{Listing}

-- "The week lasts at most 2,400 minutes. A list has at most 16 batches, each with at most 10 recipes."
abbrev pub max_minutes : ℕ
max_minutes = max_span

abbrev pub max_batches : ℕ
max_batches = max_jobs

abbrev pub max_recipes : ℕ
max_recipes = max_versions

-- a list of a week, by value
abbrev pub Week : Type 0
Week = Listing max_batches

abbrev pub no_recipe : Recipe
no_recipe = record { cost = 0; worth = 0 }

abbrev pub empty_batch : Batch
empty_batch = record { number = 0; arrival = 0; due = 0; count = 0; recipes = replicate max_recipes no_recipe }

-- an empty list of a week, with places for n batches
abbrev pub empty_listing : (n : ℕ) → ℕ → ℕ → Listing n
empty_listing n t c = record { opening = t; closing = c; count = 0; batches = replicate n empty_batch }

abbrev pub empty_week : ℕ → ℕ → Week
empty_week = empty_listing max_batches

-- what stands past the end of the array
abbrev pub no_batch : Batch
no_batch = record { number = 0; arrival = 0; due = 0; count = 0; recipes = [] }

-- the batch and the recipe of an index, from 0
abbrev pub batch_at : Week → ℕ → Batch
batch_at w i = get_or w.batches i no_batch

abbrev pub recipe_at : Batch → ℕ → Recipe
recipe_at b k = get_or b.recipes k no_recipe

-- the same by position and by number, from 1
abbrev pub batch_of : Week → ℕ → Batch
batch_of w i = at_position no_batch w.batches i

abbrev pub recipe_of : Batch → ℕ → Recipe
recipe_of b k = at_position no_recipe b.recipes k

-- the number of the batch of an index
abbrev pub number_at : Week → ℕ → ℕ
number_at w i = (batch_at w i).number

-- how many minutes there are from t to c − 1
abbrev pub span_of : Week → ℕ
span_of w = w.closing - w.opening

-- "A batch's ready minute s is the greater of t and r."
abbrev pub ready_of : ℕ → Batch → ℕ
ready_of t b = max t b.arrival
