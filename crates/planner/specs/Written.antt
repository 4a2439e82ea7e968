-- A choice over the numbers that the desk wrote: the recipes that it names, and the backward rule. Demand 2: "the desk's minutes stand as
-- written". A choice is an array in list order here; positions count from 1, in the list in order.
use Rattle.std.specs.Prelude.{ℕ, zero, suc, ◌+◌, ◌-◌, ◌≤◌, ◌<◌, min, cond, not, List, eqb}
use Rattle.arrays.specs.Position.{at_position}
use Rattle.jobs.specs.declared.rule.Stretch.{Stretch}
use Rattle.week.specs.declared.record.Recipe.{Recipe}
use Rattle.week.specs.Record.{Week, batch_of, recipe_of, ready_of}
use Rattle.week.specs.Ordered.{ordered_week}

module _ (w : Week) (choice : List ℕ) where
  -- the recipe that the choice names at position i, its minutes and its worth
  abbrev pub chosen_recipe : ℕ → Recipe
  chosen_recipe i = recipe_of (batch_of (ordered_week w) i) (at_position 0 choice i)

  abbrev pub chosen_minutes : ℕ → ℕ
  chosen_minutes i = (chosen_recipe i).cost

  abbrev pub chosen_worth : ℕ → ℕ
  chosen_worth i = (chosen_recipe i).worth

  -- "For a batch that is read, its stretch ends at the smaller of d and the bound, and starts its recipe's cost earlier." "A batch that
  -- is set aside .. leaves the bound; its stretch starts and ends at the bound.": position i under the bound x
  unfoldable pub stretch_under : ℕ → ℕ → Stretch
  stretch_under x i =
      let end = min (batch_of (ordered_week w) i).due x in
      cond (not (eqb (chosen_minutes i) 0))
      (record { start = end - chosen_minutes i; end = end })
      (record { start = x; end = x })

  -- "Go from the last batch to the first, with a bound that starts at c." "The start becomes the next bound.": after m batches
  unfoldable pub bound_after : ℕ → ℕ
  bound_after zero = w.closing
  bound_after (suc m) = (stretch_under (bound_after m) (w.count - m)).start

  -- the stretch that position i so has
  abbrev pub written_stretch : ℕ → Stretch
  written_stretch i = stretch_under (bound_after (w.count - i)) i

  -- "The rule asks that s plus the cost is at most that end.", of a batch that is read; one that is set aside "asks nothing"
  abbrev pub FitsAt : ℕ → Type 0
  FitsAt i = 1 ≤ chosen_minutes i → ready_of w.opening (batch_of (ordered_week w) i) + chosen_minutes i ≤ (written_stretch i).end

  -- "It meets the rule if what the rule asks holds at every batch."
  abbrev pub MeetsAsWritten : Type 0
  MeetsAsWritten = (i : ℕ) → 1 ≤ i → i ≤ w.count → FitsAt i

  -- "the first failing position met going backward"
  abbrev pub FirstFailing : ℕ → Type 0
  FirstFailing i = (FitsAt i → ⊥) × ((h : ℕ) → i < h → h ≤ w.count → FitsAt h)
