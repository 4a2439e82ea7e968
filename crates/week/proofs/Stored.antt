-- The recipes that `Batch::stored` answers, told there one by one, are an array made by a function.
use Prim.Native.Nat.{ℕ, ◌≤◌, ◌<◌, min}
use native.Mathlib.Omega.{arith}
use mathlib.Core.Path.{◌≡◌, sym, ◌∙◌}
use mathlib.Core.Logic.{⊎_elim}
use mathlib.Core.List.{List}
use lib.ListN.{length, get_or, get_or-eq_default}
use lib.Seq.{ext_get_or}
use Rattle.std.proofs.lemmas.Bool.{cases_lt}
use Rattle.arrays.specs.Made.{tabulate, padded}
use Rattle.arrays.proofs.Places.{length_padded, padded_at}
use Rattle.arrays.proofs.Tabulates.{length_tabulate, tabulate_at}
use Rattle.week.specs.declared.record.Recipe.{Recipe}
use Rattle.week.specs.Record.{max_recipes, no_recipe}

module _ (f : ℕ → Recipe) (n : ℕ) (recipes : List Recipe) where
  abbrev made : List Recipe
  made = tabulate f 0 (min n max_recipes)

  pub recipes_stored : length recipes ≡ max_recipes →
      ((k : ℕ) → k < min n max_recipes → get_or recipes k no_recipe ≡ f k) →
      ((k : ℕ) → n ≤ k → get_or recipes k no_recipe ≡ no_recipe) → recipes ≡ padded max_recipes no_recipe made
  recipes_stored long first beyond =
      ext_get_or no_recipe recipes (padded max_recipes no_recipe made)
      (long ∙ sym (length_padded max_recipes no_recipe made (omega (arith, size))))
      (λ k low. each k (omega arith) ∙ sym (padded_at max_recipes no_recipe made k))
    where
      size : length made ≡ min n max_recipes
      size = length_tabulate f 0 (min n max_recipes)

      each : (k : ℕ) → k < max_recipes → get_or recipes k no_recipe ≡ get_or made k no_recipe
      each k low =
          ⊎_elim (λ l. first k l ∙ sym (tabulate_at f (min n max_recipes) k no_recipe l))
          (λ (h : min n max_recipes ≤ k). beyond k (omega arith) ∙ sym (get_or-eq_default made no_recipe (omega (arith, size))))
          (cases_lt k (min n max_recipes))
