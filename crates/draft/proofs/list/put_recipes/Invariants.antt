-- `put_recipes`: the loop puts one recipe a turn.
use Prim.Native.Nat.{◌+◌, ◌*◌, ◌≤◌}
use mathlib.Core.Path.{◌≡◌}
use mathlib.Core.List.{◌++◌}
use lib.ListN.{length}
use Rattle.text.proofs.Spacing.{numbers}
use Rattle.draft.specs.List.{recipes_numbers, recipe_width}
use Rattle.draft.proofs.list.put_recipes.Given as goal

abbrev pub invariant-loop-recipe : goal.invariant-loop-recipe
invariant-loop-recipe l = record {
  put : l.text ≡ l.initial.text ++ numbers (recipes_numbers l.fn.batch l.recipe-index);
  width : length l.text ≤ length l.initial.text + l.recipe-index * recipe_width;
}
