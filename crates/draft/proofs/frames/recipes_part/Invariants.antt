-- `recipes_part`: the loop puts one recipe a turn.
use Prim.Native.Nat.{◌+◌, ◌*◌}
use mathlib.Core.Path.{◌≡◌}
use mathlib.Core.List.{◌++◌}
use lib.ListN.{length, take}
use Rattle.std.specs.List.{flat_map}
use Rattle.sheet.specs.Frame.{recipe_length}
use Rattle.draft.specs.Sheet.{recipe_part}
use Rattle.draft.proofs.frames.recipes_part.Given as goal

abbrev pub invariant-loop-recipe : goal.invariant-loop-recipe
invariant-loop-recipe l = record {
  put : l.text ≡ l.initial.text ++ flat_map recipe_part (take l.recipe-index l.recipe-items);
  width : length l.text ≡ length l.initial.text + recipe_length * l.recipe-index;
}
