-- `frames`: after the week's frame the loop puts one frame more a turn.
use Prim.Native.Nat.{◌+◌, ◌*◌, ◌≤◌}
use mathlib.Core.Path.{◌≡◌}
use mathlib.Core.List.{◌++◌}
use lib.ListN.{length, take}
use Rattle.std.specs.List.{flat_map}
use Rattle.week.specs.Record.{max_recipes}
use Rattle.sheet.specs.Frame.{week_length, batch_length, recipe_length}
use Rattle.draft.specs.Sheet.{batch_frame}
use Rattle.draft.proofs.frames.frames.Given as goal

abbrev pub invariant-loop-batch : goal.invariant-loop-batch
invariant-loop-batch l = record {
  put : l.text ≡ l.initial.text ++ flat_map batch_frame (take l.batch-index l.batch-items);
  width : length l.text ≤ week_length + l.batch-index * (batch_length + recipe_length * max_recipes);
}
