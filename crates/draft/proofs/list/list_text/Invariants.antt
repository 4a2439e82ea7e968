-- `list_text`: after the week's line the loop puts one line more a turn.
use Prim.Native.Nat.{◌+◌, ◌*◌, ◌≤◌}
use mathlib.Core.Path.{◌≡◌}
use mathlib.Core.List.{◌++◌}
use lib.ListN.{length, take}
use Rattle.std.specs.List.{flat_map}
use Rattle.text.specs.Line.{week_width}
use Rattle.draft.specs.List.{batch_line, batch_width}
use Rattle.draft.proofs.list.list_text.Given as goal

abbrev pub invariant-loop-batch : goal.invariant-loop-batch
invariant-loop-batch l = record {
  put : l.text ≡ l.initial.text ++ flat_map batch_line (take l.batch-index l.batch-items);
  width : length l.text ≤ week_width + l.batch-index * batch_width;
}
