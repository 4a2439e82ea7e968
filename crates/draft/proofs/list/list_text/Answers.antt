-- `list_text`: what the loop has put are the lines of all batches that are kept.
use Rattle.std.proofs.Common.{arith, min}
use mathlib.Core.List.{flatten}
use Rattle.week.specs.Record.{no_batch}
use Rattle.draft.specs.Record.{max_kept}
use Rattle.draft.specs.List.{batch_line, batch_lines, list_lines}
use Rattle.draft.proofs.Parts.{all_parts}
use Rattle.draft.proofs.list.list_text.Goals as goal

pub returns : goal.returns
unfolding flatten batch_lines list_lines
returns c =
    let d = c.args.draft in
    let n = min d.count max_kept in
    let turns = c.loop-batch.batch-index in
    let all = all_parts batch_line no_batch d.batches d.count n (omega arith) c.listed-batch-items.ensures turns (omega arith) in
    rw (all, c.week_line.ensures.line, c.new-text.ensures) at c.loop-batch.invariant.put
