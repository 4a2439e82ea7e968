-- `frames`: what the loop has put are all frames.
use Rattle.std.proofs.Common.{arith}
use mathlib.Core.List.{flatten}
use Rattle.week.specs.Record.{no_batch}
use Rattle.draft.specs.Sheet.{batch_frame, batch_frames, sheet_frames}
use Rattle.draft.proofs.Parts.{all_parts}
use Rattle.draft.proofs.frames.frames.Goals as goal

pub returns : goal.returns
unfolding flatten batch_frames sheet_frames
returns c =
    let d = c.args.draft in
    let turns = c.loop-batch.batch-index in
    let all = all_parts batch_frame no_batch d.batches d.count d.count (omega arith) c.listed-batch-items.ensures turns (omega arith) in
    rw (all, c.week_frame.ensures.frame, c.new-text.ensures) at c.loop-batch.invariant.put
