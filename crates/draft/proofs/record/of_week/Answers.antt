-- `of_week`: there is room for all batches of the week.
use Rattle.std.proofs.Common.{arith}
use Rattle.std.proofs.lemmas.List.{take_all}
use Rattle.draft.specs.Record.{max_kept, of_week}
use Rattle.draft.proofs.record.of_week.Goals as goal

pub returns : goal.returns
unfolding of_week
returns c = rw (c.with_places.ensures, take_all max_kept c.args.week.batches (omega arith))
