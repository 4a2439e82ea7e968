-- What owning a plan tells: it has a place for each of sixteen batches.
use mathlib.Core.Path.{◌≡◌}
use mathlib.Core.List.{List}
use lib.ListN.{length}
use mir.Val.{Val}
use denote.Laws.{Is}
use Rattle.week.specs.Record.{max_batches}
use Rattle.planner.specs.declared.choose.Plan.{Plan}
use Rattle.planner.specs.contracts.choose.Plan as P

pub recipes_owned : (plan : Plan) (vs : List Val) → Is P.the_row plan vs → length plan.choice ≡ max_batches
recipes_owned plan vs h = h.1.1.1.0.1.0.1
