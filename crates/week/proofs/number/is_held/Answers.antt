use mathlib.Core.Path.{◌∙◌}
use lib.Dec.{eqb}
use Rattle.std.proofs.Common.{rules, tests}
use Rattle.std.proofs.lemmas.Iterator.{YieldsList-from_slice}
use Rattle.std.proofs.lemmas.Iterator.Search.{any_from_yields_List}
use Rattle.week.specs.declared.record.Batch.{Batch}
use Rattle.week.proofs.Numbers.{held_any}
use Rattle.week.proofs.number.is_held.Goals as goal

pub returns : goal.returns
returns c =
    let number = c.args.number in
    let batches = c.args.batches.now in
    any_from_yields_List (λ (b : Batch). eqb b.number number) _ _ _ c.any.ensures.ran (YieldsList-from_slice batches cc)
    (λ x b q k. search (rules, tests))
    ∙ held_any number batches
