-- `batch_of` meets its contract.
use Rattle.std.proofs.Common.{rules}
use Rattle.week.proofs.Stored.{recipes_stored}
use Rattle.sheet.specs.List.{recipe_from, batch_from}
use Rattle.sheet.proofs.list.batch_of.Goals as goal

pub returns : goal.returns
unfolding batch_from
returns c =
    let recipes =
    recipes_stored (recipe_from c.args.line.now) _ _ (search rules)
    (λ k low. search (rules, c.stored.ensures.first k low)) c.stored.ensures.beyond in
    cc
