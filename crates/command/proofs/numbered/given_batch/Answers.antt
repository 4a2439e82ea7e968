-- `given_batch` meets its contract.
use Prim.Native.Nat.{◌%◌}
use Rattle.std.proofs.Common.{rules, ◌≡◌, arith}
use borrow.Author.Tests.{le-leb, eq-eqb}
use Rattle.week.proofs.Stored.{recipes_stored}
use Rattle.command.specs.Numbered.{recipe_from, batch_from, given_batch}
use Rattle.command.proofs.numbered.given_batch.Goals as goal

pub returns : goal.returns
unfolding batch_from given_batch
returns c =
    let count = c.args.numbers.count in
    let odd : count % 2 ≡ 1 = omega arith in
    let recipes =
    recipes_stored (recipe_from c.args.numbers.values) _ _ (search rules) (λ k low. search (rules, c.stored.ensures.first k low))
    c.stored.ensures.beyond in
    rw (recipes, le-leb 3 count (omega arith), eq-eqb (count % 2) 1 odd)
