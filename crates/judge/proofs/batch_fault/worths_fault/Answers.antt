-- `worths_fault` answers 8: of the first recipe of cost 0 with a worth.
use native.Mathlib.Omega.{arith}
use Rattle.std.proofs.Common.{rules, suc, ◌≡◌, ◌&&◌, take, length, get_or, refl}
use lib.Dec.{eqb, ltb}
use lib.Seq.{get_or-take, length-take-le}
use borrow.Author.Tests.{tests}
use Rattle.week.specs.Record.{no_recipe}
use Rattle.week.proofs.First.{first_found}
use Rattle.week.proofs.Owned.{recipes_owned}
use Rattle.judge.specs.BatchFault.{worth_fault}
use Rattle.judge.proofs.batch_fault.worths_fault.Goals as goal

pub returns : goal.returns
unfolding worth_fault
returns c =
    let b = c.args.b in
    let rs = take b.count b.recipes in
    let size : length rs ≡ b.count = length-take-le b.count b.recipes (omega (arith, recipes_owned b _ c.well_formed.0)) in
    first_found (worth_fault b) b.count 8 (λ k. 0) suc
    (λ k. eqb (get_or rs k no_recipe).cost 0 && ltb 0 (get_or rs k no_recipe).worth) refl
    (λ k low. rw (get_or-take b.count b.recipes k no_recipe low)) c.position.result _ (search (rules, tests)) (search (rules, c.map_or.ensures))
