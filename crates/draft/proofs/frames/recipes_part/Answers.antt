-- `recipes_part`: what the loop has put are all recipes.
use Rattle.std.proofs.Common.{arith, refl}
use mathlib.Core.List.{flatten}
use Rattle.week.specs.Record.{no_recipe}
use Rattle.draft.specs.Sheet.{recipe_part, recipes_part}
use Rattle.draft.proofs.Parts.{all_parts}
use Rattle.draft.proofs.frames.recipes_part.Goals as goal

pub returns : goal.returns
unfolding flatten recipes_part
returns c =
    let b = c.args.batch in
    let turns = c.loop-recipe.recipe-index in
    let all = all_parts recipe_part no_recipe b.recipes b.count b.count (omega arith) refl turns (omega arith) in
    record { part = rw all at c.loop-recipe.invariant.put; width = omega arith }
