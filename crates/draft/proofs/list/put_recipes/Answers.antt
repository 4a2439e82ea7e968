use Rattle.std.proofs.Common.{arith, ◌<◌, [], ◌∷◌, ◌++◌, sym, append_assoc}
use mathlib.Core.List.{append-nil, flatten}
use lib.ListN.{length-take}
use Rattle.week.specs.Record.{no_recipe}
use Rattle.text.specs.Line.{spaced}
use Rattle.draft.proofs.Printed.{printed_at, recipes_more}
use Rattle.draft.proofs.list.put_recipes.Goals as goal

pub loop-recipe-init : goal.loop-recipe-init
unfolding flatten spaced
loop-recipe-init c = record { put = sym (append-nil _); width = omega arith }

pub loop-recipe-preserved : goal.loop-recipe-preserved
loop-recipe-preserved c =
    let k = c.loop-recipe.recipe-index in
    let more : k < c.min.result = omega (arith, length-take c.min.result (c.copy_from_slice.new.self ++ (no_recipe ∷ []))) in
    record {
      put =
          rw (
            c.put_recipe.ensures.part,
            c.copy_from_slice.ensures.after,
            printed_at c.args.batch c.min.result k more,
            c.loop-recipe.invariant.put,
            recipes_more c.args.batch k,
          )
          (simp append_assoc);
      width = omega (arith, c.put_recipe.ensures.width);
    }
