-- `put_recipe`: two numbers of five digits, each after a space.
use Rattle.std.proofs.Common.{ℕ, rules, arith, ◌≤◌, [], ◌∷◌, length, ap, length-append}
use Rattle.week.specs.declared.record.Recipe.{Recipe}
use Rattle.text.proofs.Spacing.{numbers, numbers_short}
use Rattle.draft.specs.List.{recipe_width}
use Rattle.draft.proofs.list.put_recipe.Goals as goal

abbrev Short : Recipe → Type 0
Short r = length (numbers (r.cost ∷ r.worth ∷ [])) ≤ recipe_width

pub put_numbers-requires : goal.put_numbers-requires
put_numbers-requires c =
    let r = c.args.recipe in
    let short : Short r = numbers_short 4 (r.cost ∷ r.worth ∷ []) (search rules) in
    (search rules, omega (arith, short))

pub returns-clause-width : goal.returns-clause-width
returns-clause-width c =
    let r = c.args.recipe in
    let short : Short r = numbers_short 4 (r.cost ∷ r.worth ∷ []) (search rules) in
    omega (arith, short, length-append {A = ℕ}, ap length c.put_numbers.ensures)
