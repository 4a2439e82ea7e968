-- Refusals 4 to 8, of a batch by itself and the close: document 01, "Who can be refused, and why". They name no place: who holds the
-- batch gives it one. Recipes have their index from 0 here, and their number, which a refusal names, from 1.
use Rattle.std.specs.Prelude.{ℕ, suc, ◌-◌, ◌||◌, ◌&&◌, List, [], ◌∷◌, ◌++◌, ltb, leb, eqb}
use Rattle.week.specs.declared.record.Batch.{Batch}
use Rattle.week.specs.declared.refusal.Refusal.{Refusal}
use Rattle.week.specs.Record.{max_recipes, recipe_at}
use Rattle.week.specs.Refusal.{refused_if, first}

-- "4: a batch has no recipe, or more than 10."
abbrev pub count_fault : Batch → Refusal
count_fault b = refused_if 4 0 0 (eqb b.count 0 || ltb max_recipes b.count)

-- "5: d is not after r."
abbrev pub due_fault : Batch → Refusal
due_fault b = refused_if 5 0 0 (leb b.due b.arrival)

-- "6: r is not before c."
abbrev pub arrival_fault : ℕ → Batch → Refusal
arrival_fault c b = refused_if 6 0 0 (leb c b.arrival)

-- "7: a recipe from the second on costs more than the one before, or follows one of cost 0": the recipe of index k
unfoldable pub cost_fault : Batch → ℕ → Refusal
cost_fault b k =
    refused_if 7 0 (suc k) (ltb (recipe_at b (k - 1)).cost (recipe_at b k).cost || eqb (recipe_at b (k - 1)).cost 0)

abbrev pub costs_fault : Batch → Refusal
costs_fault b = first (cost_fault b) 1 (b.count - 1)

-- "8: a recipe of cost 0 has a worth above 0."
unfoldable pub worth_fault : Batch → ℕ → Refusal
worth_fault b k = refused_if 8 0 (suc k) (eqb (recipe_at b k).cost 0 && ltb 0 (recipe_at b k).worth)

abbrev pub worths_fault : Batch → Refusal
worths_fault b = first (worth_fault b) 0 b.count

-- 4 to 6, which are asked before the costs; and 4 to 8, in the paper's order
abbrev pub before_costs : ℕ → Batch → List Refusal
before_costs c b = count_fault b ∷ due_fault b ∷ arrival_fault c b ∷ []

abbrev pub own_faults : ℕ → Batch → List Refusal
own_faults c b = before_costs c b ++ (costs_fault b ∷ worths_fault b ∷ [])
