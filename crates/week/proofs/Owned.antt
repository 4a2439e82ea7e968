-- What owning a week's list tells: how long its arrays are, and that each worth is a number of 16 bits.
use Prim.Native.Nat.{ℕ, ◌<◌, ◌≤◌}
use native.Mathlib.Omega.{arith}
use mathlib.Core.Path.{◌≡◌}
use mathlib.Core.List.{List, [], ◌∷◌}
use lib.ListN.{length}
use mir.Val.{Val}
use denote.Laws.{Is}
use denote.Param.{number}
use denote.RattleType.{RattleType}
use Rattle.arrays.proofs.OwnedArrays.{each_in}
use Rattle.arrays.specs.Bits.{max16}
use Rattle.week.specs.declared.record.Recipe.{Recipe}
use Rattle.week.specs.declared.record.Batch.{Batch}
use Rattle.week.specs.Record.{Week, max_batches, max_recipes, recipe_at, batch_at}
use Rattle.week.specs.contracts.record.Recipe as R
use Rattle.week.specs.contracts.record.Batch as B
use Rattle.week.specs.contracts.record.Listing as L

-- each worth of a list is a number of 16 bits
abbrev pub WorthsFit : Week → Type 0
WorthsFit w = (i k : ℕ) → i < max_batches → k < max_recipes → (recipe_at (batch_at w i) k).worth ≤ max16

worth_of : (r : Recipe) (vs : List Val) → Is R.the_row r vs → r.worth ≤ max16
worth_of r vs h = omega (arith, h.1.1.1.0.1)

-- an array has a place for each of the most recipes, and for each of the most batches
pub recipes_owned : (b : Batch) (vs : List Val) → Is B.the_row b vs → length b.recipes ≡ max_recipes
recipes_owned b vs h = h.1.1.1.1.1.1.0.1.0.1

-- the type of a week's list
abbrev pub week_row : RattleType
week_row = L.the_row (number max_batches)

pub batches_owned : (w : Week) (vs : List Val) → Is week_row w vs → length w.batches ≡ max_batches
batches_owned w vs h = h.1.1.1.1.1.0.1.0.1

worths_of : (b : Batch) (vs : List Val) → Is B.the_row b vs →
    (k : ℕ) → k < max_recipes → (recipe_at b k).worth ≤ max16
worths_of b vs h k l =
    let recipes = h.1.1.1.1.1.1.0 in
    each_in R.the_row (λ r. r.worth ≤ max16) (λ r u. worth_of r (u ∷ [])) b.recipes recipes.0 recipes.1.1 k
    (omega (arith, recipes_owned b vs h)) _

pub worths_fit : (w : Week) (vs : List Val) → Is week_row w vs → WorthsFit w
worths_fit w vs h i k l =
    let batches = h.1.1.1.1.1.0 in
    each_in B.the_row (λ b. (k : ℕ) → k < max_recipes → (recipe_at b k).worth ≤ max16) (λ b u. worths_of b (u ∷ [])) w.batches
    batches.0 batches.1.1 i (omega (arith, batches_owned w vs h)) _ k
