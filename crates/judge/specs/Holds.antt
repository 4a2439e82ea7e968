-- When the condition of each of 1 to 9 and of 13 holds, and where: document 01, "Who can be refused, and why". Positions and recipes are
-- numbered from 1 here, as a refusal names them.
use Rattle.std.specs.Prelude.{ℕ, suc, ◌-◌, ◌≤◌, ◌<◌, ◌≡◌, ◌⊎◌, List, [], ◌∷◌, length}
use Rattle.arrays.specs.Position.{at_position}
use Rattle.week.specs.declared.refusal.Refusal.{Refusal}
use Rattle.week.specs.Record.{Week, max_minutes, max_batches, max_recipes, batch_of, recipe_of, span_of}
use Rattle.week.specs.Refusal.{refused}
use Rattle.week.specs.RefusalOrder.{◌when◌, ◌or◌, some_of}

-- "1: c is not after t. 2: c − t is above 2,400. 3: more than 16 batches."
abbrev pub WeekHolds : Week → Refusal → Type 0
WeekHolds w =
    (refused 1 0 0 when (w.closing ≤ w.opening))
    or (refused 2 0 0 when (max_minutes < span_of w))
    or (refused 3 0 0 when (max_batches < w.count))

-- "7: a recipe from the second on costs more than the one before, or follows one of cost 0.": the recipe after recipe k
abbrev pub CostHolds : Week → (i k : ℕ) → Type 0
CostHolds w i k =
    ((recipe_of (batch_of w i) k).cost < (recipe_of (batch_of w i) (suc k)).cost) ⊎ ((recipe_of (batch_of w i) k).cost ≡ 0)

-- "8: a recipe of cost 0 has a worth above 0."
abbrev pub WorthHolds : Week → (i k : ℕ) → Type 0
WorthHolds w i k = ((recipe_of (batch_of w i) k).cost ≡ 0) × (0 < (recipe_of (batch_of w i) k).worth)

-- "9: number 0, or a number that stands earlier in the list."
abbrev pub NumberHolds : Week → ℕ → Type 0
NumberHolds w i =
    ((batch_of w i).number ≡ 0) ⊎ ((h : ℕ) × (1 ≤ h) × (h < i) × ((batch_of w h).number ≡ (batch_of w i).number))

-- of the batch at position i: "4: a batch has no recipe, or more than 10.", "5: d is not after r. 6: r is not before c.", and 7 to 9
abbrev pub BatchHolds : Week → ℕ → Refusal → Type 0
BatchHolds w i =
    (refused 4 i 0 when (((batch_of w i).count ≡ 0) ⊎ (max_recipes < (batch_of w i).count)))
    or (refused 5 i 0 when ((batch_of w i).due ≤ (batch_of w i).arrival))
    or (refused 6 i 0 when (w.closing ≤ (batch_of w i).arrival))
    or some_of ((batch_of w i).count - 1) (λ k. refused 7 i (suc k) when CostHolds w i k)
    or some_of (batch_of w i).count (λ k. refused 8 i k when WorthHolds w i k)
    or (refused 9 i 0 when NumberHolds w i)

-- of a list
abbrev pub ListHolds : Week → Refusal → Type 0
ListHolds w = WeekHolds w or some_of w.count (BatchHolds w)

-- "13: a choice whose length is not n (position 0), or that names a recipe its batch has not got (the first such position)."
abbrev pub NameHolds : Week → List ℕ → ℕ → Type 0
NameHolds w choice i = (at_position 0 choice i ≡ 0) ⊎ ((batch_of w i).count < at_position 0 choice i)

abbrev pub ChoiceHolds : Week → List ℕ → Refusal → Type 0
ChoiceHolds w choice =
    (refused 13 0 0 when (length choice ≡ w.count → ⊥)) or some_of w.count (λ i. refused 13 i 0 when NameHolds w choice i)

-- the numbers of a list: 1 to 9
abbrev pub list_numbers : List ℕ
list_numbers = 1 ∷ 2 ∷ 3 ∷ 4 ∷ 5 ∷ 6 ∷ 7 ∷ 8 ∷ 9 ∷ []
