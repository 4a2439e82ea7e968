-- Refusals 1 to 9, over a list as it is handed in, and 13, over a choice: document 01, "Who can be refused, and why"; document 02, Two.
-- Batches have their index from 0 here, and their position, which a refusal names, from 1.
use Rattle.std.specs.Prelude.{ℕ, suc, ◌-◌, ◌≡◌, ◌||◌, not, List, [], ◌∷◌, ◌++◌, length, get_or, ltb, leb, eqb}
use Rattle.arrays.specs.Each.{some_below}
use Rattle.week.specs.declared.record.Batch.{Batch}
use Rattle.week.specs.declared.refusal.Refusal.{Refusal}
use Rattle.week.specs.Record.{Week, max_minutes, max_batches, batch_at, number_at}
use Rattle.week.specs.Numbers.{number_in}
use Rattle.week.specs.Ordered.{ordered_week}
use Rattle.week.specs.Refusal.{accepted, refused_if, first_of, first, at_place}
use Rattle.judge.specs.BatchFault.{worths_fault, own_faults}

-- "1: c is not after t. 2: c − t is above 2,400."
abbrev pub minutes_faults : (opening closing : ℕ) → List Refusal
minutes_faults t c = refused_if 1 0 0 (leb c t) ∷ refused_if 2 0 0 (ltb max_minutes (c - t)) ∷ []

-- "3: more than 16 batches."
unfoldable pub week_fault : Week → Refusal
week_fault w = first_of (minutes_faults w.opening w.closing ++ (refused_if 3 0 0 (ltb max_batches w.count) ∷ []))

-- "9: number 0, or a number that stands earlier in the list.": of a batch after n others, whose numbers are given by index
unfoldable pub number_fault : (ℕ → ℕ) → ℕ → Batch → Refusal
number_fault numbers n b = refused_if 9 0 0 (eqb b.number 0 || some_below (λ h. eqb (numbers h) b.number) n)

-- 8 and 9 of batch b, as a walk over the list asks them: after those that stand earlier
abbrev pub later_faults : List Batch → Batch → List Refusal
later_faults earlier b = worths_fault b ∷ number_fault (number_in earlier) (length earlier) b ∷ []

-- 4 to 9 over the batch of index i, in the paper's order: its own, then what the list has against it. 02: "10 no longer occurs"
abbrev pub batch_faults : Week → ℕ → List Refusal
batch_faults w i = own_faults w.closing (batch_at w i) ++ (number_fault (number_at w) i (batch_at w i) ∷ [])

-- the list gives the place. 02: "9 and all desk refusals .. name the place as handed in"
unfoldable pub batch_fault : Week → ℕ → Refusal
batch_fault w i = at_place (suc i) (first_of (batch_faults w i))

-- "then 1, 2, 3; then batch by batch 4 to 10, each batch whole before the next"
unfoldable pub list_fault : Week → Refusal
list_fault w = first_of (week_fault w ∷ first (batch_fault w) 0 w.count ∷ [])

-- "13: a choice whose length is not n (position 0), or that names a recipe its batch has not got (the first such position).": over a list
-- as it stands
unfoldable pub name_fault : Week → List ℕ → ℕ → Refusal
name_fault w choice i = refused_if 13 (suc i) 0 (eqb (get_or choice i 0) 0 || ltb (batch_at w i).count (get_or choice i 0))

unfoldable pub choice_fault : Week → List ℕ → Refusal
choice_fault w choice =
    first_of (refused_if 13 0 0 (not (eqb (length choice) w.count)) ∷ first (name_fault w choice) 0 w.count ∷ [])

-- the two together, for an operation that is handed a list and a choice: "Order: .. 1, 2, 3; then batch by batch 4 to 10 ..; then 13". 02:
-- "Choices .. follow the ordered list"
abbrev pub handed_faults : Week → List ℕ → List Refusal
handed_faults w choice = list_fault w ∷ choice_fault (ordered_week w) choice ∷ []

-- 01, "The words of demand 3": "A list is well formed if none of the conditions 1 to 10, as far as they are still checked, holds of it",
-- "A choice that is handed in is well formed if 13 does not hold."
abbrev pub WellFormed : Week → Type 0
WellFormed w = list_fault w ≡ accepted

abbrev pub WellChosen : Week → List ℕ → Type 0
WellChosen w choice = choice_fault (ordered_week w) choice ≡ accepted
