-- The order of the refusals, and what it is to be the first in it: document 01, "Who can be refused, and why".
use Rattle.std.specs.Prelude.{ℕ, suc, ◌≤◌, max, ◌≡◌, ◌⊎◌, Bool, true, false, cond, ◌||◌, eqb}
use mathlib.Core.List.{List, [], ◌∷◌, ◌++◌, flatten}
use Rattle.week.specs.declared.refusal.Refusal.{Refusal}

-- "Order: 18; then line by line 16, 17; then 1, 2, 3; then batch by batch 4 to 10, each batch whole before the next; then 13; 11;
-- 12; 19; then 14 or 15." 02: "10 no longer occurs".
abbrev pub order : List (List ℕ)
order =
    (18 ∷ [])
    ∷ (16 ∷ 17 ∷ [])
    ∷ (1 ∷ 2 ∷ 3 ∷ [])
    ∷ (4 ∷ 5 ∷ 6 ∷ 7 ∷ 8 ∷ 9 ∷ [])
    ∷ (13 ∷ [])
    ∷ (11 ∷ [])
    ∷ (12 ∷ [])
    ∷ (19 ∷ [])
    ∷ (14 ∷ 15 ∷ [])
    ∷ []

-- whether a number is one of some
abbrev pub one_of : List ℕ → ℕ → Bool
one_of [] n = false
one_of (m ∷ ms) n = eqb n m || one_of ms n

-- how many entries stand before the first that passes a test
abbrev pub stand_before : {A : Type 0} → (A → Bool) → List A → ℕ
stand_before p [] = 0
stand_before p (x ∷ xs) = cond (p x) 0 (suc (stand_before p xs))

-- the stage of the order that a number is asked in, and its rank among all numbers
unfoldable pub stage : ℕ → ℕ
stage n = stand_before (λ (numbers : List ℕ). one_of numbers n) order

unfoldable pub rank : ℕ → ℕ
rank n = stand_before (eqb n) (flatten order)

-- r stands no later than s: stage by stage; in a stage "line by line", or "batch by batch"; of one line or batch by the rank of the
-- number; and of one number the first recipe
pub record NoLater (r s : Refusal) : Type 0 where
  pub stages : stage r.number ≤ stage s.number
  pub places : stage r.number ≡ stage s.number → r.place ≤ s.place
  pub numbers : stage r.number ≡ stage s.number → r.place ≡ s.place → rank r.number ≤ rank s.number
  pub recipes : r.number ≡ s.number → r.place ≡ s.place → r.recipe ≤ s.recipe

-- "The number answered is the first in this order whose condition holds, and nothing else is refused.": `Holds` says of a refusal, its
-- number, place and recipe, that the condition of that number holds there
pub record FirstToHold (Holds : Refusal → Type 0) (r : Refusal) : Type 0 where
  pub holds : (r.number ≡ 0 → ⊥) → Holds r
  pub first : (r.number ≡ 0 → ⊥) → (s : Refusal) → Holds s → NoLater r s
  pub nothing : r.number ≡ 0 → (s : Refusal) → Holds s → ⊥

-- conditions: one refusal where something is so; one of two; and one of those of positions 1 to n
infixl 20 ◌when◌
abbrev pub ◌when◌ : Refusal → Type 0 → Refusal → Type 0
(it when P) r = (r ≡ it) × P

infixr 10 ◌or◌
abbrev pub ◌or◌ : (Refusal → Type 0) → (Refusal → Type 0) → Refusal → Type 0
(A or B) r = A r ⊎ B r

abbrev pub some_of : ℕ → (ℕ → Refusal → Type 0) → Refusal → Type 0
some_of n C r = (i : ℕ) × (1 ≤ i) × (i ≤ n) × C i r

-- "The place is the batch's position for 4 to 10, 13, 15 .., the line from 1 for 16 and 17 (1 for an empty sheet), else 0.": the least
-- and the greatest place that a number can name, of n batches and of some lines. 13 has place 0 for a choice of the wrong length.
abbrev pub of_batch : List ℕ
of_batch = 4 ∷ 5 ∷ 6 ∷ 7 ∷ 8 ∷ 9 ∷ 15 ∷ []

abbrev pub of_line : List ℕ
of_line = 16 ∷ 17 ∷ []

unfoldable pub least_place : ℕ → ℕ
least_place number = cond (one_of (of_batch ++ of_line) number) 1 0

unfoldable pub greatest_place : (n lines : ℕ) → ℕ → ℕ
greatest_place n lines number = cond (one_of (13 ∷ of_batch) number) n (cond (one_of of_line number) (max 1 lines) 0)

-- "The recipe is named by 7 and 8, else 0."
abbrev pub of_recipe : List ℕ
of_recipe = 7 ∷ 8 ∷ []

-- what a refusal names, which has one of some numbers
pub record Naming (numbers : List ℕ) (n lines : ℕ) (r : Refusal) : Type 0 where
  pub number : one_of numbers r.number ≡ true
  pub least : least_place r.number ≤ r.place
  pub greatest : r.place ≤ greatest_place n lines r.number
  pub recipe : one_of of_recipe r.number ≡ false → r.recipe ≡ 0

-- demand 1: "one numbered refusal, which says which batch is at fault where a batch is"
pub record AtFault (Holds : Refusal → Type 0) (numbers : List ℕ) (n lines : ℕ) (r : Refusal) : Type 0 where
  pub first : FirstToHold Holds r
  pub names : (r.number ≡ 0 → ⊥) → Naming numbers n lines r
