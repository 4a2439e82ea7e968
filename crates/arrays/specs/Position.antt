-- Arrays by position, and the two directions of a list: list order in the arrays, and the last first in the theory.
use Rattle.std.specs.Prelude.{ℕ, zero, suc, List, [], ◌∷◌, ◌++◌, get_or}

module _ {A : Type 0} where
  -- the entry of an array at a position, counted from 1; d where there is none
  abbrev pub at_position : A → List A → ℕ → A
  at_position d xs zero = d
  at_position d xs (suc i) = get_or xs i d

  -- the first i of an array, the last of them first
  abbrev pub backward : A → List A → ℕ → List A
  backward d xs zero = []
  backward d xs (suc i) = get_or xs i d ∷ backward d xs i

  -- a list that stands last first, in list order
  abbrev pub forward : List A → List A
  forward [] = []
  forward (x ∷ xs) = forward xs ++ (x ∷ [])
