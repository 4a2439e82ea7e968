-- Arrays that are made: by a function, and from a list with one value beyond it.
use Rattle.std.specs.Prelude.{ℕ, zero, suc, ◌-◌, List, [], ◌∷◌, ◌++◌, length, replicate}
use Rattle.arrays.specs.Position.{forward}

module _ {A : Type 0} where
  -- f a, f (a + 1), .., m of them
  abbrev pub tabulate : (ℕ → A) → ℕ → ℕ → List A
  tabulate f a zero = []
  tabulate f a (suc m) = f a ∷ tabulate f (suc a) m

  -- 01: "Places of an answer beyond n hold 0": an array of m, with d beyond a list; and the same of a list that stands last first
  abbrev pub padded : ℕ → A → List A → List A
  padded m d xs = xs ++ replicate (m - length xs) d

  abbrev pub placed : ℕ → A → List A → List A
  placed m d xs = padded m d (forward xs)
