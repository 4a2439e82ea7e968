-- A list that a loop writes from another, one store a turn: each entry is f of the other's.
use Prim.Native.Nat.{ℕ, ◌<◌}
use mathlib.Core.Path.{◌≡◌}
use mathlib.Core.List.{List, map}
use lib.ListN.{get_or, get_or-map}
use Rattle.arrays.proofs.Stores.{Filled}

-- past the end there is 0 on both sides
pub map_at : (f : ℕ → ℕ) → f 0 ≡ 0 → (from : List ℕ) (m : ℕ) → get_or (map f from) m 0 ≡ f (get_or from m 0)
map_at f none from m = rw none at (get_or-map f from m 0)

-- the loop stands at m
pub record Mapping (f : ℕ → ℕ) (from : List ℕ) (m : ℕ) (to : List ℕ) : Type 0 where
  pub none : f 0 ≡ 0
  pub filled : Filled 0 (map f from) (λ k. k < m) to
