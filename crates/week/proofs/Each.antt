-- What holds where nothing is refused, and of each refusal of several, holds of the first that refuses.
use Prim.Native.Nat.{ℕ, zero, suc}
use mathlib.Core.Bool.{Bool}
use mathlib.Core.List.{List, [], ◌∷◌}
use lib.Dec.{eqb}
use Rattle.arrays.specs.Each.{All}
use Rattle.arrays.proofs.Cases.{cond_both}
use Rattle.week.specs.declared.refusal.Refusal.{Refusal}
use Rattle.week.specs.Refusal.{accepted, refused, refused_if, or_else, first_of, first}

module _ (P : Refusal → Type 0) (fine : P accepted) where
  pub if_each : (number place recipe : ℕ) → P (refused number place recipe) → (holds : Bool) →
      P (refused_if number place recipe holds)
  unfolding refused_if
  if_each number place recipe it holds = cond_both P holds it fine

  pub or_each : (a b : Refusal) → P a → P b → P (or_else a b)
  unfolding or_else
  or_each a b one other = cond_both P (eqb a.number 0) other one

  pub first_of_each : (rs : List Refusal) → All P rs → P (first_of rs)
  unfolding first_of
  first_of_each [] each = fine
  first_of_each (r ∷ rs) each = or_each r (first_of rs) each.0 (first_of_each rs each.1)

  pub first_each : (f : ℕ → Refusal) → ((i : ℕ) → P (f i)) → (i m : ℕ) → P (first f i m)
  unfolding first
  first_each f each i zero = fine
  first_each f each i (suc m) = or_each (f i) (first f (suc i) m) (each i) (first_each f each (suc i) m)
