-- What owning an array tells: what owning an element tells holds of each element.
use Prim.Native.Nat.{ℕ, zero, suc, ◌<◌}
use native.Mathlib.Omega.{arith}
use mathlib.Core.List.{List, [], ◌∷◌}
use lib.ListN.{length, get_or}
use mir.Val.{Val}
use denote.Laws.{Is}
use denote.Shadow.{shadow}
use denote.Array.{each}
use denote.RattleType.{RattleType}

module _ (R : RattleType) (P : R.Denot → Type 0) (one : (x : R.Denot) (u : Val) → Is R x (u ∷ []) → P x) where
  pub each_in : (xs : List R.Denot) (us : List Val) → shadow (each R.Denot R.own_val xs us) →
      (i : ℕ) → i < length xs → (d : R.Denot) → P (get_or xs i d)
  each_in [] us h i l d = absurd (omega arith)
  each_in (x ∷ xs) [] h i l d = absurd h
  each_in (x ∷ xs) (u ∷ us) h zero l d = one x u h.0
  each_in (x ∷ xs) (u ∷ us) h (suc i) l d = each_in xs us h.1 i (omega arith) d
