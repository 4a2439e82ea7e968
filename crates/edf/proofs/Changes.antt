-- The changes of a log in two parts.
use Prim.Native.Nat.{ℕ, ◌+◌}
use native.Mathlib.Omega.{arith}
use mathlib.Core.Path.{◌≡◌, refl}
use mathlib.Core.List.{List, [], ◌∷◌, ◌++◌}
use Rattle.edf.specs.Run.{changes_after}

-- the last entry of a log; p if it has none
abbrev pub last_of : ℕ → List ℕ → ℕ
last_of p [] = p
last_of p (x ∷ xs) = last_of x xs

-- of a log with one entry more, that entry
pub last-append : (p : ℕ) (xs : List ℕ) (x : ℕ) → last_of p (xs ++ (x ∷ [])) ≡ x
last-append p [] x = refl
last-append p (y ∷ xs) x = last-append y xs x

-- the second part starts after the last entry of the first
pub changes-append : (p : ℕ) (xs ys : List ℕ) → changes_after p (xs ++ ys) ≡ changes_after p xs + changes_after (last_of p xs) ys
unfolding changes_after
changes-append p [] ys = omega arith
changes-append p (x ∷ xs) ys = omega (arith, changes-append x xs ys)
