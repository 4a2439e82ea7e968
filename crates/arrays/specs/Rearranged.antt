-- Rearrangements of a list: the same entries, none lost or doubled.
use Rattle.std.specs.Prelude.{List, [], ◌∷◌}

-- one list is the other with neighbours swapped, again and again
pub data Perm {A : Type 0} : List A → List A → Type 0 where
  none : Perm [] []
  keep : {x : A} {xs ys : List A} → Perm xs ys → Perm (x ∷ xs) (x ∷ ys)
  swap : {x y : A} {xs : List A} → Perm (x ∷ y ∷ xs) (y ∷ x ∷ xs)
  both : {xs ys zs : List A} → Perm xs ys → Perm ys zs → Perm xs zs
