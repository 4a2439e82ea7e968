-- The laws of rearrangements.
use Prim.Native.Nat.{suc}
use mathlib.Core.Path.{◌≡◌, refl, ap, ◌∙◌}
use mathlib.Core.List.{List, [], ◌∷◌, ◌++◌}
use lib.ListN.{length}
use Rattle.arrays.specs.Each.{All, Pairs}
use Rattle.arrays.specs.Rearranged.{Perm, none, keep, swap, both}

module _ {A : Type 0} where
  -- a list is one of itself
  pub perm_refl : (xs : List A) → Perm xs xs
  perm_refl [] = none
  perm_refl (x ∷ xs) = keep (perm_refl xs)

  -- either way round
  pub perm_sym : {xs ys : List A} → Perm xs ys → Perm ys xs
  perm_sym none = none
  perm_sym (keep p) = keep (perm_sym p)
  perm_sym swap = swap
  perm_sym (both p q) = both (perm_sym q) (perm_sym p)

  -- as long
  pub perm-length : {xs ys : List A} → Perm xs ys → length xs ≡ length ys
  perm-length none = refl
  perm-length (keep p) = ap suc (perm-length p)
  perm-length swap = refl
  perm-length (both p q) = perm-length p ∙ perm-length q

  -- after the same list
  pub perm-append : (zs : List A) {xs ys : List A} → Perm xs ys → Perm (zs ++ xs) (zs ++ ys)
  perm-append [] p = p
  perm-append (z ∷ zs) p = keep (perm-append zs p)

  -- one from the middle, first
  pub perm_middle : (x : A) (xs ys : List A) → Perm (x ∷ (xs ++ ys)) (xs ++ (x ∷ ys))
  perm_middle x [] ys = perm_refl (x ∷ ys)
  perm_middle x (y ∷ xs) ys = both swap (keep (perm_middle x xs ys))

  -- what holds of each holds of each of a rearrangement
  pub perm_all : (P : A → Type 0) {xs ys : List A} → Perm xs ys → All P xs → All P ys
  perm_all P none h = tt
  perm_all P (keep p) h = (h.0, perm_all P p h.1)
  perm_all P swap h = (h.1.0, (h.0, h.1.1))
  perm_all P (both p q) h = perm_all P q (perm_all P p h)

  -- and what holds of two either way round, of any two of it
  pub perm_pairs : (R : A → A → Type 0) → ((x y : A) → R x y → R y x) → {xs ys : List A} → Perm xs ys → Pairs R xs → Pairs R ys
  perm_pairs R turn none h = tt
  perm_pairs R turn (keep {x} p) h = (perm_all (R x) p h.0, perm_pairs R turn p h.1)
  perm_pairs R turn (swap {x} {y}) h = ((turn x y h.0.0, h.1.0), (h.0.1, h.1.1))
  perm_pairs R turn (both p q) h = perm_pairs R turn q (perm_pairs R turn p h)
