-- Lists put together: of two lists of lists, of a single one, and of one more that a function makes.
use Prim.Native.Nat.{ℕ, ◌+◌}
use mathlib.Core.Path.{◌≡◌, refl, sym, ap, ◌∙◌}
use mathlib.Core.List.{List, [], ◌∷◌, ◌++◌, flatten, append_assoc, append-nil}
use Rattle.arrays.specs.Made.{tabulate}
use Rattle.arrays.proofs.Tabulates.{tabulate_more}

module _ {A : Type 0} where
  pub flatten-append : (xs ys : List (List A)) → flatten (xs ++ ys) ≡ flatten xs ++ flatten ys
  unfolding flatten
  flatten-append [] ys = refl
  flatten-append (x ∷ xs) ys =
      ap (λ (l : List A). x ++ l) (flatten-append xs ys) ∙ sym (append_assoc x (flatten xs) (flatten ys))

  pub flatten_one : (xs : List A) → flatten (xs ∷ []) ≡ xs
  unfolding flatten
  flatten_one xs = append-nil xs

  pub flatten_more : (f : ℕ → List A) (m : ℕ) → flatten (tabulate f 0 (m + 1)) ≡ flatten (tabulate f 0 m) ++ f m
  flatten_more f m =
      ap flatten (tabulate_more f m)
      ∙ flatten-append (tabulate f 0 m) (f m ∷ [])
      ∙ ap (λ (l : List A). flatten (tabulate f 0 m) ++ l) (flatten_one (f m))
