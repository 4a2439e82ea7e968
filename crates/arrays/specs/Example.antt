-- Examples as one table with one claim: what the definitions say, in numbers, against what document 01 says. A closed Bool is
-- computed far faster than lists of lists are compared.
use Rattle.std.specs.Prelude.{ℕ, Bool, true, false, ◌&&◌, List, [], ◌∷◌, eqb}

pub record Example : Type 0 where
  pub said : List ℕ
  pub written : List ℕ

infixl 20 ◌is◌
abbrev pub ◌is◌ : List ℕ → List ℕ → Example
a is b = record { said = a; written = b }

unfoldable pub same : List ℕ → List ℕ → Bool
same [] [] = true
same [] (y ∷ ys) = false
same (x ∷ xs) [] = false
same (x ∷ xs) (y ∷ ys) = eqb x y && same xs ys

unfoldable pub agree : List Example → Bool
agree [] = true
agree (e ∷ es) = same e.said e.written && agree es
