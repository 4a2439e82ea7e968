-- The words of a line: docs/WEEKDESK.md, ‘Lines’: ‘A line is words with spaces between them’.
use denote.Ref.{Bor}
use Rattle.std.specs.Prelude.{ℕ, ◌<◌, ◌≡◌, cond, Option, IfSome, List, [], ◌∷◌, ◌++◌, length, replicate, eqb}
use Rattle.std.specs.Iterator.{YieldsFirstRef}
use Rattle.arrays.specs.Each.{All}
use Rattle.arrays.specs.Text.{space}
use Rattle.words.specs.declared.word.Words.{Words}

-- b, before the first part
unfoldable pub joined : ℕ → List (List ℕ) → List (List ℕ)
joined b [] = (b ∷ []) ∷ []
joined b (part ∷ parts) = (b ∷ part) ∷ parts

-- what stands between spaces, a part of no bytes between two that are neighbours
unfoldable pub parts_of : List ℕ → List (List ℕ)
parts_of [] = [] ∷ []
parts_of (b ∷ bs) = cond (eqb b space) ([] ∷ parts_of bs) (joined b (parts_of bs))

-- the parts that have bytes
unfoldable pub some_bytes : List (List ℕ) → List (List ℕ)
some_bytes [] = []
some_bytes ([] ∷ parts) = some_bytes parts
some_bytes ((b ∷ bs) ∷ parts) = (b ∷ bs) ∷ some_bytes parts

unfoldable pub words_of : List ℕ → List (List ℕ)
words_of line = some_bytes (parts_of line)

-- those that are left to take of a line
abbrev pub words_left : Words → List (List ℕ)
words_left words = words_of words.rest.now

-- no byte is a space
abbrev pub Unbroken : List ℕ → Type 0
Unbroken bytes = All (λ b. b ≡ space → ⊥) bytes

-- What a word is: a byte or more, and none of them a space.
pub record IsWord (word : List ℕ) : Type 0 where
  pub some : 0 < length word
  pub whole : Unbroken word

-- A word stands first on a line: spaces alone before it, and what is left of the line right after it.
pub record StandsFirst (line word after : List ℕ) : Type 0 where
  pub is : IsWord word
  pub spaces : ℕ
  pub parts : line ≡ replicate spaces space ++ (word ++ after)

-- A call gives the first of the words that were left, from where it stands, and leaves the line after it, with the others; none if none was
-- left.
abbrev pub YieldsWord : Words → Option (Bor (List ℕ)) → Words → Type 0
YieldsWord before word after =
    YieldsFirstRef words_left before word after × IfSome word (λ w. StandsFirst before.rest.now w.now after.rest.now)
