-- The lines of a sheet: document 01, "The sheet".
use Rattle.std.specs.Prelude.{ℕ, suc, ◌<◌, ◌≡◌, Bool, false, cond, ◌&&◌, length, get_or, eqb}
use mathlib.Core.List.{List, [], ◌∷◌, flatten}
use Rattle.arrays.specs.Text.{line_feed}
use Rattle.sheet.specs.Hex.{is_digit}

-- b, before the first line
abbrev pub joined : ℕ → List (List ℕ) → List (List ℕ)
joined b [] = (b ∷ []) ∷ []
joined b (line ∷ lines) = (b ∷ line) ∷ lines

-- "Each line is .. ended by a line feed": the lines of a sheet, each with the line feed that ends it. What stands after the last
-- line feed, if anything, is a line without one.
abbrev pub lines_of : List ℕ → List (List ℕ)
lines_of [] = []
lines_of (b ∷ bs) = cond (eqb b line_feed) ((b ∷ []) ∷ lines_of bs) (joined b (lines_of bs))

-- the line of an index, from 0
abbrev pub line_at : List (List ℕ) → ℕ → List ℕ
line_at lines i = get_or lines i []

-- "in upper-case hexadecimal, .. ended by a line feed"
abbrev pub hex_line : List ℕ → Bool
hex_line [] = false
hex_line (b ∷ bs) = cond (is_digit b) (hex_line bs) (eqb b line_feed && eqb (length bs) 0)

-- What the lines of a sheet are: put together they are the sheet again; no line is empty, every byte of a line but its last is no
-- line feed, and of every line but the last line the last byte is one.
abbrev pub NoneEmpty : List (List ℕ) → Type 0
NoneEmpty lines = (i : ℕ) → i < length lines → 0 < length (line_at lines i)

abbrev pub Unbroken : List (List ℕ) → Type 0
Unbroken lines = (i k : ℕ) → suc k < length (line_at lines i) → get_or (line_at lines i) k 0 ≡ line_feed → ⊥

abbrev pub Ended : List (List ℕ) → Type 0
Ended lines = (i k : ℕ) → suc i < length lines → suc k ≡ length (line_at lines i) → get_or (line_at lines i) k 0 ≡ line_feed

pub record AreLines (sheet : List ℕ) (lines : List (List ℕ)) : Type 0 where
  pub whole : flatten lines ≡ sheet
  pub some : NoneEmpty lines
  pub inside : Unbroken lines
  pub ended : Ended lines
