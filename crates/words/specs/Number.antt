-- Words that are numbers: docs/WEEKDESK.md, ‘Lines’: ‘A number is one to five decimal digits, at most 65,535.’
use Rattle.std.specs.Prelude.{ℕ, Bool, true, cond, ◌&&◌, Option, None, Some, List, [], ◌∷◌, length, leb}
use Rattle.text.specs.Decimal.{digit, value_after}

-- the most digits, and the greatest number
abbrev pub max_digits : ℕ
max_digits = 5

abbrev pub max_number : ℕ
max_number = 65535

abbrev pub is_digit : ℕ → Bool
is_digit b = leb (digit 0) b && leb b (digit 9)

unfoldable pub are_digits : List ℕ → Bool
are_digits [] = true
are_digits (b ∷ bs) = is_digit b && are_digits bs

unfoldable pub is_number : List ℕ → Bool
is_number word = leb 1 (length word) && leb (length word) max_digits && are_digits word && leb (value_after 0 word) max_number

unfoldable pub number_of : List ℕ → Option ℕ
number_of word = cond (is_number word) (Some (value_after 0 word)) None
