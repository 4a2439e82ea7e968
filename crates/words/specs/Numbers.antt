-- The numbers that words are, all of them or none: docs/WEEKDESK.md, ‘Lines’.
use Rattle.std.specs.Prelude.{ℕ, Bool, true, cond, ◌&&◌, Option, None, Some, List, [], ◌∷◌, map, length, take}
use Rattle.arrays.specs.Made.{padded}
use Rattle.text.specs.Decimal.{value_after}
use Rattle.words.specs.declared.numbers.Numbers.{Numbers}
use Rattle.words.specs.Number.{is_number}

-- ‘a choice has at most 255 of them’: how many are kept
abbrev pub max_kept : ℕ
max_kept = 255

unfoldable pub are_numbers : List (List ℕ) → Bool
are_numbers [] = true
are_numbers (word ∷ words) = is_number word && are_numbers words

unfoldable pub numbers_of : List (List ℕ) → Option Numbers
numbers_of words =
    cond (are_numbers words)
    (Some (record { count = length words; values = padded max_kept 0 (map (value_after 0) (take max_kept words)) }))
    None
