-- The bytes that a line spells: document 01, "The sheet".
use Rattle.std.specs.Prelude.{ℕ, ◌+◌, ◌*◌, ◌-◌, Bool, cond, ◌&&◌, ◌||◌, List, get_or, leb}

-- '0' to '9', and 'A' to 'F'
abbrev pub is_decimal : ℕ → Bool
is_decimal b = leb 48 b && leb b 57

abbrev pub is_letter : ℕ → Bool
is_letter b = leb 65 b && leb b 70

-- "upper-case hexadecimal"
unfoldable pub is_digit : ℕ → Bool
is_digit b = is_decimal b || is_letter b

-- the value of a digit; 0 of any other byte, which no frame has
unfoldable pub digit_of : ℕ → ℕ
digit_of b = cond (is_decimal b) (b - 48) (cond (is_letter b) (b - 55) 0)

-- "two digits a byte": byte k of a line, from 0
unfoldable pub byte_at : List ℕ → ℕ → ℕ
byte_at line k = digit_of (get_or line (2 * k) 0) * 16 + digit_of (get_or line (2 * k + 1) 0)

-- "Values of two bytes stand high byte first."
unfoldable pub word_at : List ℕ → ℕ → ℕ
word_at line k = byte_at line k * 256 + byte_at line (k + 1)
