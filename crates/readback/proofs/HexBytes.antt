-- Bytes in hexadecimal: a line of them spells them, and has no line feed.
use Prim.Native.Nat.{ℕ, zero, suc, ◌+◌, ◌-◌, ◌*◌, ◌/◌, ◌%◌, ◌≤◌, ◌<◌}
use native.Mathlib.Nat.{mod-lt, div-lt_iff_lt-mul, div-add-mod'}
use native.Mathlib.Decide.{dec_lt}
use native.Mathlib.Omega.{arith}
use mathlib.Core.Path.{◌≡◌, refl, ap₂, ◌∙◌}
use mathlib.Core.Bool.{true}
use mathlib.Core.List.{List, [], ◌∷◌, ◌++◌}
use lib.ListN.{length, get_or}
use lib.Dec.{ltb}
use borrow.Author.Tests.{lt-ltb, le-ltb, le-leb, lt-leb, ne_eqb}
use Rattle.arrays.specs.Bits.{max16}
use Rattle.arrays.specs.Each.{All}
use Rattle.arrays.specs.Text.{line_feed}
use Rattle.arrays.proofs.Cases.{cond_both}
use Rattle.sheet.specs.Hex.{is_digit, digit_of, byte_at, word_at}
use Rattle.sheet.specs.Line.{hex_line}
use Rattle.sheet.proofs.OneLine.{unbroken}
use Rattle.draft.specs.Sheet.{hex_digit, hex_byte}

-- a digit is one, and is read as its number
digit_back : (n : ℕ) → n < 16 → (is_digit (hex_digit n) ≡ true) × (digit_of (hex_digit n) ≡ n)
unfolding hex_digit is_digit digit_of
digit_back n below =
    elim (dec_lt n 10) [
      | yes low ↦
          rw (lt-ltb n 10 low, le-leb 48 (48 + n) (omega arith), le-leb (48 + n) 57 (omega arith)) (refl, omega arith)
      | no high ↦
          rw (
            le-ltb n 10 (omega arith),
            le-leb 48 (65 + (n - 10)) (omega arith),
            lt-leb (65 + (n - 10)) 57 (omega arith),
            le-leb 65 (65 + (n - 10)) (omega arith),
            le-leb (65 + (n - 10)) 70 (omega arith),
          )
          (refl, omega arith)
    ]

-- so are the two of a byte
high_back : (b : ℕ) → b < 256 → (is_digit (hex_digit (b / 16)) ≡ true) × (digit_of (hex_digit (b / 16)) ≡ b / 16)
high_back b small = digit_back (b / 16) ((div-lt_iff_lt-mul {k = 16} (omega arith)).1 (omega arith))

low_back : (b : ℕ) → (is_digit (hex_digit (b % 16)) ≡ true) × (digit_of (hex_digit (b % 16)) ≡ b % 16)
low_back b = digit_back (b % 16) (mod-lt b (omega arith))

digit_high : (n : ℕ) → 48 ≤ hex_digit n
unfolding hex_digit
digit_high n = cond_both (λ (x : ℕ). 48 ≤ x) (ltb n 10) (omega arith) (omega arith)

-- bytes one after the other
unfoldable pub hex_bytes : List ℕ → List ℕ
hex_bytes [] = []
hex_bytes (b ∷ bs) = hex_byte b ++ hex_bytes bs

abbrev pub Bytes : List ℕ → Type 0
Bytes = All (λ b. b < 256)

pub bytes_unbroken : (bs : List ℕ) → unbroken (hex_bytes bs) ≡ true
unfolding hex_bytes hex_byte unbroken
bytes_unbroken [] = refl
bytes_unbroken (b ∷ bs) =
    rw (
      ne_eqb (hex_digit (b / 16)) line_feed (λ e. omega (arith, digit_high (b / 16))),
      ne_eqb (hex_digit (b % 16)) line_feed (λ e. omega (arith, digit_high (b % 16))),
    )
    (bytes_unbroken bs)

pub bytes-length : (bs : List ℕ) → length (hex_bytes bs) ≡ 2 * length bs
unfolding hex_bytes hex_byte
bytes-length [] = refl
bytes-length (b ∷ bs) = omega (arith, bytes-length bs)

-- with a line feed after them they are a line in hexadecimal
pub bytes_line : (bs : List ℕ) → Bytes bs → hex_line (hex_bytes bs ++ (line_feed ∷ [])) ≡ true
unfolding hex_bytes hex_byte is_digit
bytes_line [] each = refl
bytes_line (b ∷ bs) each = rw ((high_back b each.0).0, (low_back b).0) (bytes_line bs each.1)

pub byte_back : (bs rest : List ℕ) → Bytes bs → (k : ℕ) → k < length bs → byte_at (hex_bytes bs ++ rest) k ≡ get_or bs k 0
unfolding hex_bytes hex_byte byte_at
byte_back [] rest each k below = absurd (omega arith)
byte_back (b ∷ bs) rest each zero below =
    rw ((high_back b each.0).1, (low_back b).1) (div-add-mod' b 16)
byte_back (b ∷ bs) rest each (suc k) below =
    let high : 2 * suc k ≡ suc (suc (2 * k)) = omega arith in
    let low : 2 * suc k + 1 ≡ suc (suc (2 * k + 1)) = omega arith in
    rw (low, high) (byte_back bs rest each.1 k (omega arith))

-- a value of two bytes
pub two : {v : ℕ} → v ≤ max16 → {Rest : Type 0} → Rest → (v / 256 < 256) × ((v % 256 < 256) × Rest)
two {v} fits rest = ((div-lt_iff_lt-mul {k = 256} (omega arith)).1 (omega arith), (mod-lt v (omega arith), rest))

pub value_back : (v : ℕ) (bs rest : List ℕ) → Bytes bs → (k : ℕ) → k + 1 < length bs →
    get_or bs k 0 ≡ v / 256 → get_or bs (k + 1) 0 ≡ v % 256 → word_at (hex_bytes bs ++ rest) k ≡ v
unfolding word_at
value_back v bs rest each k below high low =
    ap₂ (λ (a b : ℕ). a * 256 + b) (byte_back bs rest each k (omega arith) ∙ high)
    (byte_back bs rest each (k + 1) below ∙ low)
    ∙ div-add-mod' v 256
