-- Whether a word is a number, and which, is decided digit by digit: the bytes from an index on decide.
use Prim.Native.Nat.{ℕ, ◌+◌, ◌-◌, ◌*◌, ◌^◌, ◌≤◌, ◌<◌}
use native.Mathlib.Nat.{pow-suc}
use native.Mathlib.Numerals.{add-one}
use native.Mathlib.Omega.{arith}
use mathlib.Core.Logic.{◌⊎◌, inl, inr}
use mathlib.Core.Path.{◌≡◌, sym, ◌∙◌}
use mathlib.Core.Bool.{true, false}
use mathlib.Core.List.{List, ◌∷◌}
use lib.ListN.{length, get_or, drop, drop_of_length-le}
use lib.Seq.{drop-cons}
use borrow.Author.Tests.{le-leb, lt-leb}
use Rattle.std.specs.Prelude.{None, Some}
use Rattle.text.specs.Decimal.{digit, value_after}
use Rattle.words.specs.Number.{max_digits, max_number, is_digit, are_digits, is_number, number_of}

-- a word that is no number: of no digits, of too many, with another byte among them, or too great
module _ (word : List ℕ) where
  pub none_empty : length word ≡ 0 → number_of word ≡ None
  unfolding number_of is_number
  none_empty e = rw (lt-leb 1 (length word) (omega arith))

  pub none_long : max_digits < length word → number_of word ≡ None
  unfolding number_of is_number
  none_long l = rw (le-leb 1 (length word) (omega arith), lt-leb (length word) max_digits l)

  module _ (some : 1 ≤ length word) (few : length word ≤ max_digits) where
    pub none_other : are_digits word ≡ false → number_of word ≡ None
    unfolding number_of is_number
    none_other e = rw (le-leb 1 (length word) some, le-leb (length word) max_digits few, e)

    pub none_great : are_digits word ≡ true → max_number < value_after 0 word → number_of word ≡ None
    unfolding number_of is_number
    none_great e great =
        rw (le-leb 1 (length word) some, le-leb (length word) max_digits few, e, lt-leb (value_after 0 word) max_number great)

    -- and one that is
    pub number_value : are_digits word ≡ true → value_after 0 word ≤ max_number → number_of word ≡ Some (value_after 0 word)
    unfolding number_of is_number
    number_value e most =
        rw (le-leb 1 (length word) some, le-leb (length word) max_digits few, e, le-leb (value_after 0 word) max_number most)

-- a byte that is a digit, and one that is not
pub digit_is : (b : ℕ) → digit 0 ≤ b → b ≤ digit 9 → is_digit b ≡ true
digit_is b low high = rw (le-leb (digit 0) b low, le-leb b (digit 9) high)

pub digit_other : (b : ℕ) → (b < digit 0) ⊎ (digit 9 < b) → is_digit b ≡ false
digit_other b (inl low) = rw (lt-leb (digit 0) b low)
digit_other b (inr high) = rw (le-leb (digit 0) b (omega arith), lt-leb b (digit 9) high)

-- i digits are read, and spell `value`
pub record Spelling (word : List ℕ) (i value : ℕ) : Type 0 where
  pub within : i ≤ length word
  pub below : value < 10 ^ i
  pub digits : are_digits (drop i word) ≡ are_digits word
  pub spelt : value_after value (drop i word) ≡ value_after 0 word

module _ {word : List ℕ} {i value : ℕ} (h : Spelling word i value) where
  module _ (more : i < length word) where
    rest : drop i word ≡ get_or word i 0 ∷ drop (i + 1) word
    rest = rw add-one (drop-cons word i 0 more)

    -- a digit is one more
    pub spelling_step : digit 0 ≤ get_or word i 0 → get_or word i 0 ≤ digit 9 →
        Spelling word (i + 1) (value * 10 + (get_or word i 0 - digit 0))
    unfolding are_digits
    spelling_step low high =
        record {
          within = omega arith;
          below = rw (add-one i, pow-suc) (omega (arith, h.below));
          digits = rw (← h.digits, rest, digit_is (get_or word i 0) low high);
          spelt = rw rest at h.spelt;
        }

    -- any other byte decides
    pub spelling_other : is_digit (get_or word i 0) ≡ false → are_digits word ≡ false
    unfolding are_digits
    spelling_other e = sym h.digits ∙ rw (rest, e)

  -- all are digits
  module _ (over : length word ≤ i) where
    pub spelling_digits : are_digits word ≡ true
    unfolding are_digits
    spelling_digits = sym h.digits ∙ rw (drop_of_length-le word over)

    pub spelling_value : value_after 0 word ≡ value
    spelling_value = sym h.spelt ∙ rw (drop_of_length-le word over)
