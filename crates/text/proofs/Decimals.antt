-- Numbers in decimal: one digit more, how many there are at most, and that std spells them so.
use Prim.Native.Nat.{ℕ, zero, suc, ◌/◌, ◌%◌, ◌^◌, ◌≤◌, ◌<◌}
use native.Mathlib.Nat.{mod-eq_of_lt, div-lt_self, div-lt_iff_lt-mul, pow-suc}
use native.Mathlib.Decide.{dec_lt}
use native.Mathlib.Numerals.{add-one}
use native.Mathlib.Omega.{arith}
use mathlib.Core.Path.{◌≡◌, refl, sym, ap}
use mathlib.Core.Bool.{Bool, true, false, cond}
use mathlib.Core.List.{List, [], ◌∷◌, ◌++◌}
use lib.ListN.{length, length-append}
use lib.Dec.{ltb}
use borrow.Author.Tests.{lt-ltb, le-ltb, ltb-false}
use Rattle.std.proofs.lemmas.Grind.{common_steps}
use Rattle.std.proofs.lemmas.Fmt.{AppendsLastDigit, decimal_from_appends, length-decimal-le_succ}
use Rattle.std.specs.Fmt.{decimal as std_decimal}
use Rattle.text.specs.Decimal.{digit, spelt, decimal}

-- the last digit
abbrev pub last : ℕ → List ℕ
last n = digit (n % 10) ∷ []

-- a number of two digits or more is less without its last
pub fewer : (n : ℕ) → 10 ≤ n → n / 10 < n
fewer n some = div-lt_self (omega arith) (omega arith)

-- any two numbers of digits that are enough give the same
spelt_enough : (a b n : ℕ) → n < a → n < b → spelt a n ≡ spelt b n
unfolding spelt
spelt_enough zero b n below other = absurd (omega arith)
spelt_enough (suc a) zero n below other = absurd (omega arith)
spelt_enough (suc a) (suc b) n below other =
    ap (λ (l : List ℕ). l ++ last n)
    (by_size (ltb n 10) refl
    (λ more. let less = fewer n more in spelt_enough a b (n / 10) (omega arith) (omega arith)))
  where
    by_size : (q : Bool) → ltb n 10 ≡ q → (10 ≤ n → spelt a (n / 10) ≡ spelt b (n / 10)) →
        cond q [] (spelt a (n / 10)) ≡ cond q [] (spelt b (n / 10))
    by_size true e rest = refl
    by_size false e rest = rest (ltb-false n 10 e)

-- one digit
pub decimal_one : (n : ℕ) → n < 10 → decimal n ≡ last n
unfolding decimal spelt
decimal_one n one = rw (lt-ltb n 10 one)

-- one digit more
pub decimal_more : (n : ℕ) → 10 ≤ n → decimal n ≡ decimal (n / 10) ++ last n
unfolding decimal spelt
decimal_more n more =
    rw (le-ltb n 10 more) (ap (λ (l : List ℕ). l ++ last n) (spelt_enough n (suc (n / 10)) (n / 10) (fewer n more) (omega arith)))

-- a number below 10 ^ (k + 1) has at most k + 1 digits
tenth_below : (k n : ℕ) → n < 10 ^ suc k → n / 10 < 10 ^ k
tenth_below k n below = (div-lt_iff_lt-mul {k = 10} (omega arith)).1 (rw pow-suc at below)

pub decimal_short : (k n : ℕ) → n < 10 ^ suc k → length (decimal n) ≤ suc k
decimal_short zero n below = rw (decimal_one n below) (omega arith)
decimal_short (suc k) n below =
    elim (dec_lt n 10) [
      | yes one ↦ rw (decimal_one n one) (omega arith)
      | no more ↦
          rw (decimal_more n (omega arith), length-append)
          (omega (arith, decimal_short k (n / 10) (tenth_below (suc k) n below)))
    ]

-- numbers of 16 bits, and of 32
pub decimal_five : (n : ℕ) → n < 2 ^ 16 → length (decimal n) ≤ 5
decimal_five n fits = decimal_short 4 n (omega arith)

pub decimal_ten : (n : ℕ) → n < 2 ^ 32 → length (decimal n) ≤ 10
decimal_ten n fits = decimal_short 9 n (omega arith)

-- both, beside the usual steps
pub ruleset widths = (common_steps, decimal_five, decimal_ten)

-- std's spelling of a number, by which the digits of a type are printed, is the one here
printed_steps : AppendsLastDigit spelt
unfolding spelt
printed_steps =
    record {
      one = λ k n one. rw (lt-ltb n 10 one, mod-eq_of_lt one);
      more = λ k n more. rw (le-ltb n 10 more);
    }

pub printed : (n : ℕ) → n < 2 ^ 64 → std_decimal n ≡ decimal n
unfolding decimal
printed n fits = sym (decimal_from_appends spelt printed_steps (suc n) n fits (rw (← add-one n) (length-decimal-le_succ n fits)))
