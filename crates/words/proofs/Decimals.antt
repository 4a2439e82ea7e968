-- A number up to 65,535 that is written in decimal is read as itself.
use Prim.Native.Nat.{ℕ, suc, ◌≤◌, ◌<◌}
use native.Mathlib.Omega.{arith}
use mathlib.Core.Path.{◌≡◌, refl, ap, ◌∙◌}
use mathlib.Core.Bool.{true}
use mathlib.Core.List.{List, [], ◌∷◌}
use lib.ListN.{length, get_or}
use Rattle.std.specs.Prelude.{Some}
use Rattle.text.specs.Decimal.{digit, decimal}
use Rattle.text.proofs.Decimals.{decimal_short}
use Rattle.text.proofs.Numerals.{numeral}
use Rattle.words.specs.Number.{max_number, are_digits, number_of}
use Rattle.words.proofs.Spelling.{digit_is, number_value}

digits_each : (text : List ℕ) → ((i : ℕ) → i < length text → (digit 0 ≤ get_or text i 0) × (get_or text i 0 ≤ digit 9)) →
    are_digits text ≡ true
unfolding are_digits
digits_each [] each = refl
digits_each (b ∷ bs) each =
    let first = each 0 (omega arith) in
    rw (digit_is b first.0 first.1) (digits_each bs (λ i within. each (suc i) (omega arith)))

pub decimal_read : (n : ℕ) → n ≤ max_number → number_of (decimal n) ≡ Some n
decimal_read n most =
    let is = numeral n in
    number_value (decimal n) is.some (decimal_short 4 n (omega arith)) (digits_each (decimal n) is.digits)
    (omega (arith, is.value))
    ∙ ap Some is.value
