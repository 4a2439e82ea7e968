-- The digits in hexadecimal, in their order.
use Prim.Native.Nat.{ℕ, ◌<◌}
use mathlib.Core.Path.{◌≡◌, refl}
use mathlib.Core.Bool.{Bool, true, false, not, true≢false}
use mathlib.Core.List.{List}
use lib.ListN.{get_or}
use lib.Dec.{eqb}
use borrow.Author.Tests.{eqb-true}
use Rattle.arrays.specs.Each.{some_below}
use Rattle.arrays.specs.Text.{bytes}
use Rattle.arrays.proofs.Each.{none_below}
use Rattle.draft.specs.Sheet.{hex_digit}

abbrev digits : List ℕ
digits = bytes "0123456789ABCDEF"

-- whether what stands in a place is not its digit
abbrev another : ℕ → Bool
another n = not (eqb (get_or digits n 0) (hex_digit n))

none_other : some_below another 16 ≡ false
unfolding some_below hex_digit
none_other = refl

same : (b : Bool) → not b ≡ false → b ≡ true
same true e = refl
same false e = absurd (true≢false e)

pub digit_listed : (n : ℕ) → n < 16 → get_or digits n 0 ≡ hex_digit n
digit_listed n below = eqb-true (get_or digits n 0) (hex_digit n) (same _ ((none_below another 16).0 none_other n below))
