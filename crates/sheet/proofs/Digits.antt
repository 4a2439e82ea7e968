-- The value of a digit, and of any byte, is below 16.
use Prim.Native.Nat.{ℕ, ◌<◌}
use native.Mathlib.Omega.{arith}
use Rattle.std.proofs.lemmas.Bool.Decides.{nat_tests}
use Rattle.sheet.specs.Hex.{digit_of}

pub digit_small : (b : ℕ) → digit_of b < 16
unfolding digit_of
digit_small b = grind (arith, nat_tests)
