-- How many bytes the numbers of a batch have at most.
use Rattle.std.proofs.Common.{ℕ, ◌^◌, ◌≤◌, ◌<◌, ◌*◌, [], ◌∷◌, length, arith}
use Rattle.text.proofs.Spacing.{numbers, numbers_short}

-- three numbers of 16 bits, each after a space
pub three_short : (a b c : ℕ) → a < 2 ^ 16 → b < 2 ^ 16 → c < 2 ^ 16 → length (numbers (a ∷ b ∷ c ∷ [])) ≤ 3 * 6
three_short a b c x y z = numbers_short 4 (a ∷ b ∷ c ∷ []) (omega arith, (omega arith, (omega arith, tt)))
