-- The sum of a number for each position.
use Rattle.std.specs.Prelude.{ℕ, zero, suc, ◌+◌}

-- over positions 1 to i
unfoldable pub sum_to : (ℕ → ℕ) → ℕ → ℕ
sum_to f zero = 0
sum_to f (suc i) = sum_to f i + f (suc i)
