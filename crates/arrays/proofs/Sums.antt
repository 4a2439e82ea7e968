-- Sums over positions 1 to i: what they say of their numbers, and how two of them compare.
use Prim.Native.Nat.{ℕ, zero, suc, ◌≤◌, ◌<◌}
use native.Mathlib.Decide.{ℕ_discrete, dec_le}
use native.Mathlib.Omega.{arith}
use mathlib.Core.Path.{◌≡◌, ap}
use Rattle.arrays.specs.Sum.{sum_to}

-- a number of positions 1 to i is at most their sum
pub sum_part : (f : ℕ → ℕ) (j i : ℕ) → 1 ≤ j → j ≤ i → f j ≤ sum_to f i
unfolding sum_to
sum_part f j zero low high = absurd (omega arith)
sum_part f j (suc i) low high =
    elim (ℕ_discrete j (suc i)) [
      | yes e ↦ omega (arith, ap f e)
      | no other ↦ omega (arith, sum_part f j i low (omega arith))
    ]

-- numbers that are at most others sum to at most theirs, and to less if one is less
module _ (f g : ℕ → ℕ) where
  pub sum_le : (i : ℕ) → ((j : ℕ) → 1 ≤ j → j ≤ i → f j ≤ g j) → sum_to f i ≤ sum_to g i
  unfolding sum_to
  sum_le zero each = omega arith
  sum_le (suc i) each =
      omega (arith, sum_le i (λ j low high. each j low (omega arith)), each (suc i) (omega arith) (omega arith))

  pub sum_less : (i : ℕ) → ((j : ℕ) → 1 ≤ j → j ≤ i → f j ≤ g j) → (k : ℕ) → 1 ≤ k → k ≤ i → f k < g k → sum_to f i < sum_to g i
  unfolding sum_to
  sum_less zero each k low high less = absurd (omega arith)
  sum_less (suc i) each k low high less =
      elim (ℕ_discrete k (suc i)) [
        | yes e ↦ omega (arith, sum_le i (λ j l h. each j l (omega arith)), ap f e, ap g e)
        | no other ↦
            omega (
              arith,
              sum_less i (λ j l h. each j l (omega arith)) k low (omega arith) less,
              each (suc i) (omega arith) (omega arith),
            )
      ]

-- numbers that are all 0 sum to 0
pub sum_none : (f : ℕ → ℕ) (i : ℕ) → ((j : ℕ) → 1 ≤ j → j ≤ i → f j ≤ 0) → sum_to f i ≡ 0
unfolding sum_to
sum_none f zero each = omega arith
sum_none f (suc i) each =
    omega (arith, sum_none f i (λ j low high. each j low (omega arith)), each (suc i) (omega arith) (omega arith))

-- more positions sum to no less
pub sum_longer : (f : ℕ → ℕ) (i n : ℕ) → i ≤ n → sum_to f i ≤ sum_to f n
unfolding sum_to
sum_longer f i zero within = let e : i ≡ 0 = omega arith in rw e (omega arith)
sum_longer f i (suc n) within =
    elim (ℕ_discrete i (suc n)) [
      | yes e ↦ rw e (omega arith)
      | no other ↦ omega (arith, sum_longer f i n (omega arith))
    ]

-- a sum that is not 0 has a number that is not
pub sum_some : (f : ℕ → ℕ) (i : ℕ) → 1 ≤ sum_to f i → (j : ℕ) × (1 ≤ j) × (j ≤ i) × (1 ≤ f j)
unfolding sum_to
sum_some f zero some = absurd (omega arith)
sum_some f (suc i) some =
    elim (dec_le 1 (f (suc i))) [
      | yes here ↦ (suc i, omega arith, omega arith, here)
      | no none ↦ let before = sum_some f i (omega arith) in (before.0, before.1, omega (arith, before.2), before.3)
    ]
