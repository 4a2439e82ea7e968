-- Numbers as text: document 01, "The sheet".
use Rattle.std.specs.Prelude.{ℕ, zero, suc, ◌+◌, ◌-◌, ◌*◌, ◌/◌, ◌%◌, ◌≤◌, ◌<◌, ◌≡◌, cond, List, [], ◌∷◌, ◌++◌, length, get_or, ltb}

-- '0' to '9'
abbrev pub digit : ℕ → ℕ
digit d = 48 + d

-- the digits of a number that has at most k of them, the first of them first
unfoldable pub spelt : ℕ → ℕ → List ℕ
spelt zero n = []
spelt (suc k) n = cond (ltb n 10) [] (spelt k (n / 10)) ++ (digit (n % 10) ∷ [])

-- "Numbers are decimal.": n has at most n + 1 digits
unfoldable pub decimal : ℕ → List ℕ
decimal n = spelt (suc n) n

-- the number that digits spell after those of a
abbrev pub value_after : ℕ → List ℕ → ℕ
value_after a [] = a
value_after a (d ∷ ds) = value_after (a * 10 + (d - digit 0)) ds

-- What a decimal numeral of n is: one digit or more that spell it, the first of several not 0.
pub record Numeral (n : ℕ) (text : List ℕ) : Type 0 where
  pub some : 1 ≤ length text
  pub digits : (i : ℕ) → i < length text → (digit 0 ≤ get_or text i 0) × (get_or text i 0 ≤ digit 9)
  pub value : value_after 0 text ≡ n
  pub leads : 1 < length text → get_or text 0 0 ≡ digit 0 → ⊥
