-- What holds of each entry of a list, of each and every later one, and of some.
use Rattle.std.specs.Prelude.{ℕ, zero, suc, ◌≤◌, ◌<◌, Bool, false, ◌||◌, List, [], ◌∷◌, get_or}

-- P holds of each
abbrev pub All : {A : Type 0} → (A → Type 0) → List A → Type 0
All P [] = Unit {0}
All P (x ∷ xs) = P x × All P xs

-- each stands in R to every later one
abbrev pub Pairs : {A : Type 0} → (A → A → Type 0) → List A → Type 0
Pairs R [] = Unit {0}
Pairs R (x ∷ xs) = All (R x) xs × Pairs R xs

-- each of the first n entries is one of 1 to its limit
abbrev pub OneOfEach : ℕ → (ℕ → ℕ) → List ℕ → Type 0
OneOfEach n limit xs = (i : ℕ) → i < n → (1 ≤ get_or xs i 0) × (get_or xs i 0 ≤ limit i)

-- a test holds at one of the first n indices
unfoldable pub some_below : (ℕ → Bool) → ℕ → Bool
some_below p zero = false
some_below p (suc n) = some_below p n || p n
