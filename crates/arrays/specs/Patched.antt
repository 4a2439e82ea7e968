-- A list of which a range of entries is changed.
use Rattle.std.specs.Prelude.{ℕ, ◌≤◌, ◌<◌, ◌≡◌, List, length, get_or}

-- the entries from a up to b are now those of g, and the others are kept
pub record Patched (g : ℕ → ℕ) (a b : ℕ) (old new : List ℕ) : Type 0 where
  pub size : length new ≡ length old
  pub done : (m : ℕ) → a ≤ m → m < b → get_or new m 0 ≡ g m
  pub kept : (m : ℕ) → ((a ≤ m) × (m < b) → ⊥) → get_or new m 0 ≡ get_or old m 0
