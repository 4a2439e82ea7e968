-- What a list that passes is, whole: what 1 to 9 ask, each the right way round.
use Rattle.std.specs.Prelude.{ℕ, ◌-◌, ◌≤◌, ◌<◌, ◌≡◌}
use Rattle.week.specs.declared.record.Batch.{Batch}
use Rattle.week.specs.Record.{Week, max_minutes, max_batches, max_recipes, batch_at, recipe_at, number_at, span_of}

-- a batch without a fault of its own, in a week that closes at c: 4 to 8
pub record Fair (c : ℕ) (b : Batch) : Type 0 where
  pub some : 1 ≤ b.count
  pub few : b.count ≤ max_recipes
  pub due : b.arrival < b.due
  pub arrival : b.arrival < c
  pub costs : (k : ℕ) → 1 ≤ k → k < b.count → ((recipe_at b k).cost ≤ (recipe_at b (k - 1)).cost) × (1 ≤ (recipe_at b (k - 1)).cost)
  pub worths : (k : ℕ) → k < b.count → (recipe_at b k).cost ≡ 0 → (recipe_at b k).worth ≡ 0

-- a week that opens before it closes and lasts at most 2,400 minutes, of at most 16 batches, each without a fault of its own, whose
-- numbers are not 0 and differ
pub record Faultless (w : Week) : Type 0 where
  pub opens : w.opening < w.closing
  pub short : span_of w ≤ max_minutes
  pub most : w.count ≤ max_batches
  pub fair : (i : ℕ) → i < w.count → Fair w.closing (batch_at w i)
  pub numbered : (i : ℕ) → i < w.count → 1 ≤ number_at w i
  pub differ : (h i : ℕ) → h < i → i < w.count → number_at w h ≡ number_at w i → ⊥
