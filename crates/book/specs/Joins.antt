-- What a batch must be to join others, each check of document 02's "Checks" the right way round.
use Rattle.std.specs.Prelude.{ℕ, ◌≤◌, ◌<◌, List, length}
use Rattle.arrays.specs.Each.{All}
use Rattle.week.specs.declared.record.Batch.{Batch}
use Rattle.week.specs.Record.{max_batches}
use Rattle.week.specs.Numbers.{Others}
use Rattle.judge.specs.Faultless.{Fair}

-- there is room for it, it has no fault of its own in a week that closes at c, and its number is not 0 and not held
pub record Joins (c : ℕ) (bs : List Batch) (b : Batch) : Type 0 where
  pub room : length bs < max_batches
  pub fair : Fair c b
  pub numbered : 1 ≤ b.number
  pub new : All (λ x. Others x b) bs
