-- Batches that can make a list, in whatever order they stand.
use Rattle.std.specs.Prelude.{ℕ, ◌-◌, ◌≤◌, ◌<◌, List}
use Rattle.arrays.specs.Each.{All}
use Rattle.week.specs.declared.record.Batch.{Batch}
use Rattle.week.specs.Record.{max_minutes}
use Rattle.week.specs.Numbers.{Differ}
use Rattle.judge.specs.Faultless.{Fair}

-- minutes and batches that none of 1, 2 and 4 to 9 refuses
pub record Fit (t c : ℕ) (bs : List Batch) : Type 0 where
  pub opens : t < c
  pub short : c - t ≤ max_minutes
  pub fair : All (Fair c) bs
  pub numbered : All (λ b. 1 ≤ b.number) bs
  pub differ : Differ bs
