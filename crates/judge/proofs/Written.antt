-- Which freshly written lists are well formed: those of batches that are fit.
use Prim.Native.Nat.{ℕ, ◌≤◌}
use mathlib.Core.Path.{ap}
use mathlib.Core.Logic.{◌↔◌}
use mathlib.Core.List.{List}
use lib.ListN.{length}
use Rattle.week.specs.declared.record.Batch.{Batch}
use Rattle.week.specs.Record.{max_batches}
use Rattle.week.specs.Written.{written}
use Rattle.week.proofs.Writing.{written_batches}
use Rattle.judge.specs.Fault.{WellFormed}
use Rattle.judge.specs.Fit.{Fit}
use Rattle.judge.proofs.Fit.{list_fit}

pub written_passes : (t c : ℕ) (bs : List Batch) → length bs ≤ max_batches → WellFormed (written t c bs) ↔ Fit t c bs
written_passes t c bs most =
    let passes = list_fit (written t c bs) (ap length (written_batches t c bs)) in
    (λ h. rw (written_batches t c bs) at (passes.0 h).1, λ fit. passes.1 (most, rw (written_batches t c bs) fit))
