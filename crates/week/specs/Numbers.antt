-- Batches by their numbers.
use Rattle.std.specs.Prelude.{ℕ, ◌≡◌, Bool, cond, List, [], ◌∷◌, length, get_or, eqb}
use Rattle.arrays.specs.Each.{Pairs, some_below}
use Rattle.week.specs.declared.record.Batch.{Batch}
use Rattle.week.specs.Record.{no_batch}

-- the number of one is not that of the other
abbrev pub Others : Batch → Batch → Type 0
Others a b = a.number ≡ b.number → ⊥

-- the numbers differ
abbrev pub Differ : List Batch → Type 0
Differ bs = Pairs Others bs

-- the number of the batch of an index, from 0
abbrev pub number_in : List Batch → ℕ → ℕ
number_in bs i = (get_or bs i no_batch).number

-- whether one of some batches has a number
unfoldable pub is_held : ℕ → List Batch → Bool
is_held number bs = some_below (λ i. eqb (number_in bs i) number) (length bs)

-- those that have another number, as they stand
unfoldable pub without : ℕ → List Batch → List Batch
without number [] = []
without number (b ∷ bs) = cond (eqb b.number number) (without number bs) (b ∷ without number bs)
