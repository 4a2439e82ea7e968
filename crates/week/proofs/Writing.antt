-- The batches of a list, and lists freshly written: how many and how long they are, and one more.
use Prim.Native.Nat.{ℕ, ◌+◌, ◌≤◌, ◌<◌, min}
use native.Mathlib.Omega.{arith}
use mathlib.Core.Path.{◌≡◌, refl, sym, ◌∙◌}
use mathlib.Core.List.{List, [], ◌∷◌, ◌++◌}
use lib.ListN.{length, take, set, length-take, length-append}
use lib.Seq.{length-take-le, take-append_seam, append_snoc, set_split, take_at}
use Rattle.arrays.specs.Made.{padded}
use Rattle.week.specs.declared.record.Batch.{Batch}
use Rattle.week.specs.Record.{Week, max_batches, empty_batch}
use Rattle.week.specs.Order.{ordered}
use Rattle.week.specs.Written.{batches_of, written}
use Rattle.week.specs.Ordered.{ordered_week}
use Rattle.week.proofs.Ordering.{ordered-length}

-- a list has as many batches as it counts
pub batches_counted : (w : Week) → length w.batches ≡ max_batches → w.count ≤ max_batches → length (batches_of w) ≡ w.count
batches_counted w long few = length-take-le w.count w.batches (omega arith)

-- and has no more of them than its array
pub placed_counted : (w : Week) → length w.batches ≡ max_batches → length (batches_of w) ≡ min w.count max_batches
placed_counted w long = omega (arith, length-take w.count w.batches)

-- a list of a week that counts some batches, with these and empty ones in its array, is written from them
pub is_written : {t c : ℕ} {w : Week} (bs : List Batch) → w.opening ≡ t → w.closing ≡ c → w.count ≡ length bs →
    w.batches ≡ padded max_batches empty_batch bs → w ≡ written t c bs
is_written bs opening closing count batches = rw (← opening, ← closing, ← batches, ← count)

module _ (t c : ℕ) where
  -- the batches of a freshly written list are those that it is written from
  pub written_batches : (bs : List Batch) → batches_of (written t c bs) ≡ bs
  written_batches bs = take-append_seam bs _

-- a batch stored after those of a list is one more of them
pub batches_more : (w : Week) (b : Batch) → length w.batches ≡ max_batches → w.count < max_batches →
    take (w.count + 1) (set w.batches w.count b) ≡ batches_of w ++ (b ∷ [])
batches_more w b long room =
    let first : length (batches_of w) ≡ w.count = batches_counted w long (omega arith) in
    rw (set_split w.batches w.count b (omega arith), ← append_snoc)
    (take_at (batches_of w ++ (b ∷ [])) _ (w.count + 1) (omega (arith, length-append (batches_of w) (b ∷ []))))

-- put in order, they are a freshly written list
pub ordered_written : {t c : ℕ} (bs : List Batch) (w : Week) {v : Week} → v ≡ ordered_week w → w.opening ≡ t → w.closing ≡ c →
    w.count ≡ length bs → batches_of w ≡ bs → v ≡ written t c (ordered t bs)
ordered_written bs w is opening closing count batches =
    rw (is, ← opening, ← closing, batches) (is_written (ordered w.opening bs) refl refl (count ∙ sym (ordered-length w.opening bs)) refl)
