-- A list as it is written down: docs/WEEKDESK.md, ‘What is written down’.
use Rattle.std.specs.Prelude.{ℕ, suc, min, cond, List, [], ◌∷◌, length, take, set, ltb, leb}
use Rattle.arrays.specs.Made.{padded}
use Rattle.week.specs.declared.record.Batch.{Batch}
use Rattle.week.specs.declared.record.Listing.{Listing}
use Rattle.week.specs.Record.{Week, max_batches, empty_batch, empty_listing}

-- ‘the first 64 kept’
abbrev pub max_kept : ℕ
max_kept = 64

-- a list that is written down
abbrev pub Draft : Type 0
Draft = Listing max_kept

-- ‘week T C’: ‘a new list, of no batches’
abbrev pub empty_draft : ℕ → ℕ → Draft
empty_draft = empty_listing max_kept

-- ‘batch ..’: ‘one batch more’; the count goes up to one more than are kept
unfoldable pub with_batch : Draft → Batch → Draft
with_batch d b =
    record {
      opening = d.opening;
      closing = d.closing;
      count = cond (leb d.count max_kept) (suc d.count) d.count;
      batches = cond (ltb d.count max_kept) (set d.batches d.count b) d.batches;
    }

-- one after the other
unfoldable pub with_batches : Draft → List Batch → Draft
with_batches d [] = d
with_batches d (b ∷ bs) = with_batches (with_batch d b) bs

-- ‘of the batches the count, and the first 64 kept’: a list by its batches as they were written down
unfoldable pub draft_of : ℕ → ℕ → List Batch → Draft
draft_of t c bs =
    record {
      opening = t;
      closing = c;
      count = min (length bs) (suc max_kept);
      batches = padded max_kept empty_batch (take max_kept bs);
    }

-- ‘an operation over a list by value is handed the first 16 of them and the count’
unfoldable pub week_of : Draft → Week
week_of d =
    record { opening = d.opening; closing = d.closing; count = d.count; batches = take max_batches d.batches }

-- and of the batches as they were written down
abbrev pub week_handed : ℕ → ℕ → List Batch → Week
week_handed t c bs =
    record {
      opening = t;
      closing = c;
      count = min (length bs) (suc max_kept);
      batches = padded max_batches empty_batch (take max_batches bs);
    }

-- ‘`book`’: ‘the book's list as `list` prints one’: a list by value as one that is written down, with empty batches beyond its places
unfoldable pub of_week : Week → Draft
of_week w =
    record { opening = w.opening; closing = w.closing; count = w.count; batches = padded max_kept empty_batch w.batches }
