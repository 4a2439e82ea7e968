-- ‘of the batches the count, and the first 64 kept’: what a list holds once its batches are written down, one after the other; and
-- ‘the first 16 of them and the count’: what it hands in.
use Prim.Native.Nat.{ℕ, suc, min}
use native.Mathlib.Decide.{dec_lt}
use native.Mathlib.Omega.{arith}
use mathlib.Core.Path.{◌≡◌, refl, sym, ap, ap₂, ◌∙◌}
use mathlib.Core.Bool.{cond}
use mathlib.Core.List.{List, [], ◌∷◌, ◌++◌, append_assoc, append-nil}
use lib.ListN.{length, take, set, length-append}
use lib.Seq.{take_all, take-append-le, take-take}
use lib.Dec.{ltb, leb}
use borrow.Author.Tests.{lt-ltb, le-ltb, le-leb}
use Rattle.arrays.specs.Made.{padded}
use Rattle.arrays.proofs.Places.{padded_set, take_padded}
use Rattle.week.specs.declared.record.Batch.{Batch}
use Rattle.week.specs.Record.{max_batches, empty_batch}
use Rattle.draft.specs.Record.{Draft, max_kept, empty_draft, with_batch, with_batches, draft_of, week_of, week_handed}

abbrev counted : ℕ → ℕ
counted n = min n (suc max_kept)

abbrev stored : List Batch → List Batch
stored bs = padded max_kept empty_batch (take max_kept bs)

-- one more
count_more : (n : ℕ) → cond (leb (counted n) max_kept) (suc (counted n)) (counted n) ≡ counted (suc n)
count_more n =
    elim (dec_lt max_kept n) [
      | yes over ↦ let all : counted n ≡ suc max_kept = omega arith in rw all (omega arith)
      | no within ↦
          let here : counted n ≡ n = omega arith in
          rw (here, le-leb n max_kept (omega arith)) (omega arith)
    ]

store_more : (bs : List Batch) (b : Batch) →
    let n = counted (length bs) in
    cond (ltb n max_kept) (set (stored bs) n b) (stored bs) ≡ stored (bs ++ (b ∷ []))
store_more bs b =
    let more = length-append bs (b ∷ []) in
    elim (dec_lt (length bs) max_kept) [
      | yes place ↦
          let here : counted (length bs) ≡ length bs = omega arith in
          rw (
            here,
            lt-ltb (length bs) max_kept place,
            take_all max_kept bs (omega arith),
            take_all max_kept (bs ++ (b ∷ [])) (omega arith),
            padded_set max_kept empty_batch bs (length bs) b refl place,
          )
      | no full ↦
          rw (le-ltb (counted (length bs)) max_kept (omega arith), take-append-le max_kept bs (b ∷ []) (omega arith))
    ]

module _ (t c : ℕ) where
  draft_more : (bs : List Batch) (b : Batch) → with_batch (draft_of t c bs) b ≡ draft_of t c (bs ++ (b ∷ []))
  unfolding with_batch draft_of
  draft_more bs b =
      let more : suc (length bs) ≡ length (bs ++ (b ∷ [])) = omega (arith, length-append bs (b ∷ [])) in
      ap₂ (λ (n : ℕ) (l : List Batch). record { opening = t; closing = c; count = n; batches = l })
      (count_more (length bs) ∙ ap counted more) (store_more bs b)

  draft_all : (bs more : List Batch) → with_batches (draft_of t c bs) more ≡ draft_of t c (bs ++ more)
  unfolding with_batches
  draft_all bs [] = ap (draft_of t c) (sym (append-nil bs))
  draft_all bs (b ∷ more) =
      ap (λ (d : Draft). with_batches d more) (draft_more bs b)
      ∙ draft_all (bs ++ (b ∷ [])) more
      ∙ ap (draft_of t c) (append_assoc bs (b ∷ []) more)

  pub kept : (bs : List Batch) → with_batches (empty_draft t c) bs ≡ draft_of t c bs
  unfolding draft_of
  kept bs = draft_all [] bs

  pub handed : (bs : List Batch) → week_of (with_batches (empty_draft t c) bs) ≡ week_handed t c bs
  unfolding week_of draft_of
  handed bs =
      rw (
        kept bs,
        take_padded max_batches max_kept empty_batch (take max_kept bs) (omega arith),
        take-take max_batches max_kept bs (omega arith),
      )
