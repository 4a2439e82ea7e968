-- A list is well formed exactly if it is of at most 16 batches, and its minutes and batches are fit; and what keeps batches fit.
use Prim.Native.Nat.{ℕ, ◌≤◌, ◌<◌}
use native.Mathlib.Decide.{dec_le}
use native.Mathlib.Omega.{arith}
use mathlib.Core.Path.{◌≡◌, ap}
use mathlib.Core.Logic.Iff
use mathlib.Core.Logic.{◌↔◌}
use mathlib.Core.List.{List, ◌∷◌}
use lib.ListN.{length, get_or}
use lib.Seq.{get_or-take, length-take-le}
use Rattle.std.proofs.lemmas.List.{get_or_past}
use Rattle.arrays.specs.Each.{All, Pairs}
use Rattle.arrays.specs.Rearranged.{Perm}
use Rattle.arrays.proofs.Pairs.{all_index, pairs_index}
use Rattle.arrays.proofs.Rearranges.{perm_all}
use Rattle.week.specs.declared.record.Batch.{Batch}
use Rattle.week.specs.Record.{Week, max_batches, no_batch, batch_at}
use Rattle.week.specs.Numbers.{Others, without}
use Rattle.week.specs.Written.{batches_of}
use Rattle.week.proofs.Ordering.{perm_differ}
use Rattle.week.proofs.Without.{without_all, without_pairs}
use Rattle.judge.specs.Fault.{WellFormed}
use Rattle.judge.specs.Faultless.{Fair}
use Rattle.judge.specs.Fit.{Fit}
use Rattle.judge.proofs.WellFormed.{list_passes}

-- ---- the batches of a list, by index and as a list: it has as many as it counts
module _ (w : Week) (counted : length (batches_of w) ≡ w.count) where
  index_batches : (i : ℕ) → i < w.count → get_or (batches_of w) i no_batch ≡ batch_at w i
  index_batches i = get_or-take w.count w.batches i no_batch

  all_batches : (P : Batch → Type 0) → ((i : ℕ) → i < w.count → P (batch_at w i)) ↔ All P (batches_of w)
  all_batches P = (
    λ each.
        (all_index P no_batch (batches_of w)).1
        (λ i l. let m : i < w.count = omega (arith, counted) in rw index_batches (each i m)),
    λ all i l. rw index_batches at ((all_index P no_batch (batches_of w)).0 all i (omega (arith, counted))),
  )

  pub pairs_batches : (R : Batch → Batch → Type 0) →
      ((h i : ℕ) → h < i → i < w.count → R (batch_at w h) (batch_at w i)) ↔ Pairs R (batches_of w)
  pairs_batches R = (
    λ each.
        (pairs_index R no_batch (batches_of w)).1
        (λ h i l u.
        let m : i < w.count = omega (arith, counted) in
        rw (index_batches h (omega arith), index_batches i m) (each h i l m)),
    λ pairs h i l u.
        rw (index_batches h (omega arith), index_batches i u) at
        ((pairs_index R no_batch (batches_of w)).0 pairs h i l (omega (arith, counted))),
  )

  -- the statement
  pub list_fit : WellFormed w ↔ ((w.count ≤ max_batches) × Fit w.opening w.closing (batches_of w))
  list_fit = Iff.trans (list_passes w) (
    λ faultless. (
      faultless.most,
      record {
        opens = faultless.opens;
        short = faultless.short;
        fair = (all_batches _).0 faultless.fair;
        numbered = (all_batches _).0 faultless.numbered;
        differ = (pairs_batches _).0 faultless.differ;
      },
    ),
    λ (most, fit).
        record {
          opens = fit.opens;
          short = fit.short;
          most = most;
          fair = (all_batches _).1 fit.fair;
          numbered = (all_batches _).1 fit.numbered;
          differ = (pairs_batches _).1 fit.differ;
        },
  )

-- a list that is well formed does: what stands past the end of an array has no recipe, which 4 refuses
module _ (w : Week) (list : WellFormed w) where
  long_enough : w.count ≤ length w.batches
  long_enough =
      elim (dec_le w.count (length w.batches)) [
        | yes enough ↦ enough
        | no short ↦
            let i = length w.batches in
            let fair = ((list_passes w).0 list).fair i (omega (arith, short)) in
            absurd (omega (arith, fair.some, ap (λ (b : Batch). b.count) (get_or_past w.batches i no_batch (omega arith))))
      ]

  pub list_counted : length (batches_of w) ≡ w.count
  list_counted = length-take-le w.count w.batches long_enough

  pub fit_list : Fit w.opening w.closing (batches_of w)
  fit_list = ((list_fit w list_counted).0 list).1

-- ---- what keeps batches fit
-- a rearrangement
pub fit_perm : {t c : ℕ} {bs cs : List Batch} → Perm bs cs → Fit t c bs → Fit t c cs
fit_perm p fit =
    record {
      opens = fit.opens;
      short = fit.short;
      fair = perm_all _ p fit.fair;
      numbered = perm_all _ p fit.numbered;
      differ = perm_differ p fit.differ;
    }

-- one more batch, fair and of a number that is not 0 and new
pub fit_more : {t c : ℕ} {b : Batch} {bs : List Batch} → Fair c b → 1 ≤ b.number → All (Others b) bs → Fit t c bs → Fit t c (b ∷ bs)
fit_more fair some new fit =
    record {
      opens = fit.opens;
      short = fit.short;
      fair = (fair, fit.fair);
      numbered = (some, fit.numbered);
      differ = (new, fit.differ);
    }

-- those of a number left out
pub fit_without : {t c : ℕ} (n : ℕ) {bs : List Batch} → Fit t c bs → Fit t c (without n bs)
fit_without n {bs} fit =
    record {
      opens = fit.opens;
      short = fit.short;
      fair = without_all n _ bs fit.fair;
      numbered = without_all n _ bs fit.numbered;
      differ = without_pairs n _ bs fit.differ;
    }
