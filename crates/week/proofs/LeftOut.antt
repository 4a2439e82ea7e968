-- The loop of `leave_out`, which walks those that stay with their places: the first k of them are in the first places of a new array.
use Prim.Native.Nat.{ℕ, ◌+◌, ◌≤◌, ◌<◌}
use native.Mathlib.Numerals.{add-one}
use native.Mathlib.Omega.{arith}
use mathlib.Core.Path.{◌≡◌, refl, ap, ◌∙◌}
use mathlib.Core.Bool.{Bool, true, false, cond, not}
use mathlib.Core.List.{List, [], ◌∷◌, ◌++◌}
use lib.Dec.{eqb}
use lib.ListN.{length, get_or, take, set}
use lib.Seq.{take-suc, length-take-le}
use denote.Param.Members.{Mut}
use denote.Ref.{Bor}
use Rattle.std.proofs.Common.{Iter, filter}
use Rattle.std.specs.declared.iter.Filter.{Filter}
use Rattle.std.specs.Fn.{CalledAt}
use Rattle.std.specs.List.{enumerate_from}
use Rattle.std.specs.Iterator.Adapters.{filter_source, filter_callee, filter_steps}
use Rattle.std.specs.Slice.Iter.{iter_rest}
use Rattle.std.proofs.iter.Yields.{fronts}
use Rattle.std.proofs.lemmas.Iterator.{YieldsList, YieldsList-from_slice}
use Rattle.std.proofs.lemmas.Iterator.Consumers.{YieldsList-from_filter}
use Rattle.std.proofs.lemmas.List.FromFn.{length-enumerate_from, get_or-enumerate_from}
use Rattle.arrays.specs.Made.{padded}
use Rattle.arrays.proofs.Places.{padded_set}
use Rattle.week.specs.declared.record.Batch.{Batch}
use Rattle.week.specs.Record.{max_batches, empty_batch}
use Rattle.week.specs.Numbers.{without}

module _ (number : ℕ) where
  abbrev stays : Batch → Bool
  stays b = not (eqb b.number number)

  -- those that stay are those that are not left out
  stays_without : (bs : List Batch) → filter stays bs ≡ without number bs
  unfolding without
  stays_without [] = refl
  stays_without (b ∷ bs) =
      let rest = stays_without bs in
      elim (eqb b.number number) as
      (λ q. cond (not q) (b ∷ filter stays bs) (filter stays bs) ≡ cond q (without number bs) (b ∷ without number bs))
      [ true ↦ rest | false ↦ ap (λ (cs : List Batch). b ∷ cs) rest ]

  -- so a filter that passes them yields those
  pub left_yielded : {F : Type 0} (g : Mut F (Bor (Bor Batch) × Unit {0}) Bool) (bs : List Batch) {s : Filter (Iter Batch) F} {f : F} →
      iter_rest (filter_source s) ≡ bs → filter_callee s ≡ f →
      ((x : Bor Batch) (b : Bool) (q : F) → CalledAt g f x b q → (q ≡ f) × (b ≡ stays x.now)) →
      YieldsList (filter_steps fronts g) (λ y. y.now) s (without number bs)
  left_yielded g bs rest by tells =
      rw (← stays_without bs) (YieldsList-from_filter g stays (YieldsList-from_slice bs rest) by tells)

-- the next one is stored in its place
pub stored_next : (bs : List Batch) {k place : ℕ} {b : Batch} → length bs ≤ max_batches →
    (k < length (enumerate_from 0 bs)) × ((place, b) ≡ get_or (enumerate_from 0 bs) k (place, b)) →
    set (padded max_batches empty_batch (take k bs)) place b ≡ padded max_batches empty_batch (take (k + 1) bs)
stored_next bs {k} {place} {b} few turn =
    let more : k < length bs = omega (arith, turn.0, length-enumerate_from 0 bs) in
    let here = turn.1 ∙ get_or-enumerate_from 0 bs k (place, b) more in
    let at : place ≡ k = omega (arith, ap (λ (p : ℕ × Batch). p.0) here) in
    let size : length (take k bs) ≡ place = omega (arith, length-take-le k bs (omega arith)) in
    rw (add-one, take-suc bs k b more)
    (padded_set max_batches empty_batch (take k bs) place b size (omega arith)
    ∙ ap (λ (p : ℕ × Batch). padded max_batches empty_batch (take k bs ++ (p.1 ∷ []))) here)
