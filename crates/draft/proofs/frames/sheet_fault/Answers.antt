use Prim.Native.Nat.{ℕ, suc, ◌+◌, ◌<◌, ◌≤◌}
use native.Mathlib.Numerals.{add-one}
use native.Mathlib.Omega.{arith}
use mathlib.Core.Path.{◌≡◌, sym, ap, ◌∙◌}
use mathlib.Core.List.{List}
use lib.ListN.{get_or, length, length-take}
use lib.Seq.{get_or-take}
use borrow.Author.Tests.{lt-ltb, le-ltb}
use Rattle.week.specs.declared.record.Batch.{Batch}
use Rattle.week.specs.declared.refusal.Fault.{Fault}
use Rattle.week.specs.Record.{max_recipes, no_batch}
use Rattle.week.specs.Refusal.{accepted, refused}
use Rattle.week.specs.Fault.{numbers, place_in}
use Rattle.week.specs.Written.{batches_of}
use Rattle.week.proofs.First.{number_of_lem, refused_if_true, refused_if_false, search_after, search_found, search_on, search_over}
use Rattle.week.proofs.Faults.{fault_refuses}
use Rattle.draft.specs.Record.{Draft}
use Rattle.draft.specs.Sheet.{batch_in, unkept, sheet_fault}
use Rattle.draft.proofs.frames.sheet_fault.Goals as goal

-- the batch that the loop is at, and when 4 refuses it
module _ (d : Draft) {items : List Batch} (are : items ≡ batches_of d) (i : ℕ) (more : i < length items) where
  counted : i < d.count
  counted = omega (arith, more, ap length are, length-take d.count d.batches)

  listed : get_or items i no_batch ≡ batch_in d i
  listed = rw are (get_or-take d.count d.batches i no_batch counted)

  unkept_refused : max_recipes < (get_or items i no_batch).count → unkept d i ≡ refused 4 (i + 1) 0
  unfolding unkept
  unkept_refused more = rw add-one (refused_if_true 4 (suc i) 0 (lt-ltb _ _ (rw listed at more)))

  unkept_passes : (get_or items i no_batch).count ≤ max_recipes → unkept d i ≡ accepted
  unfolding unkept
  unkept_passes few = refused_if_false 4 (suc i) 0 (le-ltb _ _ (rw listed at few))

pub loop-i-init : goal.loop-i-init
unfolding sheet_fault
loop-i-init c = search_after _ _ _ _ _ (le-ltb _ _ c.if-draft-gt-MAX_BATCHES.false)

pub returns-then-batch-gt-MAX_RECIPES : goal.returns-then-batch-gt-MAX_RECIPES
returns-then-batch-gt-MAX_RECIPES c =
    let d = c.args.draft in
    let i = c.loop-i.i in
    let are = c.listed-batch-items.ensures in
    let more = c.loop-i-test.true in
    let named = ap numbers c.in_place.ensures ∙ ap (λ (f : Fault). numbers (place_in (i + 1) f)) c.of-then-batch-gt-MAX_RECIPES.ensures in
    search_found _ _ _ c.loop-i.invariant (counted d are i more)
    (named ∙ sym (unkept_refused d are i more c.if-batch-gt-MAX_RECIPES.true))
    (fault_refuses c.in_place.result)

pub loop-i-preserved : goal.loop-i-preserved
loop-i-preserved c =
    let d = c.args.draft in
    let i = c.loop-i.i in
    let are = c.listed-batch-items.ensures in
    let more = c.loop-i-test.true in
    search_on _ _ _ c.loop-i.invariant (counted d are i more) (number_of_lem (unkept_passes d are i more c.if-batch-gt-MAX_RECIPES.false))

pub returns : goal.returns
returns c =
    let d = c.args.draft in
    search_over _ _ _ c.loop-i.invariant
    (omega (arith, ap length c.listed-batch-items.ensures, length-take d.count d.batches))
