use Prim.Native.Nat.{ℕ, ◌+◌, ◌-◌, ◌<◌, ◌≤◌}
use native.Mathlib.Numerals.{add-one}
use native.Mathlib.Omega.{arith}
use mathlib.Core.Path.{◌≡◌, refl, sym, ap}
use mathlib.Core.Logic.{◌⊎◌, ⊎_elim, inl, inr}
use mathlib.Core.List.{List}
use lib.ListN.{length, get_or, take, length-take}
use lib.Seq.{get_or-take, length-take-le}
use borrow.Author.Rules.{rules}
use borrow.Author.Tests.{lt-ltb, le-ltb, eq-eqb, ne_eqb}
use Rattle.arrays.proofs.Tests.{or_true}
use Rattle.week.specs.declared.record.Batch.{Batch}
use Rattle.week.specs.declared.refusal.Refusal.{Refusal}
use Rattle.week.specs.Record.{Week, max_batches, no_batch, recipe_at, batch_at}
use Rattle.week.proofs.Owned.{batches_owned}
use Rattle.week.specs.Refusal.{accepted, refused, refused_if}
use Rattle.week.specs.Fault.{numbers}
use Rattle.week.specs.Written.{batches_of}
use Rattle.judge.specs.BatchFault.{cost_fault}
use Rattle.week.proofs.First.{number_of_lem, search_found, search_on, search_over}
use Rattle.week.proofs.Faults.{fault_refuses}
use Rattle.week.proofs.Writing.{batches_counted}
use Rattle.week.proofs.Passes.{first_of_passes}
use Rattle.judge.proofs.WellFormed.{count_passes}
use Rattle.judge.proofs.Walk.{walk_start, walk_refused, walk_on, walk_over, faults_before, faults_costs, faults_later}
use Rattle.judge.proofs.fault.batches_fault.Goals as goal

-- 7 refuses a recipe that costs more than the one before, or follows one of cost 0, and no other
module _ (b : Batch) (k : ℕ) where
  costs_rise : ((recipe_at b (k - 1)).cost < (recipe_at b k).cost) ⊎ ((recipe_at b (k - 1)).cost ≡ 0) →
      cost_fault b k ≡ refused 7 0 (k + 1)
  unfolding cost_fault refused_if
  costs_rise =
      ⊎_elim (λ rises. simp (add-one, lt-ltb _ _ rises)) (λ none. simp (add-one, eq-eqb _ _ none, or_true))

  costs_fall : (recipe_at b k).cost ≤ (recipe_at b (k - 1)).cost → ((recipe_at b (k - 1)).cost ≡ 0 → ⊥) → cost_fault b k ≡ accepted
  unfolding cost_fault refused_if
  costs_fall falls some = simp (le-ltb _ _ falls, ne_eqb _ _ some)

-- the batch that the loop is at, and those that stand earlier: as many as the index says
module _ (w : Week) {items : List Batch} (are : items ≡ batches_of w) {i : ℕ} (more : i < length items) where
  counted : i < w.count
  counted = omega (arith, more, ap length are, length-take w.count w.batches)

  listed : get_or items i no_batch ≡ batch_at w i
  listed = rw are (get_or-take w.count w.batches i no_batch counted)

  earlier_size : length w.batches ≡ max_batches → w.count ≤ max_batches → length (take i w.batches) ≡ i
  earlier_size owned most = length-take-le i w.batches (omega (arith, counted))

pub loop-i-init : goal.loop-i-init
loop-i-init c = walk_start _

pub loop-k-init : goal.loop-k-init
loop-k-init c =
    let early = number_of_lem (sym c.in_default.ensures) in
    let recipes = (count_passes (get_or c.listed-b-items.result.now c.loop-i.i no_batch)).0 ((first_of_passes _).0 early).0 in
    (search rules, recipes.0, recipes.1, refl)

pub loop-k-preserved : goal.loop-k-preserved
loop-k-preserved c = (
  omega arith,
  omega arith,
  c.loop-k.invariant.2,
  search_on _ _ _ c.loop-k.invariant.3 (omega arith) (number_of_lem (costs_fall _ _ (omega arith) (λ none. omega arith))),
)

pub returns-in-Err : goal.returns-in-Err
returns-in-Err c =
    let w = c.args.week in
    let are = c.listed-b-items.ensures in
    let more = c.loop-i-test.true in
    let refuses = fault_refuses c.in-Err.early in
    walk_refused c.loop-i.invariant (counted w are more)
    (faults_before w c.loop-i.i (rw (listed w are more) at c.in-Err.ensures) refuses) refuses (ap numbers c.in_place.ensures)

pub returns-then-q-r : goal.returns-then-q-r
returns-then-q-r c =
    let w = c.args.week in
    let are = c.listed-b-items.ensures in
    let more = c.loop-i-test.true in
    let early = number_of_lem (sym c.in_default.ensures) in
    let fault : Refusal = refused 7 0 (c.loop-k.k + 1) in
    let refuses : fault.number ≡ 0 → ⊥ = λ z. omega arith in
    let found =
    search_found _ _ _ c.loop-k.invariant.3 {r = fault} c.loop-k-test.true
    (sym (costs_rise _ _ (⊎_elim inl (λ zero. inr zero.1) c.then-q-r.either)))
    refuses
    in
    walk_refused c.loop-i.invariant (counted w are more)
    (faults_costs w c.loop-i.i (rw (listed w are more) at early) (rw (listed w are more) at found) refuses) refuses refl

pub returns-in-Err-after_costs : goal.returns-in-Err-after_costs
returns-in-Err-after_costs c =
    let w = c.args.week in
    let are = c.listed-b-items.ensures in
    let more = c.loop-i-test.true in
    let early = number_of_lem (sym c.in_default.ensures) in
    let costs = number_of_lem (sym (search_over _ _ _ c.loop-k.invariant.3 c.loop-k-test.false)) in
    let size = earlier_size w are more (batches_owned w _ c.well_formed.0) c.requires in
    let is = listed w are more in
    let refuses = fault_refuses c.in-Err-after_costs.later in
    walk_refused c.loop-i.invariant (counted w are more)
    (faults_later w c.loop-i.i refl size (rw is at early) (rw is at costs) (rw is at c.in-Err-after_costs.ensures))
    refuses (ap numbers c.in_place-in-Err-after_costs.ensures)

pub loop-i-preserved : goal.loop-i-preserved
loop-i-preserved c =
    let w = c.args.week in
    let are = c.listed-b-items.ensures in
    let more = c.loop-i-test.true in
    let early = number_of_lem (sym c.in_default.ensures) in
    let costs = number_of_lem (sym (search_over _ _ _ c.loop-k.invariant.3 c.loop-k-test.false)) in
    let size = earlier_size w are more (batches_owned w _ c.well_formed.0) c.requires in
    let is = listed w are more in
    let later = faults_later w c.loop-i.i refl size (rw is at early) (rw is at costs) (rw is at c.in_default-after_costs.ensures) in
    walk_on c.loop-i.invariant (counted w are more) (number_of_lem (sym later))

pub returns-after-loop-i : goal.returns-after-loop-i
returns-after-loop-i c =
    walk_over c.loop-i.invariant
    (omega (arith, ap length c.listed-b-items.ensures, batches_counted c.args.week (batches_owned c.args.week _ c.well_formed.0) c.requires))
