-- What document 02 asks of lists lent as records, each sentence above its theorem; docs/PROMISES.md has a row for each. The contract says
-- that the code answers what the definitions say, on every input; the theorems here say that the definitions are what was asked for.
use Prim.Native.Nat.{ℕ, suc, zero, ◌≤◌}
use native.Mathlib.Omega.{arith}
use mathlib.Core.Path.{◌≡◌, refl, sym, ◌∙◌}
use mathlib.Core.List.{List}
use lib.ListN.{length, get_or-append}
use Rattle.std.proofs.lemmas.List.{take_all}
use Rattle.arrays.specs.Position.{at_position}
use Rattle.arrays.specs.Rearranged.{Perm}
use Rattle.arrays.proofs.Rearranges.{perm_refl}
use Rattle.week.specs.declared.record.Batch.{Batch}
use Rattle.week.specs.Record.{max_batches, no_batch, batch_of}
use Rattle.week.specs.RefusalOrder.{AtFault}
use Rattle.week.specs.Order.{InOrder}
use Rattle.week.specs.Ordered.{ordered_week}
use Rattle.week.proofs.Answering.{unless_both}
use Rattle.week.proofs.Ordering.{ordered_perm, ordered_in_order, ordered_same}
use Rattle.judge.specs.Fault.{WellFormed}
use Rattle.judge.proofs.AnyOrder.{in_order_passes}
use Rattle.planner.specs.Choose.{choose_fault, choose_answer}
use Rattle.planner.specs.Holds.{ChooseHolds, choose_numbers}
use Rattle.planner.proofs.Demands.{Alike, choose_at_fault, rearranged_alike}
use Rattle.records.specs.Records.{lent_week, records_after}
use Rattle.records.proofs.Records.{lent_ordered, lent_most, lent_differ, lent_passes, lent_rearranged, records_kept, records_ordered}

module _ (t c : ℕ) (rs : List Batch) where
  -- "The records after it are the same records, none lost or doubled.", after a refusal too
  pub same_records : (size : ℕ) → Perm rs (records_after t c rs size)
  unfolding records_after
  same_records size = unless_both (Perm rs) (choose_fault (lent_week t c rs) size) (λ _. ordered_perm t rs) (perm_refl rs)

  -- "After any refusal, 14 too, they keep their old places."
  pub refused_leaves : (size : ℕ) → ((choose_answer (lent_week t c rs) size).refusal.number ≡ 0 → ⊥) → records_after t c rs size ≡ rs
  refused_leaves = records_kept t c rs

  -- "9 and all desk refusals .. name the place as handed in": what refuses is the first that holds of the list as it was lent
  pub records_at_fault : (size : ℕ) →
      AtFault (ChooseHolds (lent_week t c rs) size) choose_numbers (length rs) 0 (choose_answer (lent_week t c rs) size).refusal
  records_at_fault = choose_at_fault (lent_week t c rs)

  -- whose batches are the records, in their places
  pub lent_places : length rs ≤ max_batches → (i : ℕ) → i ≤ length rs → batch_of (lent_week t c rs) i ≡ at_position no_batch rs i
  lent_places few zero within = refl
  lent_places few (suc i) within = rw (take_all max_batches rs few) (get_or-append rs _ no_batch i (omega arith))

-- "Choosing from them puts them in order where they are": each stands before every later one, and the list that they are then is that which
-- the answer follows, and well formed
pub record PutInOrder (t c : ℕ) (rs after : List Batch) : Type 0 where
  pub order : InOrder t after
  pub list : lent_week t c after ≡ ordered_week (lent_week t c rs)
  pub well_formed : WellFormed (lent_week t c after)

pub planned_orders : (t c : ℕ) (rs : List Batch) (size : ℕ) → (choose_answer (lent_week t c rs) size).refusal.number ≡ 0 →
    PutInOrder t c rs (records_after t c rs size)
planned_orders t c rs size planned =
    let list = lent_passes t c rs size planned in
    let same = lent_ordered t c rs (lent_most t c rs list) in
    rw (records_ordered t c rs size planned)
    record {
      order = ordered_in_order t rs (lent_differ t c rs list);
      list = same;
      well_formed = rw same (in_order_passes (lent_week t c rs) list);
    }

-- "Two accepted lists that are rearrangements of each other get the same plan.", and all else that follows the list in order; where it is a
-- plan, they are left as the same records
pub record LentAlike (t c : ℕ) (rs ss : List Batch) : Type 0 where
  pub lists : Alike (lent_week t c rs) (lent_week t c ss)
  pub leaves : (size : ℕ) → (choose_answer (lent_week t c rs) size).refusal.number ≡ 0 →
      records_after t c rs size ≡ records_after t c ss size

pub rearranged_records : (t c : ℕ) {rs ss : List Batch} → Perm rs ss → WellFormed (lent_week t c rs) → LentAlike t c rs ss
rearranged_records t c {rs} {ss} same list =
    let alike = rearranged_alike (lent_rearranged t c same (lent_most t c rs list)) list in
    record {
      lists = alike;
      leaves = λ size planned.
          records_ordered t c rs size planned
          ∙ ordered_same t (lent_differ t c rs list) same
          ∙ sym (records_ordered t c ss size (rw (alike.plans size) at planned));
    }

-- So choosing once more from the records that a plan leaves gives that plan again, and leaves them so.
pub planned_again : (t c : ℕ) (rs : List Batch) (size : ℕ) → (choose_answer (lent_week t c rs) size).refusal.number ≡ 0 →
    LentAlike t c rs (records_after t c rs size)
planned_again t c rs size planned = rearranged_records t c (same_records t c rs size) (lent_passes t c rs size planned)
