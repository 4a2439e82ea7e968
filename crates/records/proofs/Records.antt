-- The list that lent records are, and the records after a call.
use Prim.Native.Nat.{ℕ, ◌≤◌}
use native.Mathlib.Omega.{arith}
use mathlib.Core.Path.{◌≡◌, refl, sym, ap, ◌∙◌}
use mathlib.Core.List.{List}
use lib.ListN.{length}
use lib.Seq.{take_at}
use Rattle.std.proofs.lemmas.List.{take_all}
use Rattle.arrays.specs.Rearranged.{Perm}
use Rattle.arrays.proofs.Rearranges.{perm-length}
use Rattle.week.specs.declared.record.Batch.{Batch}
use Rattle.week.specs.declared.refusal.Fault.{Fault}
use Rattle.week.specs.Record.{max_batches}
use Rattle.week.specs.Order.{ordered}
use Rattle.week.specs.Numbers.{Differ}
use Rattle.week.specs.Written.{batches_of}
use Rattle.week.specs.Ordered.{ordered_week, Rearranged}
use Rattle.week.specs.Fault.{numbers}
use Rattle.week.proofs.First.{number_of_lem, refuses_too}
use Rattle.week.proofs.Faults.{fault_refuses}
use Rattle.week.proofs.Answering.{unless_passed, unless_refused_lem}
use Rattle.week.proofs.Ordering.{ordered-length}
use Rattle.judge.specs.Fault.{WellFormed}
use Rattle.judge.proofs.Fit.{fit_list}
use Rattle.judge.proofs.Sound.{list_most}
use Rattle.planner.specs.Choose.{ChooseAnswer, choose_fault, refused_plan, choose_answer}
use Rattle.planner.proofs.Choosing.{choose_refusal}
use Rattle.planner.proofs.Demands.{choose_plans}
use Rattle.records.specs.Records.{lent_week, records_after}

module _ (t c : ℕ) (rs : List Batch) where
  -- ---- records that a list has places for
  module _ (few : length rs ≤ max_batches) where
    -- they are its batches
    pub lent_batches : batches_of (lent_week t c rs) ≡ rs
    lent_batches = rw (take_all max_batches rs few) (take_at rs _ (length rs) refl)

    -- and put in order, those of the list in order
    pub lent_ordered : lent_week t c (ordered t rs) ≡ ordered_week (lent_week t c rs)
    lent_ordered =
        rw (lent_batches, take_all max_batches (ordered t rs) (omega (arith, ordered-length t rs, few)), ordered-length t rs) refl

  -- a list that is well formed has places for all of them, and their numbers differ
  module _ (list : WellFormed (lent_week t c rs)) where
    pub lent_most : length rs ≤ max_batches
    lent_most = list_most (lent_week t c rs) (sym list)

    pub lent_differ : Differ rs
    lent_differ = rw (lent_batches lent_most) at (fit_list (lent_week t c rs) list).differ

  -- ---- the records after a call
  module _ (size : ℕ) where
    -- where Choose refuses, they keep their places
    pub records_kept : ((choose_answer (lent_week t c rs) size).refusal.number ≡ 0 → ⊥) → records_after t c rs size ≡ rs
    unfolding records_after
    records_kept n = unless_refused_lem _ _ _ (refuses_too (choose_refusal (lent_week t c rs) size) n)

    pub records_failed : (fault : Fault) → refused_plan (numbers fault) ≡ choose_answer (lent_week t c rs) size →
        records_after t c rs size ≡ rs
    unfolding refused_plan
    records_failed fault answer = records_kept (λ z. fault_refuses fault (ap (λ (p : ChooseAnswer). p.refusal.number) answer ∙ z))

    -- where it answers a plan, the list is well formed, and they are left in order
    module _ (planned : (choose_answer (lent_week t c rs) size).refusal.number ≡ 0) where
      pub lent_passes : WellFormed (lent_week t c rs)
      lent_passes = ((choose_plans (lent_week t c rs) size).0 planned).0

      pub records_ordered : records_after t c rs size ≡ ordered t rs
      unfolding records_after
      records_ordered =
          unless_passed (choose_fault (lent_week t c rs) size) _ _ (number_of_lem (sym (choose_refusal (lent_week t c rs) size)) ∙ planned)

-- rearranged records are rearranged lists
pub lent_rearranged : (t c : ℕ) {rs ss : List Batch} → Perm rs ss → length rs ≤ max_batches →
    Rearranged (lent_week t c rs) (lent_week t c ss)
lent_rearranged t c {rs} {ss} same few =
    let size = perm-length same in
    record {
      opening = refl;
      closing = refl;
      count = size;
      batches = rw (lent_batches t c rs few, lent_batches t c ss (omega (arith, size, few))) same;
    }
