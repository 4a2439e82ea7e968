-- The walk over the batches of a list: what holds before each batch, and what decides there.
use Prim.Native.Nat.{ℕ, suc, ◌+◌, ◌-◌, ◌≤◌, ◌<◌}
use native.Mathlib.Nat.{sub-zero}
use native.Mathlib.Numerals.{add-one}
use native.Mathlib.Omega.{arith}
use mathlib.Core.Path.{◌≡◌, sym, ap, ◌∙◌}
use mathlib.Core.Bool.{Bool, ◌||◌}
use mathlib.Core.List.{List, [], ◌∷◌}
use lib.ListN.{length, get_or, take}
use lib.Seq.{get_or-take}
use lib.Dec.{eqb}
use Rattle.arrays.proofs.Each.{below_same}
use Rattle.week.specs.declared.record.Batch.{Batch}
use Rattle.week.specs.declared.refusal.Refusal.{Refusal}
use Rattle.week.specs.Record.{Week, no_batch, batch_at, number_at}
use Rattle.week.specs.Numbers.{number_in}
use Rattle.week.specs.Refusal.{accepted, refused, refused_if, first_of, first, at_place}
use Rattle.judge.specs.BatchFault.{before_costs, costs_fault, worths_fault}
use Rattle.judge.specs.Fault.{number_fault, later_faults, batch_faults, batch_fault}
use Rattle.week.proofs.First.{number_of_lem, refuses_too, place_refused, place_number, first_of_here, first_of_later, append_first}
use Rattle.week.proofs.First.{append_rest, search_found, search_on, search_over}

-- before the batch of index i: the batches from there on decide
pub record Walk (w : Week) (i : ℕ) : Type 0 where
  pub within : i ≤ w.count
  pub rest : first (batch_fault w) i (w.count - i) ≡ first (batch_fault w) 0 w.count

pub walk_start : (w : Week) → Walk w 0
walk_start w = record { within = omega arith; rest = rw sub-zero }

-- which part of a batch's order decides
module _ (w : Week) (i : ℕ) where
  abbrev early : Refusal
  early = first_of (before_costs w.closing (batch_at w i))

  pub faults_before : {x : Refusal} → x ≡ early → (x.number ≡ 0 → ⊥) → x ≡ first_of (batch_faults w i)
  faults_before e n = e ∙ sym (append_first (before_costs w.closing (batch_at w i)) _ (refuses_too e n))

  pub faults_costs : early.number ≡ 0 → {x : Refusal} → x ≡ costs_fault (batch_at w i) → (x.number ≡ 0 → ⊥) →
      x ≡ first_of (batch_faults w i)
  faults_costs z e n =
      e ∙ sym (append_rest (before_costs w.closing (batch_at w i)) _ z ∙ first_of_here _ _ (refuses_too e n))

-- those that stand earlier are the first i of the list
module _ (w : Week) (i : ℕ) {earlier : List Batch} (first_i : earlier ≡ take i w.batches) (size : length earlier ≡ i) where
  entry : (k : ℕ) → k < i → get_or earlier k no_batch ≡ batch_at w k
  entry k l = ap (λ (bs : List Batch). get_or bs k no_batch) first_i ∙ get_or-take i w.batches k no_batch l

  same_numbers : number_fault (number_in earlier) (length earlier) (batch_at w i) ≡ number_fault (number_at w) i (batch_at w i)
  unfolding number_fault
  same_numbers =
      ap (λ (n : ℕ). number_fault (number_in earlier) n (batch_at w i)) size
      ∙ ap (λ (q : Bool). refused_if 9 0 0 (eqb (number_at w i) 0 || q))
      (below_same _ _ i (λ k l. ap (λ (b : Batch). eqb b.number (number_at w i)) (entry k l)))

  -- 4 to 7 pass: 8 and 9 decide
  pub faults_later : (early w i).number ≡ 0 → (costs_fault (batch_at w i)).number ≡ 0 →
      {x : Refusal} → x ≡ first_of (later_faults earlier (batch_at w i)) → x ≡ first_of (batch_faults w i)
  faults_later passed costs e =
      e
      ∙ ap (λ (number : Refusal). first_of (worths_fault (batch_at w i) ∷ number ∷ [])) same_numbers
      ∙ sym (append_rest (before_costs w.closing (batch_at w i)) _ passed ∙ first_of_later _ _ costs)

module _ {w : Week} {i : ℕ} (h : Walk w i) where
  module _ (more : i < w.count) where
    -- x refuses the batch: in its place it is the answer
    pub walk_refused : {x : Refusal} → x ≡ first_of (batch_faults w i) → (x.number ≡ 0 → ⊥) → {r : Refusal} →
        r ≡ refused x.number (i + 1) x.recipe → r ≡ first (batch_fault w) 0 w.count
    unfolding batch_fault
    walk_refused {x} is n {r} e =
        search_found _ _ _ h.rest more
        (e ∙ rw (add-one i) (sym (place_refused (suc i) x n)) ∙ ap (at_place (suc i)) is)
        (λ z. n (sym (number_of_lem e) ∙ z))

    -- the batch passes
    pub walk_on : (first_of (batch_faults w i)).number ≡ 0 → Walk w (i + 1)
    unfolding batch_fault
    walk_on z = record { within = omega arith; rest = search_on _ _ _ h.rest more (place_number _ _ ∙ z) }

  pub walk_over : w.count ≤ i → accepted ≡ first (batch_fault w) 0 w.count
  walk_over over = search_over _ _ _ h.rest over
