-- A list is well formed exactly if it is faultless: what each refusal's condition is, when it does not hold, both ways.
use Prim.Native.Nat.{ℕ, suc, ◌-◌, ◌≤◌, ◌<◌}
use mathlib.Core.Path.{◌≡◌, refl, sym, ◌∙◌}
use mathlib.Core.Logic.Iff
use mathlib.Core.Logic.{◌↔◌}
use borrow.Author.Tests.{eqb-true, eq-eqb}
use Rattle.arrays.proofs.Each.{none_below}
use Rattle.arrays.proofs.Tests.{lt_fails, le_fails, none_fails, zero_fails, same_fails, or_fails, and_fails}
use Rattle.week.specs.declared.record.Batch.{Batch}
use Rattle.week.specs.Record.{Week, max_minutes, max_batches, max_recipes, batch_at, recipe_at, number_at, span_of}
use Rattle.week.specs.Refusal.{first_of}
use Rattle.judge.specs.BatchFault.{count_fault, due_fault, arrival_fault, cost_fault, worth_fault, own_faults}
use Rattle.judge.specs.Fault.{minutes_faults, week_fault, number_fault, batch_fault, list_fault, WellFormed}
use Rattle.judge.specs.Faultless.{Fair, Faultless}
use Rattle.week.proofs.First.{Proper, place_number, first_of_proper}
use Rattle.week.proofs.Passes.{Passes, proper_passes, if_passes, first_of_passes, append_passes, first_passes, rest_passes}

-- 1 and 2
pub minutes_passes : (t c : ℕ) → Passes (first_of (minutes_faults t c)) ↔ ((t < c) × (c - t ≤ max_minutes))
minutes_passes t c =
    let one = if_passes 1 0 0 refl (le_fails c t) in
    let two = if_passes 2 0 0 refl (lt_fails max_minutes (c - t)) in
    Iff.trans (first_of_passes _) (
      λ (opens, (short, _)). (one.0 opens, two.0 short),
      λ (opens, short). (one.1 opens, (two.1 short, tt)),
    )

-- 1 to 3
pub week_passes : (w : Week) →
    Passes (week_fault w) ↔ ((w.opening < w.closing) × (span_of w ≤ max_minutes) × (w.count ≤ max_batches))
unfolding week_fault
week_passes w =
    let minutes = minutes_passes w.opening w.closing in
    let three = if_passes 3 0 0 refl (lt_fails max_batches w.count) in
    Iff.trans (append_passes (minutes_faults w.opening w.closing) _) (
      λ (early, last). ((minutes.0 early).0, (minutes.0 early).1, three.0 ((first_of_passes _).0 last).0),
      λ (opens, short, most). (minutes.1 (opens, short), (first_of_passes _).1 (three.1 most, tt)),
    )

-- 4 to 8, of a batch
module _ (b : Batch) where
  pub count_passes : Passes (count_fault b) ↔ ((1 ≤ b.count) × (b.count ≤ max_recipes))
  count_passes = if_passes 4 0 0 refl (or_fails _ _ (zero_fails b.count) (lt_fails max_recipes b.count))

  due_passes : Passes (due_fault b) ↔ (b.arrival < b.due)
  due_passes = if_passes 5 0 0 refl (le_fails b.due b.arrival)

  arrival_passes : (c : ℕ) → Passes (arrival_fault c b) ↔ (b.arrival < c)
  arrival_passes c = if_passes 6 0 0 refl (le_fails c b.arrival)

  cost_passes : (k : ℕ) →
      Passes (cost_fault b k) ↔ (((recipe_at b k).cost ≤ (recipe_at b (k - 1)).cost) × (1 ≤ (recipe_at b (k - 1)).cost))
  unfolding cost_fault
  cost_passes k =
      if_passes 7 0 (suc k) refl
      (or_fails _ _ (lt_fails (recipe_at b (k - 1)).cost (recipe_at b k).cost) (zero_fails (recipe_at b (k - 1)).cost))

  worth_passes : (k : ℕ) → Passes (worth_fault b k) ↔ ((recipe_at b k).cost ≡ 0 → (recipe_at b k).worth ≡ 0)
  unfolding worth_fault
  worth_passes k =
      if_passes 8 0 (suc k) refl
      (and_fails _ _ (eqb-true (recipe_at b k).cost 0, eq-eqb (recipe_at b k).cost 0) (none_fails (recipe_at b k).worth))

-- together
pub own_passes : (c : ℕ) (b : Batch) → Passes (first_of (own_faults c b)) ↔ Fair c b
own_passes c b = Iff.trans (first_of_passes _) (
  λ (count, (due, (arrival, (costs, (worths, _))))).
      record {
        some = ((count_passes b).0 count).0;
        few = ((count_passes b).0 count).1;
        due = (due_passes b).0 due;
        arrival = (arrival_passes b c).0 arrival;
        costs = λ k low high. (cost_passes b k).0 ((rest_passes _ _).0 costs k low high);
        worths = λ k l. (worth_passes b k).0 ((first_passes _ _).0 worths k l);
      },
  λ fair.
      let count = (count_passes b).1 (fair.some, fair.few) in
      let costs = (rest_passes _ _).1 (λ k low high. (cost_passes b k).1 (fair.costs k low high)) in
      let worths = (first_passes _ _).1 (λ k l. (worth_passes b k).1 (fair.worths k l)) in
      (count, ((due_passes b).1 fair.due, ((arrival_passes b c).1 fair.arrival, (costs, (worths, tt))))),
)

-- 9, of a batch after n others
pub number_passes : (numbers : ℕ → ℕ) (n : ℕ) (b : Batch) →
    Passes (number_fault numbers n b) ↔ ((1 ≤ b.number) × ((h : ℕ) → h < n → numbers h ≡ b.number → ⊥))
unfolding number_fault
number_passes numbers n b =
    if_passes 9 0 0 refl
    (or_fails _ _ (zero_fails b.number)
    (Iff.trans (none_below _ n) (
      λ each h l. (same_fails (numbers h) b.number).0 (each h l),
      λ each h l. (same_fails (numbers h) b.number).1 (each h l),
    )))

-- what 4 to 9 ask of the batch of index i
record FaultlessAt (w : Week) (i : ℕ) : Type 0 where
  pub fair : Fair w.closing (batch_at w i)
  pub numbered : 1 ≤ number_at w i
  pub differ : (h : ℕ) → h < i → number_at w h ≡ number_at w i → ⊥

batch_passes : (w : Week) (i : ℕ) → Passes (batch_fault w i) ↔ FaultlessAt w i
unfolding batch_fault
batch_passes w i =
    let own = own_passes w.closing (batch_at w i) in
    let number = number_passes (number_at w) i (batch_at w i) in
    Iff.trans (λ z. sym (place_number _ _) ∙ z, λ z. place_number _ _ ∙ z)
    (Iff.trans (append_passes (own_faults w.closing (batch_at w i)) _) (
      λ (first, last).
          let (new, _) = (first_of_passes _).0 last in
          record { fair = own.0 first; numbered = (number.0 new).0; differ = (number.0 new).1 },
      λ h. (own.1 h.fair, (first_of_passes _).1 (number.1 (h.numbered, h.differ), tt)),
    ))

-- all batches together
module _ (w : Week) where
  each_faultless : (w.opening < w.closing) × (span_of w ≤ max_minutes) × (w.count ≤ max_batches) →
      ((i : ℕ) → i < w.count → FaultlessAt w i) → Faultless w
  each_faultless limits each =
      record {
        opens = limits.0;
        short = limits.1;
        most = limits.2;
        fair = λ i l. (each i l).fair;
        numbered = λ i l. (each i l).numbered;
        differ = λ h i before l. (each i l).differ h before;
      }

  faultless_each : Faultless w → (i : ℕ) → i < w.count → FaultlessAt w i
  faultless_each faultless i l =
      record {
        fair = faultless.fair i l;
        numbered = faultless.numbered i l;
        differ = λ h before. faultless.differ h i before l;
      }

  pub list_proper : Proper (list_fault w)
  unfolding list_fault
  list_proper = first_of_proper _

  -- the statement
  pub list_passes : WellFormed w ↔ Faultless w
  unfolding list_fault
  list_passes =
      Iff.trans (proper_passes _ list_proper)
      (Iff.trans (first_of_passes _) (
        λ (week, (batches, _)).
            each_faultless ((week_passes w).0 week) (λ i l. (batch_passes w i).0 ((first_passes (batch_fault w) w.count).0 batches i l)),
        λ faultless.
            let batches = (first_passes (batch_fault w) w.count).1 (λ i l. (batch_passes w i).1 (faultless_each faultless i l)) in
            ((week_passes w).1 (faultless.opens, faultless.short, faultless.most), (batches, tt)),
      ))
