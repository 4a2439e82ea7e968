-- What opening, joining, leaving and planning refuse: by which numbers, and in no place.
use Prim.Native.Nat.{ℕ, suc}
use mathlib.Core.Path.{◌≡◌, refl}
use mathlib.Core.Bool.{true}
use mathlib.Core.List.{List, [], ◌∷◌}
use mathlib.Core.Option.{Option, none, some}
use Rattle.week.specs.declared.record.Batch.{Batch}
use Rattle.week.specs.Record.{Week}
use Rattle.week.specs.declared.refusal.Refusal.{Refusal}
use Rattle.week.specs.Refusal.{accepted, refused, first_of, short_fault}
use Rattle.week.specs.RefusalOrder.{one_of}
use Rattle.week.proofs.First.{number_of_lem, first_of_later}
use Rattle.week.proofs.Each.{if_each, or_each, first_of_each, first_each}
use Rattle.judge.specs.BatchFault.{cost_fault, worth_fault}
use Rattle.judge.specs.Fault.{minutes_faults, number_fault, list_fault, WellFormed}
use Rattle.planner.specs.Choose.{table_fault, plan_fault, week_best, choose_fault}
use Rattle.book.specs.Fault.{open_fault, new_faults, join_fault, leave_fault}

-- the numbers of a batch that is new to others
abbrev pub new_numbers : List ℕ
new_numbers = 4 ∷ 5 ∷ 6 ∷ 7 ∷ 8 ∷ 9 ∷ []

-- what holds where nothing is refused, and of each refusal that a call can give, holds of what it gives
module _ (P : Refusal → Type 0) (fine : P accepted) where
  pub open_each : P (refused 1 0 0) → P (refused 2 0 0) → (t c : ℕ) → P (open_fault t c)
  unfolding open_fault
  open_each closed long t c = first_of_each P fine (minutes_faults t c) (if_each P fine 1 0 0 closed _, (if_each P fine 2 0 0 long _, tt))

  module _ (new : (number recipe : ℕ) → one_of new_numbers number ≡ true → P (refused number 0 recipe))
      (c : ℕ) (bs : List Batch) (b : Batch) where
    pub new_each : P (first_of (new_faults c bs b))
    unfolding cost_fault worth_fault number_fault
    new_each =
        let costs = first_each P fine (cost_fault b) (λ k. if_each P fine 7 0 (suc k) (new 7 (suc k) refl) _) 1 _ in
        let worths = first_each P fine (worth_fault b) (λ k. if_each P fine 8 0 (suc k) (new 8 (suc k) refl) _) 0 _ in
        let number = if_each P fine 9 0 0 (new 9 0 refl) _ in
        let due = if_each P fine 5 0 0 (new 5 0 refl) _ in
        let arrival = if_each P fine 6 0 0 (new 6 0 refl) _ in
        first_of_each P fine (new_faults c bs b) (if_each P fine 4 0 0 (new 4 0 refl) _, (due, (arrival, (costs, (worths, (number, tt))))))

    pub join_each : P (refused 20 0 0) → P (join_fault c bs b)
    unfolding join_fault first_of
    join_each full = or_each P fine _ _ (if_each P fine 20 0 0 full _) new_each

  pub leave_each : P (refused 21 0 0) → (bs : List Batch) (number : ℕ) → P (leave_fault bs number)
  unfolding leave_fault
  leave_each it bs number = if_each P fine 21 0 0 it _

  plan_each : P (refused 14 0 0) → (o : Option (List ℕ)) → P (plan_fault o)
  plan_each it none = it
  plan_each it (some ks) = fine

  pub choose_each : P (refused 11 0 0) → P (refused 14 0 0) → (w : Week) → WellFormed w → (size : ℕ) → P (choose_fault w size)
  unfolding choose_fault table_fault short_fault
  choose_each short absent w list size =
      rw (first_of_later (list_fault w) (table_fault w size ∷ plan_fault (week_best w) ∷ []) (number_of_lem list))
      (first_of_each P fine _ (if_each P fine 11 0 0 short _, (plan_each absent (week_best w), tt)))
