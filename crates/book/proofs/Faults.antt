-- The book's refusals: which of them decides, and what an accepted call tells of the held list.
use Prim.Native.Nat.{ℕ, ◌≤◌, ◌<◌}
use native.Mathlib.Decide.{ℕ_discrete}
use native.Mathlib.Omega.{arith}
use mathlib.Core.Path.{◌≡◌, refl, sym, ap, ◌∙◌}
use mathlib.Core.Bool.{true, false, not}
use mathlib.Core.List.{List, [], ◌∷◌, ◌++◌}
use lib.ListN.{length}
use borrow.Author.Tests.{le-leb, lt-leb, le-ltb, eq-eqb, ne_eqb}
use Rattle.arrays.specs.Each.{some_below}
use Rattle.week.specs.declared.record.Batch.{Batch}
use Rattle.week.specs.declared.refusal.Fault.{Fault}
use Rattle.week.specs.declared.refusal.Refusal.{Refusal}
use Rattle.week.specs.Record.{Week, max_batches, empty_week}
use Rattle.week.specs.Refusal.{accepted, refused, refused_if, first_of, first, at_place}
use Rattle.week.specs.Fault.{numbers, place_in}
use Rattle.week.specs.Order.{ordered}
use Rattle.week.specs.Numbers.{Differ, number_in, is_held, without}
use Rattle.week.specs.Written.{batches_of, written}
use Rattle.week.specs.Ordered.{ordered_week, Rearranged}
use Rattle.judge.specs.BatchFault.{own_faults}
use Rattle.judge.specs.Fault.{minutes_faults, week_fault, number_fault, batch_faults, batch_fault, list_fault, WellFormed}
use Rattle.book.specs.Fault.{open_fault, new_faults, join_fault, leave_fault, add_fault, withdraw_fault}
use Rattle.week.proofs.First.{Proper, number_of_lem, refuses, refused_if_true, refused_if_false, refused_if_proper}
use Rattle.week.proofs.First.{place_refused, place_number, place_each, first_of_here, first_of_later, first_of_none, first_of_last}
use Rattle.week.proofs.First.{first_of_proper, append_first, append_last, append_accepted, first_proper}
use Rattle.week.proofs.Faults.{fault_refuses}
use Rattle.week.proofs.Passes.{first_of_passes, append_passes}
use Rattle.week.proofs.Ordered.{ordered_batches}
use Rattle.week.proofs.Without.{ordered_without}
use Rattle.judge.proofs.WellFormed.{minutes_passes, list_proper}
use Rattle.judge.proofs.Sound.{sound}
use Rattle.judge.proofs.Fit.{list_counted, fit_list}
use Rattle.judge.proofs.AnyOrder.{in_order_rearranged, in_order_passes}
use Rattle.book.proofs.Joining.{join_perm, leave_perm, ordered_joined}
use Rattle.book.proofs.Named.{new_each}

-- ---- the minutes of a week
-- of at most 16 batches 3 does not hold, so that 1 and 2 decide
minutes_decide : (w : Week) → w.count ≤ max_batches → week_fault w ≡ open_fault w.opening w.closing
unfolding week_fault open_fault
minutes_decide w few =
    rw (refused_if_false 3 0 0 (le-ltb max_batches w.count few)) (append_accepted (minutes_faults w.opening w.closing))

week_proper : (w : Week) → Proper (week_fault w)
unfolding week_fault
week_proper w = first_of_proper _

-- a list that is well formed is of a week that can be opened
pub formed_opens : (w : Week) → WellFormed w → open_fault w.opening w.closing ≡ accepted
unfolding open_fault
formed_opens w list =
    let fine = sound w list in
    first_of_proper _ ((minutes_passes w.opening w.closing).1 (fine.opens, fine.short))

-- a list of no batches can be refused for its minutes alone
pub empty_fault : (t c : ℕ) → list_fault (empty_week t c) ≡ open_fault t c
unfolding list_fault first first_of
empty_fault t c =
    let w = empty_week t c in
    append_accepted (week_fault w ∷ []) ∙ append_last [] (week_fault w) (week_proper w) refl ∙ minutes_decide w (omega arith)

-- ---- a batch by itself
placed_proper : (place : ℕ) (rs : List Refusal) → Proper (at_place place (first_of rs))
placed_proper place rs = rw (place_each place rs) (first_of_proper _)

-- what a list of it has against it, in place 1
pub alone_fault : (t c : ℕ) (b : Batch) → open_fault t c ≡ accepted →
    list_fault (written t c (b ∷ [])) ≡ at_place 1 (first_of (new_faults c [] b))
unfolding list_fault first batch_fault first_of number_fault some_below
alone_fault t c b minutes =
    let w = written t c (b ∷ []) in
    first_of_last (week_fault w) (first (batch_fault w) 0 1) (number_of_lem (minutes_decide w (omega arith) ∙ minutes))
    (first_proper (batch_fault w) 0 1)
    ∙ append_last [] (batch_fault w 0) (placed_proper 1 (batch_faults w 0)) refl

-- so what refuses that list refuses the batch, in no place; and where nothing does, nothing refuses the batch
module _ (t c : ℕ) (b : Batch) (minutes : open_fault t c ≡ accepted) where
  pub out_of_place : (f : Fault) → numbers f ≡ list_fault (written t c (b ∷ [])) → numbers (place_in 0 f) ≡ first_of (new_faults c [] b)
  out_of_place f same =
      let placed : numbers f ≡ at_place 1 (first_of (new_faults c [] b)) = same ∙ alone_fault t c b minutes in
      let alone = first_of (new_faults c [] b) in
      let some : alone.number ≡ 0 → ⊥ = λ z. fault_refuses f (number_of_lem placed ∙ place_number 1 alone ∙ z) in
      let none = new_each (λ (r : Refusal). r.place ≡ 0) refl (λ _ _ _. refl) c [] b in
      ap (λ (r : Refusal). refused r.number 0 r.recipe) (placed ∙ place_refused 1 alone some)
      ∙ ap (λ (p : ℕ). refused alone.number p alone.recipe) (sym none)

  pub alone_passed : accepted ≡ list_fault (written t c (b ∷ [])) → accepted ≡ first_of (new_faults c [] b)
  alone_passed same =
      let passed = number_of_lem (sym (same ∙ alone_fault t c b minutes)) in
      sym (first_of_proper _ (sym (place_number 1 _) ∙ passed))

-- ---- a batch that is new to others
number_proper : (numbers : ℕ → ℕ) (n : ℕ) (b : Batch) → Proper (number_fault numbers n b)
unfolding number_fault
number_proper numbers n b = refused_if_proper 9 0 0 refl _

-- 9, of number 0
number_zero : (b : Batch) → b.number ≡ 0 → (numbers : ℕ → ℕ) (n : ℕ) → number_fault numbers n b ≡ refused 9 0 0
unfolding number_fault
number_zero b e numbers n = refused_if_true 9 0 0 (rw (eq-eqb b.number 0 e))

-- and of another
number_some : (b : Batch) → (b.number ≡ 0 → ⊥) → (bs : List Batch) →
    number_fault (number_in bs) (length bs) b ≡ refused_if 9 0 0 (is_held b.number bs)
unfolding number_fault is_held
number_some b n bs = rw (ne_eqb b.number 0 n)

number_alone : (b : Batch) → (b.number ≡ 0 → ⊥) → number_fault (number_in []) 0 b ≡ accepted
unfolding is_held some_below
number_alone b n = number_some b n [] ∙ refused_if_false 9 0 0 refl

module _ (c : ℕ) (b : Batch) where
  -- where 4 to 8 pass, 9 decides
  number_decides : (first_of (own_faults c b)).number ≡ 0 → (bs : List Batch) →
      first_of (new_faults c bs b) ≡ number_fault (number_in bs) (length bs) b
  number_decides z bs = append_last (own_faults c b) _ (number_proper (number_in bs) (length bs) b) z

  -- what refuses the batch by itself refuses it among others
  pub new_alone : (bs : List Batch) → ((first_of (new_faults c [] b)).number ≡ 0 → ⊥) →
      first_of (new_faults c bs b) ≡ first_of (new_faults c [] b)
  new_alone bs n =
      elim (ℕ_discrete (first_of (own_faults c b)).number 0) [
        | yes z ↦
            elim (ℕ_discrete b.number 0) [
              | yes e ↦
                  number_decides z bs ∙ number_zero b e (number_in bs) (length bs)
                  ∙ sym (number_decides z [] ∙ number_zero b e (number_in []) 0)
              | no other ↦ absurd (n (number_of_lem (number_decides z [] ∙ number_alone b other)))
            ]
        | no m ↦ append_first (own_faults c b) _ m ∙ sym (append_first (own_faults c b) _ m)
      ]

  -- where nothing does, a number that is held decides
  new_held : (bs : List Batch) → (first_of (new_faults c [] b)).number ≡ 0 →
      first_of (new_faults c bs b) ≡ refused_if 9 0 0 (is_held b.number bs)
  new_held bs z =
      let parts = (append_passes (own_faults c b) (number_fault (number_in []) 0 b ∷ [])).0 z in
      let number = (first_of_none _ [] parts.1).0 in
      number_decides parts.0 bs ∙ number_some b (λ e. refuses 9 refl (number_zero b e (number_in []) 0) number) bs

  module _ (bs : List Batch) (fine : first_of (new_faults c [] b) ≡ accepted) where
    pub new_taken : is_held b.number bs ≡ true → first_of (new_faults c bs b) ≡ refused 9 0 0
    new_taken held = new_held bs (number_of_lem fine) ∙ refused_if_true 9 0 0 held

    pub new_free : is_held b.number bs ≡ false → first_of (new_faults c bs b) ≡ accepted
    new_free free = new_held bs (number_of_lem fine) ∙ refused_if_false 9 0 0 free

-- ---- what joins and what leaves
module _ (c : ℕ) (bs : List Batch) (b : Batch) where
  pub join_proper : Proper (join_fault c bs b)
  unfolding join_fault
  join_proper = first_of_proper _

  pub join_full : max_batches ≤ length bs → join_fault c bs b ≡ refused 20 0 0
  unfolding join_fault
  join_full full =
      let twenty = refused_if_true 20 0 0 (le-leb max_batches (length bs) full) in
      first_of_here _ _ (refuses 20 refl twenty) ∙ twenty

  pub join_new : length bs < max_batches → join_fault c bs b ≡ first_of (new_faults c bs b)
  unfolding join_fault
  join_new room = first_of_later _ _ (number_of_lem (refused_if_false 20 0 0 (lt-leb max_batches (length bs) room)))

pub leave_proper : (bs : List Batch) (number : ℕ) → Proper (leave_fault bs number)
unfolding leave_fault
leave_proper bs number = refused_if_proper 21 0 0 refl _

-- ---- a call on a held list: the list decides, or else what joins or leaves; and both pass where the call is accepted
module _ (w : Week) (b : Batch) where
  pub add_list : ((list_fault w).number ≡ 0 → ⊥) → add_fault w b ≡ list_fault w
  unfolding add_fault
  add_list = first_of_here _ _

  pub add_join : WellFormed w → add_fault w b ≡ join_fault w.closing (batches_of w) b
  unfolding add_fault
  add_join list = first_of_last _ _ (number_of_lem list) (join_proper w.closing (batches_of w) b)

  pub add_passes : (add_fault w b).number ≡ 0 → WellFormed w × ((join_fault w.closing (batches_of w) b).number ≡ 0)
  unfolding add_fault
  add_passes z = let both = (first_of_passes _).0 z in (list_proper w both.0, both.1.0)

module _ (w : Week) (number : ℕ) where
  pub withdraw_list : ((list_fault w).number ≡ 0 → ⊥) → withdraw_fault w number ≡ list_fault w
  unfolding withdraw_fault
  withdraw_list = first_of_here _ _

  pub withdraw_leave : WellFormed w → withdraw_fault w number ≡ leave_fault (batches_of w) number
  unfolding withdraw_fault
  withdraw_leave list = first_of_last _ _ (number_of_lem list) (leave_proper (batches_of w) number)

  pub withdraw_passes : (withdraw_fault w number).number ≡ 0 → WellFormed w × ((leave_fault (batches_of w) number).number ≡ 0)
  unfolding withdraw_fault
  withdraw_passes z = let both = (first_of_passes _).0 z in (list_proper w both.0, both.1.0)

-- ---- the list in order, on which a call works once the held one is accepted
module _ (w : Week) {v : Week} (is : v ≡ ordered_week w) (list : WellFormed w) where
  pub ordered_formed : WellFormed v
  ordered_formed = rw is (in_order_passes w list)

  same : Rearranged w v
  same = rw is (in_order_rearranged w list)

  differ : Differ (batches_of w)
  differ = (fit_list w list).differ

  -- 20 where it is full, else what the new batch is refused for; and the list with it
  module _ (b : Batch) where
    pub add_full : max_batches ≤ v.count → add_fault w b ≡ refused 20 0 0
    add_full full = add_join w b list ∙ join_full w.closing (batches_of w) b (omega (arith, list_counted w list, same.count))

    pub add_new : v.count < max_batches → add_fault w b ≡ first_of (new_faults v.closing (batches_of v) b)
    add_new room =
        let free : length (batches_of v) < max_batches = omega (arith, list_counted v ordered_formed) in
        add_join w b list ∙ join_perm same.batches w.closing b ∙ rw same.closing (join_new v.closing (batches_of v) b free)

    pub add_written : {after : Week} → after ≡ written v.opening v.closing (ordered v.opening (batches_of v ++ (b ∷ []))) →
        after ≡ written w.opening w.closing (ordered w.opening (batches_of w ++ (b ∷ [])))
    add_written e = rw (same.opening, same.closing, ordered_joined same.batches v.opening differ b) e

  -- 21 where no batch has the number; and the list without it
  module _ (number : ℕ) where
    pub withdraw_gone : is_held number (batches_of v) ≡ false → withdraw_fault w number ≡ refused 21 0 0
    unfolding leave_fault
    withdraw_gone gone = withdraw_leave w number list ∙ leave_perm same.batches number ∙ refused_if_true 21 0 0 (ap not gone)

    pub withdraw_held : is_held number (batches_of v) ≡ true → withdraw_fault w number ≡ accepted
    unfolding leave_fault
    withdraw_held held = withdraw_leave w number list ∙ leave_perm same.batches number ∙ refused_if_false 21 0 0 (ap not held)

    pub withdraw_written : {after : Week} → after ≡ written v.opening v.closing (without number (batches_of v)) →
        after ≡ written w.opening w.closing (ordered w.opening (without number (batches_of w)))
    withdraw_written e =
        let order : batches_of v ≡ ordered w.opening (batches_of w) = rw is (ordered_batches w (list_counted w list)) in
        rw (ordered_without number w.opening (batches_of w) differ, ← order, same.opening, same.closing) e

-- ---- what decides of a batch that is new, and of a call that joins or leaves
pub ruleset new_decides = (new_alone, new_taken, new_free, fault_refuses)

pub ruleset add_decides = (add_list, add_full, add_new, add_written, ordered_formed, fault_refuses)

pub ruleset withdraw_decides = (withdraw_list, withdraw_gone, withdraw_held, withdraw_written, fault_refuses)
