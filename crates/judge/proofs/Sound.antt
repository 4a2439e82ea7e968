-- What is known of a list, and of a choice, that is not refused.
use Prim.Native.Nat.{ℕ, suc, ◌<◌, ◌≤◌}
use mathlib.Core.Path.{◌≡◌, refl, sym, ap}
use mathlib.Core.Logic.Iff
use mathlib.Core.Logic.{◌↔◌}
use mathlib.Core.Bool.{not}
use mathlib.Core.List.{List}
use lib.ListN.{length, get_or}
use borrow.Author.Tests.{eqb-true, eq-eqb, not-false}
use Rattle.arrays.specs.Each.{OneOfEach}
use Rattle.arrays.proofs.Tests.{lt_fails, zero_fails, or_fails}
use Rattle.week.specs.Record.{Week, max_minutes, max_batches, max_recipes, batch_at, span_of}
use Rattle.week.specs.Ordered.{ordered_week}
use Rattle.week.specs.Refusal.{accepted, first_of}
use Rattle.judge.specs.Fault.{week_fault, list_fault, name_fault, choice_fault, handed_faults, WellFormed, WellChosen}
use Rattle.week.proofs.First.{Proper, number_of_lem, first_of_proper}
use Rattle.week.proofs.Passes.{Passes, proper_passes, if_passes, first_of_passes, first_passes}
use Rattle.judge.proofs.WellFormed.{week_passes, list_proper, list_passes}
use Rattle.judge.proofs.AnyOrder.{in_order_passes}

-- of a list, what the scheduling core asks
pub record Sound (w : Week) : Type 0 where
  pub opens : w.opening < w.closing
  pub short : span_of w ≤ max_minutes
  pub most : w.count ≤ max_batches
  pub some : (i : ℕ) → i < w.count → 1 ≤ (batch_at w i).count
  pub few : (i : ℕ) → i < w.count → (batch_at w i).count ≤ max_recipes

-- a list that passes is so in order
pub sound : (w : Week) → WellFormed w → Sound (ordered_week w)
sound w list =
    let faultless = (list_passes (ordered_week w)).0 (in_order_passes w list) in
    record {
      opens = faultless.opens;
      short = faultless.short;
      most = faultless.most;
      some = λ i l. (faultless.fair i l).some;
      few = λ i l. (faultless.fair i l).few;
    }

-- and its count, from 1 to 3 alone, and from all that refuses it
pub week_most : (w : Week) → accepted ≡ week_fault w → w.count ≤ max_batches
week_most w passed = ((week_passes w).0 (number_of_lem (sym passed))).2

pub list_most : (w : Week) → accepted ≡ list_fault w → w.count ≤ max_batches
list_most w passed = (sound w (sym passed)).most

-- of a choice: it names for each batch one of its recipes
pub record Named (w : Week) (choice : List ℕ) : Type 0 where
  pub whole : length choice ≡ w.count
  pub each : OneOfEach w.count (λ i. (batch_at w i).count) choice

-- 13 passes at the batch of index i
name_passes : (w : Week) (choice : List ℕ) (i : ℕ) →
    Passes (name_fault w choice i) ↔ ((1 ≤ get_or choice i 0) × (get_or choice i 0 ≤ (batch_at w i).count))
unfolding name_fault
name_passes w choice i =
    if_passes 13 (suc i) 0 refl (or_fails _ _ (zero_fails (get_or choice i 0)) (lt_fails (batch_at w i).count (get_or choice i 0)))

pub choice_proper : (w : Week) (choice : List ℕ) → Proper (choice_fault w choice)
unfolding choice_fault
choice_proper w choice = first_of_proper _

named_passes : (w : Week) (choice : List ℕ) → (choice_fault w choice ≡ accepted) ↔ Named w choice
unfolding choice_fault
named_passes w choice =
    let size = if_passes 13 0 0 refl (λ e. eqb-true (length choice) w.count (not-false _ e), λ e. ap not (eq-eqb _ _ e)) in
    Iff.trans (proper_passes _ (choice_proper w choice))
    (Iff.trans (first_of_passes _) (
      λ (whole, (names, _)).
          record {
            whole = size.0 whole;
            each = λ i l. (name_passes w choice i).0 ((first_passes _ _).0 names i l);
          },
      λ h. (size.1 h.whole, ((first_passes _ _).1 (λ i l. (name_passes w choice i).1 (h.each i l)), tt)),
    ))

-- of a choice that is handed in, over the list in order
pub choice_passes : (w : Week) (choice : List ℕ) → WellChosen w choice ↔ Named (ordered_week w) choice
choice_passes w = named_passes (ordered_week w)

-- the two together
pub handed_passes : (w : Week) (choice : List ℕ) → Passes (first_of (handed_faults w choice)) ↔ (WellFormed w × WellChosen w choice)
handed_passes w choice = Iff.trans (first_of_passes _) (
  λ (list, (names, _)). (list_proper w list, choice_proper (ordered_week w) choice names),
  λ (list, names). (number_of_lem list, (number_of_lem names, tt)),
)
