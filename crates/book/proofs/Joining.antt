-- Which batch joins some others, and which number leaves them; and that their order does not matter for either.
use Prim.Native.Nat.{ℕ}
use mathlib.Core.Path.{◌≡◌, refl, sym, ap, ap₂, ◌∙◌}
use mathlib.Core.Logic.Iff
use mathlib.Core.Logic.{◌↔◌}
use mathlib.Core.Bool.{Bool, true, ◌||◌, not}
use mathlib.Core.List.{List, [], ◌∷◌, ◌++◌}
use lib.ListN.{length}
use lib.Dec.{leb, eqb}
use borrow.Author.Tests.{not-false}
use Rattle.arrays.specs.Rearranged.{Perm}
use Rattle.arrays.proofs.Tests.{le_fails}
use Rattle.arrays.proofs.Pairs.{all_index}
use Rattle.arrays.proofs.Rearranges.{perm-length}
use Rattle.week.specs.declared.record.Batch.{Batch}
use Rattle.week.specs.declared.refusal.Refusal.{Refusal}
use Rattle.week.specs.Record.{max_batches, no_batch}
use Rattle.week.specs.Refusal.{refused_if, first_of}
use Rattle.week.specs.Order.{insert_in, ordered}
use Rattle.week.specs.Numbers.{Others, Differ, number_in, is_held}
use Rattle.week.proofs.Passes.{Passes, if_passes, first_of_passes, append_passes}
use Rattle.week.proofs.Numbers.{held_perm}
use Rattle.week.proofs.Ordering.{ordered_same, ordered_more}
use Rattle.judge.specs.BatchFault.{own_faults}
use Rattle.judge.specs.Fault.{number_fault}
use Rattle.judge.proofs.WellFormed.{own_passes, number_passes}
use Rattle.book.specs.Fault.{new_faults, join_fault, leave_fault}
use Rattle.book.specs.Joins.{Joins}

pub join_passes : (c : ℕ) (bs : List Batch) (b : Batch) → Passes (join_fault c bs b) ↔ Joins c bs b
unfolding join_fault
join_passes c bs b =
    let full = if_passes 20 0 0 refl (le_fails max_batches (length bs)) in
    let own = own_passes c b in
    let number = number_passes (number_in bs) (length bs) b in
    let others = all_index (λ x. Others x b) no_batch bs in
    let parts = append_passes (own_faults c b) (number_fault (number_in bs) (length bs) b ∷ []) in
    Iff.trans (append_passes (refused_if 20 0 0 (leb max_batches (length bs)) ∷ []) (new_faults c bs b)) (
      λ (first, rest).
          let (fine, last) = parts.0 rest in
          let (some, new) = number.0 ((first_of_passes _).0 last).0 in
          record { room = full.0 ((first_of_passes _).0 first).0; fair = own.0 fine; numbered = some; new = others.1 new },
      λ h. (
        (first_of_passes _).1 (full.1 h.room, tt),
        parts.1 (own.1 h.fair, (first_of_passes _).1 (number.1 (h.numbered, others.0 h.new), tt)),
      ),
    )

-- and to leave: one has the number
pub leave_passes : (bs : List Batch) (number : ℕ) → Passes (leave_fault bs number) ↔ (is_held number bs ≡ true)
unfolding leave_fault
leave_passes bs number = if_passes 21 0 0 refl (not-false (is_held number bs), ap not)

module _ {bs cs : List Batch} (p : Perm bs cs) where
  number_perm : (b : Batch) → number_fault (number_in bs) (length bs) b ≡ number_fault (number_in cs) (length cs) b
  unfolding number_fault is_held
  number_perm b = ap (λ (q : Bool). refused_if 9 0 0 (eqb b.number 0 || q)) (held_perm b.number p)

  pub join_perm : (c : ℕ) (b : Batch) → join_fault c bs b ≡ join_fault c cs b
  unfolding join_fault
  join_perm c b =
      ap₂ (λ (n : ℕ) (number : Refusal). first_of (refused_if 20 0 0 (leb max_batches n) ∷ (own_faults c b ++ (number ∷ []))))
      (perm-length p) (number_perm b)

  pub leave_perm : (number : ℕ) → leave_fault bs number ≡ leave_fault cs number
  unfolding leave_fault
  leave_perm number = ap (λ (q : Bool). refused_if 21 0 0 (not q)) (held_perm number p)

  -- nor for the list in order that one more makes of them
  pub ordered_joined : (t : ℕ) → Differ bs → (b : Batch) → ordered t (bs ++ (b ∷ [])) ≡ ordered t (cs ++ (b ∷ []))
  ordered_joined t differ b = ordered_more t bs b ∙ ap (insert_in t b) (ordered_same t differ p) ∙ sym (ordered_more t cs b)
