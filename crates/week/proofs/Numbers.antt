-- Which numbers some batches hold: where none has a number, and that their order does not matter.
use Prim.Native.Nat.{ℕ}
use mathlib.Core.Path.{◌≡◌, refl}
use mathlib.Core.Logic.Iff
use mathlib.Core.Logic.{◌↔◌}
use mathlib.Core.Bool.{Bool, true, false, true≢false}
use mathlib.Core.List.{List, [], ◌∷◌}
use lib.ListN.{length}
use lib.Dec.{eqb}
use Rattle.std.specs.List.{list_any}
use Rattle.arrays.specs.Each.{All}
use Rattle.arrays.specs.Rearranged.{Perm}
use Rattle.arrays.proofs.Each.{none_below}
use Rattle.arrays.proofs.Tests.{same_fails, or_fails}
use Rattle.arrays.proofs.Pairs.{all_index}
use Rattle.arrays.proofs.Rearranges.{perm_sym, perm_all}
use Rattle.week.specs.declared.record.Batch.{Batch}
use Rattle.week.specs.Record.{no_batch}
use Rattle.week.specs.Numbers.{number_in, is_held}

module _ (number : ℕ) where
  -- a number is not held where every batch has another
  pub held_none : (bs : List Batch) → (is_held number bs ≡ false) ↔ All (λ b. b.number ≡ number → ⊥) bs
  unfolding is_held
  held_none bs =
      let by_index = all_index (λ b. b.number ≡ number → ⊥) no_batch bs in
      Iff.trans (none_below _ (length bs)) (
        λ each. by_index.1 (λ i l. (same_fails (number_in bs i) number).0 (each i l)),
        λ all i l. (same_fails (number_in bs i) number).1 (by_index.0 all i l),
      )

  -- tests that fail together are one
  fail_together : (p q : Bool) → (p ≡ false → q ≡ false) → (q ≡ false → p ≡ false) → p ≡ q
  fail_together true true to from = refl
  fail_together true false to from = absurd (true≢false (from refl))
  fail_together false true to from = absurd (true≢false (to refl))
  fail_together false false to from = refl

  -- rearrangements hold the same numbers
  pub held_perm : {bs cs : List Batch} → Perm bs cs → is_held number bs ≡ is_held number cs
  held_perm {bs} {cs} p =
      fail_together _ _ (λ z. (held_none cs).1 (perm_all _ p ((held_none bs).0 z)))
      (λ z. (held_none bs).1 (perm_all _ (perm_sym p) ((held_none cs).0 z)))

  -- a slice's `any` tells it, batch by batch
  any_none : (bs : List Batch) → (list_any (λ b. eqb b.number number) bs ≡ false) ↔ All (λ b. b.number ≡ number → ⊥) bs
  any_none [] = (λ _. tt, λ _. refl)
  any_none (b ∷ bs) = or_fails (eqb b.number number) _ (same_fails b.number number) (any_none bs)

  pub held_any : (bs : List Batch) → list_any (λ b. eqb b.number number) bs ≡ is_held number bs
  held_any bs =
      fail_together _ _ (λ z. (held_none bs).1 ((any_none bs).0 z)) (λ z. (any_none bs).1 ((held_none bs).0 z))
