-- The laws of the batches of another number.
use Prim.Native.Nat.{ℕ, zero, suc, ◌≤◌, ◌<◌}
use native.Mathlib.Omega.{arith}
use mathlib.Core.Path.{◌≡◌, refl, sym, ap, ◌∙◌}
use mathlib.Core.Bool.{Bool, true, false, cond}
use mathlib.Core.List.{List, [], ◌∷◌, ◌++◌}
use lib.ListN.{length, get_or, take, drop}
use lib.Dec.{eqb}
use borrow.Author.Tests.{eq-eqb, ne_eqb}
use Rattle.arrays.specs.Each.{All, Pairs}
use Rattle.arrays.specs.Rearranged.{Perm, none, keep, swap, both}
use Rattle.arrays.proofs.Cases.{cond_cases}
use Rattle.arrays.proofs.Pairs.{all_map, all_index}
use Rattle.arrays.proofs.Rearranges.{perm_refl}
use Rattle.week.specs.declared.record.Batch.{Batch}
use Rattle.week.specs.Order.{ordered}
use Rattle.week.specs.Numbers.{Others, Differ, without}
use Rattle.week.proofs.Ordering.{ordered_perm, ordered_in_order, ordered_only}

module _ (n : ℕ) where
  -- what holds of each holds of those that are left
  pub without_all : (P : Batch → Type 0) (bs : List Batch) → All P bs → All P (without n bs)
  unfolding without
  without_all P [] h = tt
  without_all P (b ∷ bs) h =
      cond_cases (All P) (eqb b.number n) (λ _. without_all P bs h.1) (λ _. (h.0, without_all P bs h.1))

  -- no more are left
  pub without-length : (bs : List Batch) → length (without n bs) ≤ length bs
  unfolding without
  without-length [] = omega arith
  without-length (b ∷ bs) =
      let rest = without-length bs in
      elim (eqb b.number n) as (λ q. length (cond q (without n bs) (b ∷ without n bs)) ≤ suc (length bs))
      [ true ↦ omega arith | false ↦ omega arith ]

  -- and what holds of each and every later one, so they stay in order
  pub without_pairs : (R : Batch → Batch → Type 0) (bs : List Batch) → Pairs R bs → Pairs R (without n bs)
  unfolding without
  without_pairs R [] h = tt
  without_pairs R (b ∷ bs) h =
      cond_cases (Pairs R) (eqb b.number n) (λ _. without_pairs R bs h.1)
      (λ _. (without_all (R b) bs h.0, without_pairs R bs h.1))

  -- of rearrangements, rearrangements are left
  pub without_perm : {bs cs : List Batch} → Perm bs cs → Perm (without n bs) (without n cs)
  unfolding without
  without_perm none = none
  without_perm (keep {x} {xs} {ys} p) =
      let rest = without_perm p in
      elim (eqb x.number n) as (λ q. Perm (cond q (without n xs) (x ∷ without n xs)) (cond q (without n ys) (x ∷ without n ys)))
      [ true ↦ rest | false ↦ keep rest ]
  without_perm (swap {x} {y} {xs}) = swap_two (eqb x.number n) (eqb y.number n)
    where
      swap_two : (p q : Bool) →
          Perm (cond p (cond q (without n xs) (y ∷ without n xs)) (x ∷ cond q (without n xs) (y ∷ without n xs)))
          (cond q (cond p (without n xs) (x ∷ without n xs)) (y ∷ cond p (without n xs) (x ∷ without n xs)))
      swap_two true true = perm_refl (without n xs)
      swap_two true false = perm_refl (y ∷ without n xs)
      swap_two false true = perm_refl (x ∷ without n xs)
      swap_two false false = swap
  without_perm (both p q) = both (without_perm p) (without_perm q)

  -- part by part
  pub without-append : (bs cs : List Batch) → without n (bs ++ cs) ≡ without n bs ++ without n cs
  unfolding without
  without-append [] cs = refl
  without-append (b ∷ bs) cs =
      let rest = without-append bs cs in
      elim (eqb b.number n) as
      (λ q. cond q (without n (bs ++ cs)) (b ∷ without n (bs ++ cs)) ≡ cond q (without n bs) (b ∷ without n bs) ++ without n cs)
      [ true ↦ rest | false ↦ ap (λ (ds : List Batch). b ∷ ds) rest ]

  -- where none has the number, all are left
  pub without_none : (bs : List Batch) → All (λ b. b.number ≡ n → ⊥) bs → without n bs ≡ bs
  unfolding without
  without_none [] h = refl
  without_none (b ∷ bs) h = rw (ne_eqb _ _ h.0) (ap (λ (cs : List Batch). b ∷ cs) (without_none bs h.1))

  -- where the numbers differ, one is gone, and the later ones move up
  pub without_one : (d : Batch) (bs : List Batch) (i : ℕ) → Differ bs → i < length bs → (get_or bs i d).number ≡ n →
      without n bs ≡ take i bs ++ drop (suc i) bs
  unfolding without
  without_one d [] i h l e = absurd (omega arith)
  without_one d (b ∷ bs) zero h l e =
      rw (eq-eqb b.number n e) (without_none bs (all_map (λ c other same. other (e ∙ sym same)) bs h.0))
  without_one d (b ∷ bs) (suc i) h l e =
      let other : b.number ≡ n → ⊥ = λ same. (all_index (Others b) d bs).0 h.0 i (omega arith) (same ∙ sym e) in
      rw (ne_eqb b.number n other) (ap (λ (cs : List Batch). b ∷ cs) (without_one d bs i h.1 (omega arith) e))

  -- ordered and then left out, or left out and then ordered
  pub ordered_without : (t : ℕ) (bs : List Batch) → Differ bs → ordered t (without n bs) ≡ without n (ordered t bs)
  ordered_without t bs d =
      sym
      (ordered_only t (without n bs) (without n (ordered t bs)) (without_pairs Others bs d) (without_perm (ordered_perm t bs))
      (without_pairs _ (ordered t bs) (ordered_in_order t bs d)))
