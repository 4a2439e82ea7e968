-- What a loop puts for each of some entries, one after the other, is what the definitions have for each index.
use Rattle.std.proofs.Common.{ℕ, zero, suc, arith, ◌+◌, ◌≤◌, ◌≡◌, List, ◌++◌, length, get_or, take, drop, drop-cons, refl, ap, min}
use mathlib.Core.List.{flatten}
use Rattle.std.specs.List.{flat_map}
use Rattle.std.proofs.lemmas.List.{take_all, take_min}
use Rattle.arrays.specs.Made.{tabulate}

module _ {A : Type 0} (f : A → List ℕ) (d : A) (xs : List A) where
  abbrev part : ℕ → List ℕ
  part k = f (get_or xs k d)

  parts_from : (a n : ℕ) → a + n ≤ length xs → flat_map f (take n (drop a xs)) ≡ flatten (tabulate part a n)
  unfolding flatten
  parts_from a zero h = refl
  parts_from a (suc n) h =
      rw (drop-cons xs a d (omega arith)) (ap (λ (l : List ℕ). part a ++ l) (parts_from (suc a) n (omega arith)))

  -- after the last of the first m, which are m or, where there are fewer, all n
  pub all_parts : (m n : ℕ) → n ≡ min m (length xs) → {items : List A} → items ≡ take m xs → (i : ℕ) → length items ≤ i →
      flat_map f (take i items) ≡ flatten (tabulate part 0 n)
  all_parts m n few {items} are i over =
      rw (take_all i items over, are, ← take_min m xs, ← few) (parts_from 0 n (omega arith))
