-- Lists that stand last first, and the arrays that hold them in list order: laws over any elements.
use Prim.Native.Nat.{ℕ, zero, suc, ◌+◌, ◌-◌, ◌≤◌, ◌<◌}
use native.Mathlib.Omega.{arith}
use mathlib.Core.Path.{◌≡◌, refl, sym, ap, ap₂, subst, ◌∙◌}
use mathlib.Core.List.{List, [], ◌∷◌, ◌++◌, append_assoc}
use lib.ListN.{length, get_or, take, drop, set, replicate, length-append, length-take, length-replicate, replicate-append-replicate}
use lib.ListN.{get_or-eq_default}
use lib.Seq.{length-take-le, get_or_at, get_or-take, drop_at, set_at, ext_get_or}
use Rattle.arrays.specs.Position.{at_position, backward, forward}
use Rattle.arrays.specs.Made.{padded, placed}

module _ {A : Type 0} where
  -- position i stands at index i - 1
  pub position_index : (d : A) (xs : List A) (i : ℕ) → 1 ≤ i → at_position d xs i ≡ get_or xs (i - 1) d
  position_index d xs zero low = absurd (omega arith)
  position_index d xs (suc i) low = let e : i ≡ suc i - 1 = omega arith in ap (λ (k : ℕ). get_or xs k d) e

  pub length_backward : (d : A) (xs : List A) (i : ℕ) → length (backward d xs i) ≡ i
  length_backward d xs zero = refl
  length_backward d xs (suc i) = ap suc (length_backward d xs i)

  -- the first i of an array are the first i of any longer part of it
  pub backward-take : (d : A) (xs : List A) (m i : ℕ) → i ≤ m → backward d (take m xs) i ≡ backward d xs i
  backward-take d xs m zero h = refl
  backward-take d xs m (suc i) h = ap₂ ◌∷◌ (get_or-take m xs i d h) (backward-take d xs m i (omega arith))

  pub length_forward : (xs : List A) → length (forward xs) ≡ length xs
  length_forward [] = refl
  length_forward (x ∷ xs) = simp length-append (omega (arith, length_forward xs))

  pub length_padded : (m : ℕ) (d : A) (xs : List A) → length xs ≤ m → length (padded m d xs) ≡ m
  length_padded m d xs h = simp (length-append, length-replicate) (omega arith)

  pub length_placed : (m : ℕ) (d : A) (xs : List A) → length xs ≤ m → length (placed m d xs) ≡ m
  length_placed m d xs h = length_padded m d (forward xs) (omega (arith, length_forward xs))

  -- what holds of d, and past the end, holds at each index of an array that is d throughout
  module _ (P : A → Type 0) (d e : A) (fill : P d) (past : P e) where
    pub replicate_each : (n i : ℕ) → P (get_or (replicate n d) i e)
    replicate_each zero i = past
    replicate_each (suc n) zero = fill
    replicate_each (suc n) (suc i) = replicate_each n i

  pub replicate_at : (n : ℕ) (d : A) (i : ℕ) → get_or (replicate n d) i d ≡ d
  replicate_at n d i = replicate_each (λ (a : A). a ≡ d) d d refl refl n i

  pub drop-replicate : (n m : ℕ) (d : A) → n ≤ m → drop n (replicate m d) ≡ replicate (m - n) d
  drop-replicate n m d h =
      let e : n + (m - n) ≡ m = omega arith in
      subst (λ (k : ℕ). drop n (replicate k d) ≡ replicate (m - n) d) e
      (rw (← replicate-append-replicate n (m - n) d) (drop_at (replicate n d) (replicate (m - n) d) n (length-replicate n d)))

  append-replicate_at : (xs : List A) (n : ℕ) (d : A) (i : ℕ) → get_or (xs ++ replicate n d) i d ≡ get_or xs i d
  append-replicate_at [] n d i = replicate_at n d i
  append-replicate_at (x ∷ xs) n d zero = refl
  append-replicate_at (x ∷ xs) n d (suc i) = append-replicate_at xs n d i

  -- the entries of the array are those of the list, and d past it
  pub padded_at : (m : ℕ) (d : A) (xs : List A) (i : ℕ) → get_or (padded m d xs) i d ≡ get_or xs i d
  padded_at m d xs i = append-replicate_at xs (m - length xs) d i

  -- the first of the array are the first of the list, padded
  pub take_padded : (n m : ℕ) (d : A) (xs : List A) → n ≤ m → take n (padded m d xs) ≡ padded n d (take n xs)
  take_padded n m d xs h =
      let few = length-take n xs in
      ext_get_or d (take n (padded m d xs)) (padded n d (take n xs)) (size ∙ sym (length_padded n d (take n xs) (omega arith)))
      (λ i l. at i (omega (arith, size)))
    where
      size : length (take n (padded m d xs)) ≡ n
      size = length-take-le n (padded m d xs) (simp (length-append, length-replicate) (omega arith))

      at : (i : ℕ) → i < n → get_or (take n (padded m d xs)) i d ≡ get_or (padded n d (take n xs)) i d
      at i low =
          get_or-take n (padded m d xs) i d low
          ∙ padded_at m d xs i
          ∙ sym (get_or-take n xs i d low)
          ∙ sym (padded_at n d (take n xs) i)

  pub placed_beyond : (m : ℕ) (d : A) (xs : List A) (i : ℕ) → length xs ≤ i → get_or (placed m d xs) i d ≡ d
  placed_beyond m d xs i h = padded_at m d (forward xs) i ∙ get_or-eq_default (forward xs) d (omega (arith, length_forward xs))

  -- a store in the first place past the list, at n, is one more of it
  pub padded_set : (m : ℕ) (d : A) (xs : List A) (n : ℕ) (a : A) → length xs ≡ n → n < m →
      set (padded m d xs) n a ≡ padded m d (xs ++ (a ∷ []))
  padded_set m d xs n a e more =
      let left : m - length xs ≡ suc (m - length (xs ++ (a ∷ []))) = omega (arith, length-append xs (a ∷ [])) in
      rw (left, set_at xs d (replicate (m - length (xs ++ (a ∷ []))) d) a n e, append_assoc)

  backward_forward : (d : A) (xs ys : List A) → backward d (forward xs ++ ys) (length xs) ≡ xs
  backward_forward d [] ys = refl
  backward_forward d (x ∷ xs) ys =
      ap (λ (zs : List A). backward d zs (suc (length xs))) (append_assoc (forward xs) (x ∷ []) ys)
      ∙ ap₂ ◌∷◌ (get_or_at (forward xs) x ys d (length xs) (length_forward xs)) (backward_forward d xs (x ∷ ys))

  -- the entries of the list, read from its length down, are the list again
  pub backward_placed : (m : ℕ) (d : A) (xs : List A) → backward d (placed m d xs) (length xs) ≡ xs
  backward_placed m d xs = backward_forward d xs (replicate (m - length (forward xs)) d)

  -- by position: d past the list
  pub position_beyond : (m : ℕ) (d : A) (xs : List A) (i : ℕ) → length xs < i → at_position d (padded m d xs) i ≡ d
  position_beyond m d xs zero past = absurd (omega arith)
  position_beyond m d xs (suc i) past = padded_at m d xs i ∙ get_or-eq_default xs d (omega arith)

-- of numbers: none of an array that is a throughout, or past its end, is greater
pub replicate_low : (n a i : ℕ) → get_or (replicate n a) i 0 ≤ a
replicate_low n a i = replicate_each (λ (x : ℕ). x ≤ a) a 0 (omega arith) (omega arith) n i
