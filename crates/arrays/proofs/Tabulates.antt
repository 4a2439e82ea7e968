-- Arrays by a function, whole and padded: laws over any elements.
use Prim.Native.Nat.{ℕ, zero, suc, ◌+◌, ◌-◌, ◌≤◌, ◌<◌}
use native.Mathlib.Numerals.{add-one}
use native.Mathlib.Omega.{arith}
use mathlib.Core.Path.{◌≡◌, refl, ap, ◌∙◌}
use mathlib.Core.List.{List, [], ◌∷◌, ◌++◌}
use lib.ListN.{length, get_or, replicate}
use Rattle.arrays.specs.Position.{at_position}
use Rattle.arrays.specs.Made.{tabulate, padded}
use Rattle.arrays.specs.Each.{All}
use Rattle.arrays.proofs.Places.{replicate_each, padded_at}

module _ {A : Type 0} where
  pub length_tabulate : (f : ℕ → A) (a m : ℕ) → length (tabulate f a m) ≡ m
  length_tabulate f a zero = refl
  length_tabulate f a (suc m) = ap suc (length_tabulate f (suc a) m)

  pub tabulate_from : (f : ℕ → A) (a m i : ℕ) (d : A) → i < m → get_or (tabulate f a m) i d ≡ f (a + i)
  tabulate_from f a zero i d l = absurd (omega arith)
  tabulate_from f a (suc m) zero d l = let e : a ≡ a + 0 = omega arith in ap f e
  tabulate_from f a (suc m) (suc i) d l =
      let e : suc a + i ≡ a + suc i = omega arith in
      tabulate_from f (suc a) m i d (omega arith) ∙ ap f e

  pub tabulate_at : (f : ℕ → A) (m i : ℕ) (d : A) → i < m → get_or (tabulate f 0 m) i d ≡ f i
  tabulate_at f m i d l = let e : 0 + i ≡ i = omega arith in tabulate_from f 0 m i d l ∙ ap f e

  tabulate_from_more : (f : ℕ → A) (a m : ℕ) → tabulate f a (suc m) ≡ tabulate f a m ++ (f (a + m) ∷ [])
  tabulate_from_more f a zero = let e : a ≡ a + 0 = omega arith in ap (λ (i : ℕ). f i ∷ []) e
  tabulate_from_more f a (suc m) =
      let e : suc a + m ≡ a + suc m = omega arith in
      ap (λ (xs : List A). f a ∷ xs) (tabulate_from_more f (suc a) m)
      ∙ ap (λ (i : ℕ). tabulate f a (suc m) ++ (f i ∷ [])) e

  -- one more, at the end
  pub tabulate_more : (f : ℕ → A) (m : ℕ) → tabulate f 0 (m + 1) ≡ tabulate f 0 m ++ (f m ∷ [])
  tabulate_more f m =
      let e : 0 + m ≡ m = omega arith in
      ap (tabulate f 0) (add-one m) ∙ tabulate_from_more f 0 m ∙ ap (λ (i : ℕ). tabulate f 0 m ++ (f i ∷ [])) e

  -- a padded array has at position i what it was made of
  pub position_padded : (m : ℕ) (d : A) (f : ℕ → A) (n i : ℕ) → 1 ≤ i → i ≤ n →
      at_position d (padded m d (tabulate (λ k. f (suc k)) 0 n)) i ≡ f i
  position_padded m d f n zero low high = absurd (omega arith)
  position_padded m d f n (suc i) low high =
      padded_at m d (tabulate (λ k. f (suc k)) 0 n) i ∙ tabulate_at (λ k. f (suc k)) n i d (omega arith)

  -- what holds of each entry that a padded array is made of, and past its end, holds at each index
  module _ (P : A → Type 0) (d e : A) (fill : P d) (past : P e) where
    append_each : (f : ℕ → A) → ((i : ℕ) → P (f i)) → (a n m i : ℕ) → P (get_or (tabulate f a n ++ replicate m d) i e)
    append_each f each a zero m i = replicate_each P d e fill past m i
    append_each f each a (suc n) m zero = each a
    append_each f each a (suc n) m (suc i) = append_each f each (suc a) n m i

    pub padded_each : (f : ℕ → A) → ((i : ℕ) → P (f i)) → (m n i : ℕ) → P (get_or (padded m d (tabulate f 0 n)) i e)
    padded_each f each m n = append_each f each 0 n (m - length (tabulate f 0 n))

  -- what holds of each f i
  pub tabulate_all : (P : A → Type 0) (f : ℕ → A) → ((i : ℕ) → P (f i)) → (a m : ℕ) → All P (tabulate f a m)
  tabulate_all P f each a zero = tt
  tabulate_all P f each a (suc m) = (each a, tabulate_all P f each (suc a) m)
