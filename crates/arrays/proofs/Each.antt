-- A test at one of the first n indices: where it holds, where it does not, and that it asks no other index.
use Prim.Native.Nat.{ℕ, zero, suc, ◌<◌}
use native.Mathlib.Decide.{ℕ_discrete}
use native.Mathlib.Omega.{arith}
use mathlib.Core.Path.{◌≡◌, refl, sym, ap, ap₂, ◌∙◌}
use mathlib.Core.Logic.{◌↔◌, ⊎_elim}
use mathlib.Core.Bool.{Bool, true, false, ◌||◌, false≢true}
use Rattle.arrays.specs.Each.{some_below}
use Rattle.arrays.proofs.Tests.{either_holds, or_fails, or_true}

module _ (p : ℕ → Bool) where
  pub none_below : (n : ℕ) → (some_below p n ≡ false) ↔ ((i : ℕ) → i < n → p i ≡ false)
  unfolding some_below
  none_below zero = (λ h i l. absurd (omega arith), λ each. refl)
  none_below (suc n) = (
    λ h i l.
        let both = (or_fails (some_below p n) (p n) (λ e. e, λ e. e) (λ e. e, λ e. e)).0 h in
        elim (ℕ_discrete i n) [ yes e ↦ ap p e ∙ both.1 | no other ↦ (none_below n).0 both.0 i (omega arith) ],
    λ each. ap₂ ◌||◌ ((none_below n).1 (λ i l. each i (omega arith))) (each n (omega arith)),
  )

  -- where it holds of some, it holds at an index
  pub below_some : (n : ℕ) → some_below p n ≡ true → (i : ℕ) × (i < n) × (p i ≡ true)
  unfolding some_below
  below_some zero h = absurd (false≢true h)
  below_some (suc n) h =
      ⊎_elim (λ before. let at = below_some n before in (at.0, omega (arith, at.1), at.2)) (λ here. (n, omega arith, here))
      ((either_holds (some_below p n) (p n) (λ e. e, λ e. e) (λ e. e, λ e. e)).0 h)

  pub some_below_lem : (n i : ℕ) → i < n → p i ≡ true → some_below p n ≡ true
  unfolding some_below
  some_below_lem zero i l h = absurd (omega arith)
  some_below_lem (suc n) i l h =
      elim (ℕ_discrete i n) [
        | yes e ↦ ap (λ (q : Bool). some_below p n || q) (ap p (sym e) ∙ h) ∙ or_true (some_below p n)
        | no other ↦ ap (λ (q : Bool). q || p n) (some_below_lem n i (omega arith) h)
      ]

pub below_same : (p q : ℕ → Bool) (n : ℕ) → ((i : ℕ) → i < n → p i ≡ q i) → some_below p n ≡ some_below q n
unfolding some_below
below_same p q zero same = refl
below_same p q (suc n) same = ap₂ ◌||◌ (below_same p q n (λ i l. same i (omega arith))) (same n (omega arith))
