-- What it is that a refusal, or the first of several, does not refuse: both ways.
use Prim.Native.Nat.{ℕ, zero, suc, ◌-◌, ◌≤◌, ◌<◌}
use native.Mathlib.Omega.{arith}
use mathlib.Core.Path.{◌≡◌, refl, ◌∙◌}
use mathlib.Core.Logic.Iff
use mathlib.Core.Logic.{◌↔◌}
use mathlib.Core.Bool.{Bool, false}
use mathlib.Core.List.{List, [], ◌∷◌, ◌++◌}
use lib.Dec.{ltb, eqb}
use borrow.Author.Tests.{lt-ltb}
use Rattle.arrays.specs.Each.{All}
use Rattle.arrays.proofs.Tests.{lt_fails}
use Rattle.week.specs.declared.refusal.Refusal.{Refusal}
use Rattle.week.specs.Refusal.{accepted, refused, refused_if, first_of, first, short_fault}
use Rattle.week.proofs.First.{Proper, number_of_lem, refused_if_none, refused_if_true, refused_if_false, refused_if_proper}
use Rattle.week.proofs.First.{first_of_none, first_of_later, first_none, first_up, none_first}

-- nothing is refused
abbrev pub Passes : Refusal → Type 0
Passes r = r.number ≡ 0

-- a refusal that names nothing where its number is 0
pub proper_passes : (r : Refusal) → Proper r → (r ≡ accepted) ↔ Passes r
proper_passes r proper = (number_of_lem, proper)

-- of a condition
pub if_passes : (number place recipe : ℕ) → eqb number 0 ≡ false → {holds : Bool} {P : Type 0} → (holds ≡ false) ↔ P →
    Passes (refused_if number place recipe holds) ↔ P
if_passes number place recipe some {holds} e = (
  λ h. e.0 (refused_if_none number place recipe some holds h),
  λ p. number_of_lem (refused_if_false number place recipe (e.1 p)),
)

-- of a list
pub first_of_passes : (rs : List Refusal) → Passes (first_of rs) ↔ All Passes rs
unfolding first_of
first_of_passes [] = (λ _. tt, λ _. refl)
first_of_passes (r ∷ rs) = (
  λ h. let both = first_of_none r rs h in (both.0, (first_of_passes rs).0 both.1),
  λ h. number_of_lem (first_of_later r rs h.0) ∙ (first_of_passes rs).1 h.1,
)

-- an order in two parts
pub append_passes : (xs ys : List Refusal) → Passes (first_of (xs ++ ys)) ↔ (Passes (first_of xs) × Passes (first_of ys))
append_passes [] ys = (λ h. ((first_of_passes []).1 tt, h), λ h. h.1)
append_passes (x ∷ xs) ys = (
  λ h.
      let both = first_of_none x (xs ++ ys) h in
      let parts = (append_passes xs ys).0 both.1 in
      (number_of_lem (first_of_later x xs both.0) ∙ parts.0, parts.1),
  λ h.
      let both = first_of_none x xs h.0 in
      number_of_lem (first_of_later x (xs ++ ys) both.0) ∙ (append_passes xs ys).1 (both.1, h.1),
)

module _ (f : ℕ → Refusal) where
  -- of f 0, f 1, ..
  pub first_passes : (n : ℕ) → Passes (first f 0 n) ↔ ((i : ℕ) → i < n → Passes (f i))
  first_passes n = (first_none f n, λ each. number_of_lem (none_first f n each))

  -- from the second on
  pub rest_passes : (n : ℕ) → Passes (first f 1 (n - 1)) ↔ ((k : ℕ) → 1 ≤ k → k < n → Passes (f k))
  rest_passes n = (to, λ each. number_of_lem (first_up f 0 (n - 1) ∙ none_first _ (n - 1) (λ i l. each (suc i) (omega arith) (omega arith))))
    where
      to : Passes (first f 1 (n - 1)) → (k : ℕ) → 1 ≤ k → k < n → Passes (f k)
      to h zero low high = absurd (omega arith)
      to h (suc k) low high = first_none (λ k. f (suc k)) (n - 1) (rw (first_up f) at h) k (omega arith)

-- of a lent slice
pub short_refuses : (number : ℕ) {needed size : ℕ} → size < needed → short_fault number needed size ≡ refused number 0 0
unfolding short_fault
short_refuses number l = refused_if_true number 0 0 (lt-ltb _ _ l)

pub short_proper : (number needed size : ℕ) → eqb number 0 ≡ false → Proper (short_fault number needed size)
unfolding short_fault
short_proper number needed size some = refused_if_proper number 0 0 some (ltb size needed)

-- it is as long as is needed
pub short_passes : (number needed size : ℕ) → eqb number 0 ≡ false → (short_fault number needed size ≡ accepted) ↔ (needed ≤ size)
unfolding short_fault
short_passes number needed size some =
    Iff.trans (proper_passes _ (short_proper number needed size some)) (if_passes number 0 0 some (lt_fails size needed))
