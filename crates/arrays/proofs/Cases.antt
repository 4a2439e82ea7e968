-- Cases: what holds of both cases of a test holds of the one that it takes, and an answer that may be none is none or some.
use mathlib.Core.Path.{◌≡◌, refl}
use mathlib.Core.Logic.{◌⊎◌, inl, inr}
use mathlib.Core.Bool.{Bool, true, false, cond}
use mathlib.Core.Option.{Option, none, some}

module _ {A : Type 0} (P : A → Type 0) where
  pub cond_both : (q : Bool) {a b : A} → P a → P b → P (cond q a b)
  cond_both true one other = one
  cond_both false one other = other

  pub cond_cases : (q : Bool) {a b : A} → (q ≡ true → P a) → (q ≡ false → P b) → P (cond q a b)
  cond_cases true one other = one refl
  cond_cases false one other = other refl

pub option_cases : {A : Type 0} (o : Option A) → (o ≡ none) ⊎ ((a : A) × (o ≡ some a))
option_cases none = inl refl
option_cases (some a) = inr (a, refl)
