-- What a refusal names: of one condition, and of conditions that go on from others.
use Prim.Native.Nat.{ℕ, ◌≤◌}
use mathlib.Core.Path.{◌≡◌, ap, ◌∙◌}
use mathlib.Core.Logic.{inl, inr, ⊎_elim}
use mathlib.Core.Bool.{Bool, true, false, ◌||◌, false≢true}
use mathlib.Core.List.{List, [], ◌∷◌, ◌++◌}
use lib.Dec.{eqb}
use Rattle.arrays.proofs.Tests.{either_holds, or_true}
use Rattle.week.specs.declared.refusal.Refusal.{Refusal}
use Rattle.week.specs.Refusal.{refused}
use Rattle.week.specs.RefusalOrder.{one_of, least_place, greatest_place, of_recipe, Naming, FirstToHold, AtFault, ◌when◌}

pub when_naming : (numbers : List ℕ) (n lines number place recipe : ℕ) {P : Type 0} →
    one_of numbers number ≡ true → least_place number ≤ place → place ≤ greatest_place n lines number →
    (one_of of_recipe number ≡ false → recipe ≡ 0) →
    (r : Refusal) → (refused number place recipe when P) r → Naming numbers n lines r
when_naming numbers n lines number place recipe one least greatest none r h =
    rw h.0 record { number = one; least = least; greatest = greatest; recipe = none }

one_before : (more numbers : List ℕ) (number : ℕ) → one_of numbers number ≡ true → one_of (more ++ numbers) number ≡ true
one_before [] numbers number one = one
one_before (m ∷ more) numbers number one =
    ap (λ (b : Bool). eqb number m || b) (one_before more numbers number one) ∙ or_true (eqb number m)

one_after : (numbers more : List ℕ) (number : ℕ) → one_of numbers number ≡ true → one_of (numbers ++ more) number ≡ true
one_after [] more number one = absurd (false≢true one)
one_after (m ∷ numbers) more number one =
    (either_holds (eqb number m) (one_of (numbers ++ more) number) (λ e. e, λ e. e) (λ e. e, λ e. e)).1
    (⊎_elim inl (λ h. inr (one_after numbers more number h))
    ((either_holds (eqb number m) (one_of numbers number) (λ e. e, λ e. e) (λ e. e, λ e. e)).0 one))

module _ {n lines : ℕ} {r : Refusal} where
  -- an operation that asks more, before and after
  pub naming_before : (more numbers : List ℕ) → Naming numbers n lines r → Naming (more ++ numbers) n lines r
  naming_before more numbers h =
      record { number = one_before more numbers _ h.number; least = h.least; greatest = h.greatest; recipe = h.recipe }

  pub naming_after : (numbers more : List ℕ) → Naming numbers n lines r → Naming (numbers ++ more) n lines r
  naming_after numbers more h =
      record { number = one_after numbers more _ h.number; least = h.least; greatest = h.greatest; recipe = h.recipe }

-- a refusal that is the first to hold, where what holds names what it should
pub at_fault : {Holds : Refusal → Type 0} {numbers : List ℕ} {n lines : ℕ} {r : Refusal} → FirstToHold Holds r →
    ((s : Refusal) → Holds s → Naming numbers n lines s) → AtFault Holds numbers n lines r
at_fault {r = r} first names = record { first = first; names = λ some. names r (first.holds some) }
