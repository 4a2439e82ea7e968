-- An answer that refuses or not: what it is where something refuses, what where nothing does, what holds of both, and the refusal that it
-- names.
use native.Mathlib.Decide.{ℕ_discrete}
use mathlib.Core.Path.{◌≡◌, refl, ap, sym, ◌∙◌}
use lib.Dec.{eqb}
use borrow.Author.Tests.{eqb-true, eq-eqb, ne_eqb}
use Rattle.arrays.proofs.Cases.{cond_cases}
use Rattle.week.specs.declared.refusal.Refusal.{Refusal}
use Rattle.week.specs.Refusal.{accepted, unless_refused, answer_by}
use Rattle.week.proofs.First.{Proper, refuses_too}

module _ {A : Type 0} (fault : Refusal) (passed other : A) where
  pub unless_passed : fault.number ≡ 0 → unless_refused fault passed other ≡ passed
  unfolding unless_refused
  unless_passed z = rw (eq-eqb fault.number 0 z)

  pub unless_refused_lem : (fault.number ≡ 0 → ⊥) → unless_refused fault passed other ≡ other
  unfolding unless_refused
  unless_refused_lem n = rw (ne_eqb fault.number 0 n)

-- what holds of both cases holds of the one taken, and so with what is made of both
pub unless_both : {A : Type 0} (P : A → Type 0) (fault : Refusal) {x y : A} → (fault.number ≡ 0 → P x) → P y →
    P (unless_refused fault x y)
unfolding unless_refused
unless_both P fault passed other = cond_cases P (eqb fault.number 0) (λ h. passed (eqb-true fault.number 0 h)) (λ _. other)

pub unless-map : {A B : Type 0} (f : A → B) (fault : Refusal) (x y : A) →
    unless_refused fault (f x) (f y) ≡ f (unless_refused fault x y)
unless-map f fault x y =
    elim (ℕ_discrete fault.number 0) [
      | yes z ↦ unless_passed fault (f x) (f y) z ∙ ap f (sym (unless_passed fault x y z))
      | no n ↦ unless_refused_lem fault (f x) (f y) n ∙ ap f (sym (unless_refused_lem fault x y n))
    ]

-- an operation's answer: where something refuses, it is that refusal, or any that this equals, made an answer
pub record Answers {A : Type 0} (fault : Refusal) (refusing : Refusal → A) (accepting answer : A) : Type 0 where
  pub refused : {r : Refusal} → fault ≡ r → (r.number ≡ 0 → ⊥) → answer ≡ refusing r
  pub passed : fault.number ≡ 0 → answer ≡ accepting

pub answers : {A : Type 0} (fault : Refusal) (refusing : Refusal → A) (accepting : A) →
    Answers fault refusing accepting (answer_by fault refusing accepting)
unfolding answer_by
answers fault refusing accepting =
    record {
      refused = λ e n. unless_refused_lem fault accepting (refusing fault) (refuses_too (sym e) n) ∙ ap refusing e;
      passed = unless_passed fault accepting (refusing fault);
    }

-- it names its fault, if an answer made of a refusal names that, and the answer where nothing refuses names none
pub answers_name : {A : Type 0} {fault : Refusal} {refusing : Refusal → A} {accepting answer : A} →
    Answers fault refusing accepting answer → (refusal_of : A → Refusal) → (fault.number ≡ 0 → refusal_of accepting ≡ accepted) →
    ((r : Refusal) → refusal_of (refusing r) ≡ r) → Proper fault → refusal_of answer ≡ fault
answers_name {fault = fault} h refusal_of none named proper =
    elim (ℕ_discrete fault.number 0) [
      | yes z ↦ ap refusal_of (h.passed z) ∙ none z ∙ sym (proper z)
      | no n ↦ ap refusal_of (h.refused refl n) ∙ named fault
    ]
