-- An error always refuses: its number is not 0. And what asks for several faults, one after the other.
use Prim.Native.Nat.{ℕ}
use native.Mathlib.Omega.{arith}
use mathlib.Core.Path.{◌≡◌, refl, sym, ◌∙◌}
use mathlib.Core.Bool.{Bool, true, false}
use lib.Dec.{eqb}
use mathlib.Core.List.{List, [], ◌∷◌}
use Rattle.std.proofs.Common.{Result, Ok, Err}
use Rattle.std.proofs.lemmas.Bool.Decides.{nat_tests}
use Rattle.week.specs.declared.refusal.Reason.{Reason}
use Rattle.week.specs.declared.refusal.Fault.{Fault}
use Rattle.week.specs.declared.refusal.Refusal.{Refusal}
use Rattle.week.specs.Refusal.{accepted, refused, refused_if, first_of}
use Rattle.week.specs.Fault.{number_of, numbers, refusal_of}
use Rattle.week.proofs.First.{Proper, number_of_lem, refuses, refused_if_true, refused_if_false, refuses_too, first_of_here, first_of_later, first_of_one}

number_above_0 : (r : Reason) → number_of r ≡ 0 → ⊥
number_above_0 r e = grind arith

-- and so does what it is answered as
pub fault_refuses : (f : Fault) → (numbers f).number ≡ 0 → ⊥
fault_refuses f = number_above_0 f.reason

-- ---- the first of some conditions, asked in turn
module _ (r : Refusal) (rs : List Refusal) where
  -- the fault of one is handed on
  pub fault_handed : (f : Fault) → numbers f ≡ r → first_of (r ∷ rs) ≡ numbers f
  fault_handed f is = first_of_here r rs (refuses_too is (fault_refuses f)) ∙ sym is

  -- where it has none, those after it decide
  pub fault_passed : accepted ≡ r → first_of (r ∷ rs) ≡ first_of rs
  fault_passed is = first_of_later r rs (number_of_lem (sym is))

-- the same of a test
module _ (number place recipe : ℕ) {holds : Bool} (rs : List Refusal) where
  pub test_holds : eqb number 0 ≡ false → holds ≡ true →
      first_of (refused_if number place recipe holds ∷ rs) ≡ refused number place recipe
  test_holds some is =
      let here = refused_if_true number place recipe is in
      first_of_here _ rs (refuses number some here) ∙ here

  pub test_fails : holds ≡ false → first_of (refused_if number place recipe holds ∷ rs) ≡ first_of rs
  test_fails is = first_of_later _ rs (number_of_lem (refused_if_false number place recipe is))

pub none_asked : first_of [] ≡ accepted
unfolding first_of
none_asked = refl

-- the last one decides
pub fault_last : {A : Type 0} (result : Result A Fault) (r : Refusal) → refusal_of result ≡ r → first_of (r ∷ []) ≡ r
fault_last {A = A} result r is = first_of_one r (proper result is)
  where
    proper : (result : Result A Fault) → refusal_of result ≡ r → Proper r
    proper (Ok x) is z = sym is
    proper (Err f) is z = absurd (refuses_too is (fault_refuses f) z)

pub ruleset in_turn = (fault_handed, fault_passed, fault_last, test_holds, test_fails, none_asked, nat_tests)
