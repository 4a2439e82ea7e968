-- The first place at which a test passes.
use Prim.Native.Nat.{ℕ, ◌≤◌, ◌<◌}
use native.Mathlib.Decide.{dec_lt}
use native.Mathlib.Omega.{arith}
use mathlib.Core.Path.{◌≡◌, refl, sym}
use mathlib.Core.Bool.{Bool, true, false, cond, not}
use mathlib.Core.List.{List}
use lib.ListN.{length}
use lib.Dec.{ltb}
use borrow.Author.Tests.{ltb-true, ltb-false, lt-ltb, le-ltb}
use Rattle.std.specs.Prelude.{None, Some, position}
use Rattle.std.specs.Option.{unwrap_or}
use Rattle.std.specs.List.{position_or_len}
use Rattle.std.proofs.lemmas.Option.{cond_some}
use Rattle.std.proofs.lemmas.List.Sums.{prefix_len-le-length}

-- an answer of a test that is none
pub cond_none : (test : Bool) (n : ℕ) → None ≡ cond test (Some n) None → test ≡ false
cond_none true n e = cc
cond_none false n e = refl

module _ (p : ℕ → Bool) (xs : List ℕ) where
  -- where there is none, the length stands for it
  pub position_else : unwrap_or (position p xs) (length xs) ≡ position_or_len p xs
  position_else =
      elim (dec_lt (position_or_len p xs) (length xs)) [
        | yes some ↦ rw (lt-ltb _ _ some)
        | no none ↦
            let past : length xs ≤ position_or_len p xs = omega arith in
            rw (le-ltb _ _ past) (omega (arith, prefix_len-le-length (λ x. not (p x)) xs))
      ]

  pub some_at : (i : ℕ) → Some i ≡ position p xs → (i ≡ position_or_len p xs) × (i < length xs)
  some_at i is =
      let first = cond_some (ltb (position_or_len p xs) (length xs)) (position_or_len p xs) i (sym is) in
      (sym first.1, omega (arith, ltb-true _ _ first.0, first.1))

  pub none_at : None ≡ position p xs → length xs ≤ position_or_len p xs
  none_at is = ltb-false _ _ (cond_none (ltb (position_or_len p xs) (length xs)) (position_or_len p xs) is)
