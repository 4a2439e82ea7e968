-- Numbers that are a choice: each of them is a byte, which is asked one after the other.
use Prim.Native.Nat.{ℕ, zero, suc, ◌+◌, ◌^◌, ◌≤◌, ◌<◌}
use native.Mathlib.Numerals.{add-one}
use native.Mathlib.Omega.{arith}
use mathlib.Core.Path.{◌≡◌, refl, sym, ◌∙◌}
use mathlib.Core.Bool.{true, false, and-eq-true_iff}
use lib.Dec.{leb}
use mathlib.Core.List.{List, [], ◌∷◌, ◌++◌}
use lib.ListN.{length, get_or, take, drop, drop_of_length-le}
use lib.Seq.{take_all, take-suc, drop-cons}
use borrow.Author.Tests.{leb-true, le-leb, lt-leb}
use Rattle.std.specs.Prelude.{None, Some, Result, Ok, Err}
use Rattle.std.specs.Result.{OkIff, result_ok}
use Rattle.words.specs.declared.numbers.Numbers.{Numbers}
use Rattle.words.specs.Numbers.{max_kept}
use Rattle.command.specs.Record.{choice_of}
use Rattle.command.specs.Numbered.{max_byte, are_bytes, is_choice, given_choice}

-- each of the numbers is a byte; past their end there is 0
byte_at_lem : (xs : List ℕ) → are_bytes xs ≡ true → (i : ℕ) → get_or xs i 0 ≤ max_byte
unfolding are_bytes
byte_at_lem [] all i = omega arith
byte_at_lem (x ∷ xs) all zero = leb-true _ _ ((and-eq-true_iff (leb x max_byte) _).0 all).0
byte_at_lem (x ∷ xs) all (suc i) = byte_at_lem xs ((and-eq-true_iff (leb x max_byte) _).0 all).1 i

-- a number that a byte has room for, and one that it has none for
pub byte_is : {E : Type 0} (r : Result ℕ E) (v x : ℕ) → Some x ≡ result_ok r → OkIff r (v < 2 ^ 8) v → (x ≡ v) × (v ≤ max_byte)
byte_is (Ok y) v x is fits = (cc (is, fits.1), omega (arith, fits.0))
byte_is (Err e) v x is fits = cc

pub byte_over : {E : Type 0} (r : Result ℕ E) (v : ℕ) → None ≡ result_ok r → OkIff r (v < 2 ^ 8) v → max_byte < v
byte_over (Ok y) v is fits = cc
byte_over (Err e) v is fits = omega (arith, fits)

-- the numbers of an index on decide, and those before it are copied
pub record Copied (given : List ℕ) (i : ℕ) (recipes : List ℕ) : Type 0 where
  pub copied : recipes ≡ take i given
  pub bytes : are_bytes (drop i given) ≡ are_bytes given

pub copied_start : (given : List ℕ) → Copied given 0 []
copied_start given = record { copied = refl; bytes = refl }

module _ {given : List ℕ} {i : ℕ} {recipes : List ℕ} (h : Copied given i recipes) where
  module _ (more : i < length given) where
    -- one that is no byte decides
    pub copied_large : max_byte < get_or given i 0 → are_bytes given ≡ false
    unfolding are_bytes
    copied_large large = sym h.bytes ∙ rw (drop-cons given i 0 more, lt-leb _ _ large)

    -- another is copied
    pub copied_step : get_or given i 0 ≤ max_byte → Copied given (i + 1) (recipes ++ get_or given i 0 ∷ [])
    unfolding are_bytes
    copied_step small =
        record {
          copied = rw (h.copied, add-one, take-suc given i 0 more);
          bytes = rw add-one (rw (drop-cons given i 0 more, le-leb _ _ small) at h.bytes);
        }

  pub copied_end : length given ≤ i → (recipes ≡ given) × (are_bytes given ≡ true)
  unfolding are_bytes
  copied_end over = (h.copied ∙ take_all i given over, sym h.bytes ∙ rw (drop_of_length-le given over))

-- what decides of the numbers that are kept decides of the choice
module _ (numbers : Numbers) where
  pub choice_long : max_kept < numbers.count → given_choice numbers ≡ None
  unfolding given_choice is_choice
  choice_long long = rw (lt-leb _ _ long)

  module _ (short : numbers.count ≤ max_kept) where
    pub choice_broken : are_bytes (take numbers.count numbers.values) ≡ false → given_choice numbers ≡ None
    unfolding given_choice is_choice
    choice_broken broken = rw (le-leb _ _ short, broken)

    pub choice_whole : are_bytes (take numbers.count numbers.values) ≡ true →
        given_choice numbers ≡ Some (choice_of (take numbers.count numbers.values))
    unfolding given_choice is_choice
    choice_whole whole = rw (le-leb _ _ short, whole)
