use Prim.Native.Nat.{ℕ, ◌≤◌, ◌<◌, ◌^◌}
use native.Mathlib.Omega.{arith}
use mathlib.Core.Bool.{Bool, true, false}
use mathlib.Core.List.{List}
use mathlib.Core.Path.{◌≡◌, sym, ap, ◌∙◌}
use lib.ListN.{length}
use lib.Dec.{eqb}
use borrow.Author.Tests.{eqb-true, eqb-false}
use Rattle.std.specs.Prelude.{Result, Ok, Err, Some}
use Rattle.std.specs.Result.{OkIff, result_ok}
use Rattle.text.specs.Decimal.{value_after}
use Rattle.words.specs.Number.{max_digits, are_digits, number_of}
use Rattle.words.proofs.Spelling.{
  none_empty,
  none_long,
  none_other,
  none_great,
  number_value,
  digit_other,
  spelling_step,
  spelling_other,
  spelling_digits,
  spelling_value,
}
use Rattle.words.proofs.number.number_of.Goals.{
  then-is_empty-via-then-is_empty,
  then-is_empty-via-else-is_empty+then-word-gt-MAX_DIGITS,
}
use Rattle.words.proofs.number.number_of.Goals as goal

-- a word that is not empty has a byte
some : (word : List ℕ) {test : Bool} → test ≡ eqb (length word) 0 → test ≡ false → 1 ≤ length word
some word is fails = omega (arith, eqb-false (length word) 0 (sym is ∙ fails))

-- digits that are read are a number if its type has room for their value
read : {E : Type 0} (word : List ℕ) (value : ℕ) (r : Result ℕ E) → 1 ≤ length word → length word ≤ max_digits → are_digits word ≡ true →
    value_after 0 word ≡ value → OkIff r (value < 2 ^ 16) value → result_ok r ≡ number_of word
read word value (Ok x) some few digits is fits =
    ap Some (fits.1 ∙ sym is) ∙ sym (number_value word some few digits (omega (arith, fits.0)))
read word value (Err e) some few digits is fits = sym (none_great word some few digits (omega (arith, fits)))

pub returns-then-is_empty : goal.returns-then-is_empty
returns-then-is_empty c =
    sym
    (elim c.then-is_empty.branch [
      | then-is_empty-via-then-is_empty w ↦ none_empty _ (eqb-true _ _ (sym c.is_empty.ensures ∙ w.if-is_empty.true))
      | then-is_empty-via-else-is_empty+then-word-gt-MAX_DIGITS w ↦ none_long _ w.if-word-gt-MAX_DIGITS.true
    ])

pub returns-then-not-is_ascii_digit : goal.returns-then-not-is_ascii_digit
returns-then-not-is_ascii_digit c =
    let has : 1 ≤ length c.args.word.now = some _ c.is_empty.ensures c.if-is_empty.false in
    let no_digit = digit_other _ c.if-not-is_ascii_digit.ensures.cases in
    sym (none_other _ has c.if-word-gt-MAX_DIGITS.false (spelling_other c.loop-b.invariant c.loop-b-test.true no_digit))

pub loop-b-preserved : goal.loop-b-preserved
loop-b-preserved c =
    let digit = c.if-not-is_ascii_digit.ensures.cases in
    rw c.from.ensures (spelling_step c.loop-b.invariant c.loop-b-test.true digit.0 digit.1)

pub returns : goal.returns
returns c =
    let h = c.loop-b.invariant in
    let has : 1 ≤ length c.args.word.now = some _ c.is_empty.ensures c.if-is_empty.false in
    c.ok.ensures.value
    ∙ read c.args.word.now c.loop-b.value _ has c.if-word-gt-MAX_DIGITS.false (spelling_digits h c.loop-b-test.false)
    (spelling_value h c.loop-b-test.false) c.try_from.ensures
