-- Whether a line is digits, ended by a line feed, is told from its last byte and from those before it.
use Prim.Native.Nat.{ℕ, ◌+◌, ◌<◌}
use native.Mathlib.Numerals.{add-one}
use native.Mathlib.Omega.{arith}
use mathlib.Core.Path.{◌≡◌, sym, ap}
use mathlib.Core.Logic.{inl, inr}
use mathlib.Core.Bool.{Bool, true, ◌&&◌, and-false}
use mathlib.Core.List.{List, [], ◌∷◌, ◌++◌}
use lib.ListN.{length, get_or, drop, length-append}
use lib.Seq.{drop-cons}
use lib.Dec.{eqb}
use borrow.Author.Tests.{ne_eqb}
use Rattle.std.proofs.lemmas.Bool.{cases_Bool}
use Rattle.std.specs.List.{list_all}
use Rattle.arrays.specs.Text.{line_feed}
use Rattle.sheet.specs.Hex.{is_digit}
use Rattle.sheet.specs.Line.{hex_line}

-- a digit leaves it to the bytes after it
pub hex_digit_lem : (line : List ℕ) (i : ℕ) → i < length line → is_digit (get_or line i 0) ≡ true →
    hex_line (drop i line) ≡ hex_line (drop (i + 1) line)
hex_digit_lem line i more digit = rw (add-one i, drop-cons line i 0 more, digit)

-- a digit is no line feed
feed_no_digit : (b : ℕ) → is_digit b ≡ true → b ≡ line_feed → ⊥
unfolding is_digit
feed_no_digit b digit e = cc (rw e at digit)

pub hex_line-last : (digits : List ℕ) (last : ℕ) → hex_line (digits ++ (last ∷ [])) ≡ (eqb last line_feed && list_all is_digit digits)
hex_line-last [] last =
    elim (cases_Bool (is_digit last)) [
      | inl digit ↦ rw digit (sym (ap (λ (t : Bool). t && true) (ne_eqb last line_feed (feed_no_digit last digit))))
      | inr other ↦ rw other
    ]
hex_line-last (d ∷ ds) last =
    elim (cases_Bool (is_digit d)) [
      | inl digit ↦ rw (digit, hex_line-last ds last)
      | inr other ↦
          let more = ne_eqb (length (ds ++ (last ∷ []))) 0 (λ z. omega (arith, length-append ds (last ∷ []))) in
          simp (other, more, and-false)
    ]
