-- A line that a piece extends: the first line feed decides.
use Prim.Native.Nat.{ℕ, suc, ◌+◌, ◌-◌, ◌≤◌, ◌<◌, min}
use native.Mathlib.Decide.{ℕ_discrete}
use native.Mathlib.Numerals.{one-add}
use native.Mathlib.Omega.{arith}
use mathlib.Core.Path.{◌≡◌, refl, sym, ap, ◌∙◌}
use mathlib.Core.Bool.{true, false}
use mathlib.Core.List.{List, [], ◌∷◌}
use lib.ListN.{length, take, drop, length-take}
use lib.Seq.{take_all}
use lib.Dec.{eqb}
use borrow.Author.Tests.{eq-eqb, ne_eqb}
use Rattle.std.specs.Prelude.{None, Some, position}
use Rattle.std.specs.List.{position_or_len}
use Rattle.std.proofs.lemmas.List.{take_rest, drop_min}
use Rattle.arrays.specs.Text.{line_feed}
use Rattle.words.specs.declared.line.Line.{Line}
use Rattle.words.specs.Line.{with_bytes, before_feed, has_feed, extended_by}
use Rattle.words.proofs.Places.{some_at, none_at}

-- how many bytes stand before the first line feed
abbrev size : List ℕ → ℕ
size bytes = position_or_len (λ b. eqb b line_feed) bytes

before_is : (bytes : List ℕ) → before_feed bytes ≡ take (size bytes) bytes
unfolding before_feed
before_is [] = refl
before_is (b ∷ bs) =
    elim (ℕ_discrete b line_feed) [
      | yes e ↦ rw (eq-eqb b line_feed e)
      | no n ↦ rw (ne_eqb b line_feed n, one-add) (ap (λ (l : List ℕ). b ∷ l) (before_is bs))
    ]

has_one : (bytes : List ℕ) → size bytes < length bytes → has_feed bytes ≡ true
unfolding has_feed
has_one [] some = absurd (omega arith)
has_one (b ∷ bs) some =
    elim (ℕ_discrete b line_feed) [
      | yes e ↦ rw (eq-eqb b line_feed e)
      | no n ↦
          let more : size bs < length bs = omega (arith, rw (ne_eqb b line_feed n) at some) in
          rw (ne_eqb b line_feed n) (has_one bs more)
    ]

has_none : (bytes : List ℕ) → length bytes ≤ size bytes → has_feed bytes ≡ false
unfolding has_feed
has_none [] none = refl
has_none (b ∷ bs) none =
    elim (ℕ_discrete b line_feed) [
      | yes e ↦ absurd (omega (arith, rw (eq-eqb b line_feed e) at none))
      | no n ↦
          let more : length bs ≤ size bs = omega (arith, rw (ne_eqb b line_feed n) at none) in
          rw (ne_eqb b line_feed n) (has_none bs more)
    ]

-- what is left of a piece, as the code cuts it
pub rest_of : (piece : List ℕ) (from : ℕ) →
    let at = min from (length piece) in take (length piece - at) (drop at piece) ≡ drop from piece
rest_of piece from = take_rest piece (min from (length piece)) ∙ drop_min from piece

module _ (line : Line) (piece : List ℕ) (from : ℕ) where
  pub extended_first : (len : ℕ) → Some len ≡ position (λ b. eqb b line_feed) (drop from piece) →
      extended_by line piece from
      ≡ record { line = with_bytes line (take len (drop from piece)); next = from + len + 1; ended = true }
  unfolding extended_by
  extended_first len is =
      let rest = drop from piece in
      let at = some_at (λ b. eqb b line_feed) rest len is in
      let before : before_feed rest ≡ take len rest = before_is rest ∙ ap (λ (k : ℕ). take k rest) (sym at.0) in
      let next : suc (from + length (take len rest)) ≡ from + len + 1 = omega (arith, at.1, length-take len rest) in
      rw (has_one rest (omega (arith, at.0, at.1)), before, next)

  pub extended_all : None ≡ position (λ b. eqb b line_feed) (drop from piece) →
      extended_by line piece from
      ≡ record { line = with_bytes line (drop from piece); next = from + length (drop from piece); ended = false }
  unfolding extended_by
  extended_all is =
      let rest = drop from piece in
      let none = none_at (λ b. eqb b line_feed) rest is in
      rw (has_none rest none, before_is rest, take_all (size rest) rest none)
