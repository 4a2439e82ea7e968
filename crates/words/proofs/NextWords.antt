-- Where the next word of a line starts and ends.
use Prim.Native.Nat.{ℕ, ◌<◌}
use native.Mathlib.Decide.{ℕ_discrete}
use native.Mathlib.Numerals.{one-add}
use native.Mathlib.Omega.{arith}
use mathlib.Core.Path.{◌≡◌, refl, sym, ap, ◌∙◌}
use mathlib.Core.Bool.{not}
use mathlib.Core.List.{List, [], ◌∷◌, ◌++◌}
use lib.ListN.{length, take, drop, replicate, take-append-drop, drop_of_length-le}
use lib.Dec.{eqb}
use borrow.Author.Tests.{eq-eqb, ne_eqb}
use Rattle.std.specs.Prelude.{Option, None, Some, position}
use Rattle.std.specs.Option.{unwrap_or}
use Rattle.std.proofs.lemmas.List.Folds.{length-prefix_len}
use Rattle.std.specs.List.{position_or_len}
use Rattle.arrays.specs.Text.{space}
use Rattle.words.specs.Word.{words_of, parts_of, some_bytes, Unbroken, IsWord, StandsFirst}
use Rattle.words.proofs.Places.{position_else, some_at, none_at}
use Rattle.words.proofs.Words.{words_space, Cut, cut_end, cut_space, word_first}

-- how many spaces stand first, and how many bytes stand before the first space
abbrev spaces : List ℕ → ℕ
spaces line = position_or_len (λ b. not (eqb b space)) line

abbrev size : List ℕ → ℕ
size line = position_or_len (λ b. eqb b space) line

-- spaces stand before the first byte that is none
spaces_before : (line : List ℕ) → line ≡ replicate (spaces line) space ++ drop (spaces line) line
spaces_before [] = refl
spaces_before (b ∷ bs) =
    elim (ℕ_discrete b space) [
      | yes e ↦ rw (eq-eqb b space e, one-add) (ap (λ (c : ℕ). c ∷ bs) e ∙ ap (λ (l : List ℕ). space ∷ l) (spaces_before bs))
      | no n ↦ rw (ne_eqb b space n) refl
    ]

-- they are passed over, up to such a byte
spaces_over : (line : List ℕ) → words_of line ≡ words_of (drop (spaces line) line)
spaces_over [] = refl
spaces_over (b ∷ bs) =
    elim (ℕ_discrete b space) [
      | yes e ↦ words_space b bs e ∙ rw (eq-eqb b space e, one-add) (spaces_over bs)
      | no n ↦ rw (ne_eqb b space n) refl
    ]

pub none_starts : (line : List ℕ) → None ≡ position (λ b. not (eqb b space)) line → words_of line ≡ []
unfolding words_of parts_of some_bytes
none_starts line is = spaces_over line ∙ rw (drop_of_length-le line (none_at (λ b. not (eqb b space)) line is))

begins : (line : List ℕ) → spaces line < length line → 0 < size (drop (spaces line) line)
begins [] some = absurd (omega arith)
begins (b ∷ bs) some =
    elim (ℕ_discrete b space) [
      | yes e ↦
          let more : spaces bs < length bs = omega (arith, rw (eq-eqb b space e, one-add) at some) in
          rw (eq-eqb b space e, one-add) (begins bs more)
      | no n ↦ rw (ne_eqb b space n, ne_eqb b space n) (omega arith)
    ]

-- a word goes on up to a space
whole : (line : List ℕ) → Unbroken (take (size line) line)
whole [] = tt
whole (b ∷ bs) =
    elim (ℕ_discrete b space) [
      | yes e ↦ rw (eq-eqb b space e) tt
      | no n ↦ rw (ne_eqb b space n, one-add) (n, whole bs)
    ]

cut : (line : List ℕ) → Cut (drop (size line) line)
cut [] = cut_end
cut (b ∷ bs) =
    elim (ℕ_discrete b space) [
      | yes e ↦ rw (eq-eqb b space e) (cut_space b bs e)
      | no n ↦ rw (ne_eqb b space n, one-add) (cut bs)
    ]

-- so the word that stands there is the first one
module _ (line : List ℕ) (start : ℕ) (is : Some start ≡ position (λ b. not (eqb b space)) line) where
  first_is : IsWord (take (size (drop start line)) (drop start line))
  first_is =
      let at = some_at (λ b. not (eqb b space)) line start is in
      let more : spaces line < length line = omega (arith, at.0, at.1) in
      let some : 0 < size (drop start line) = rw at.0 (begins line more) in
      let long = length-prefix_len (λ b. not (eqb b space)) (drop start line) in
      record { some = omega (arith, long); whole = whole (drop start line) }

  first_words : let rest = drop start line in words_of line ≡ take (size rest) rest ∷ words_of (drop (size rest) rest)
  first_words =
      let rest = drop start line in
      spaces_over line
      ∙ ap (λ (k : ℕ). words_of (drop k line)) (sym (some_at (λ b. not (eqb b space)) line start is).0)
      ∙ ap words_of (sym (take-append-drop (size rest) rest))
      ∙ word_first (take (size rest) rest) (drop (size rest) rest) first_is (cut rest)

  first_stands : let rest = drop start line in StandsFirst line (take (size rest) rest) (drop (size rest) rest)
  first_stands =
      let rest = drop start line in
      record {
        is = first_is;
        spaces = start;
        parts = rw (take-append-drop (size rest) rest, (some_at (λ b. not (eqb b space)) line start is).0) (spaces_before line);
      }

  -- as the code cuts it
  pub first_cut : {rest : List ℕ} {end : Option ℕ} → rest ≡ drop start line → end ≡ position (λ b. eqb b space) rest →
      let n = unwrap_or end (length rest) in
      (words_of line ≡ take n rest ∷ words_of (drop n rest)) × StandsFirst line (take n rest) (drop n rest)
  first_cut {rest} {end} cut ends =
      let size : unwrap_or end (length rest) ≡ size rest = rw ends (position_else (λ b. eqb b space) rest) in
      rw size (rw cut (first_words, first_stands))
