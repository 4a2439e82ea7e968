-- Runs that are put into a text one after the other: the bytes that they take, and how far a loop over them has come.
use Prim.Native.Nat.{ℕ, ◌+◌, ◌*◌, ◌≤◌, ◌<◌}
use native.Mathlib.Decide.{dec_lt}
use native.Mathlib.Omega.{arith}
use mathlib.Core.Path.{◌≡◌, refl, sym, ap, ◌∙◌}
use mathlib.Core.List.{List, [], ◌∷◌, ◌++◌, map, append_assoc}
use lib.ListN.{length, get_or, length-append, get_or-append, length-take, take}
use Rattle.std.proofs.lemmas.List.{get_or-append-add, get_or-take}
use Rattle.arrays.specs.Text.{bytes, line_feed, space}
use Rattle.text.specs.Decimal.{decimal}
use Rattle.text.specs.Line.{spaced, rest_of}
use Rattle.text.proofs.Decimals.{decimal_short}
use Rattle.text.proofs.Spacing.{rest_more}
use Rattle.lent.specs.Size.{max_table}
use Rattle.lent.specs.Shown.{run_of, runs_of, run_field, max_shown}
use Rattle.lent.proofs.Runs.{IsChunk, first_chunk}

-- a run takes at most six bytes of text for each of its own
module _ (value count : ℕ) where
  field-length : length (space ∷ run_field (run_of value count)) ≡ length (decimal value) + (2 + length (decimal count))
  unfolding run_field
  field-length =
      omega (arith, length-append (decimal value) (bytes "x" ++ decimal count))

  field_short : value ≤ 255 → 1 ≤ count → count ≤ max_table → length (space ∷ run_field (run_of value count)) ≤ 6 * count
  field_short small some most =
      elim (dec_lt count 10) [
        | yes one ↦ omega (arith, field-length, decimal_short 2 value (omega arith), decimal_short 0 count (omega arith))
        | no more ↦ omega (arith, field-length, decimal_short 2 value (omega arith), decimal_short 4 count (omega arith))
      ]

-- bytes as text
abbrev pub rest : List ℕ → List ℕ
rest bytes = rest_of (map run_field (runs_of bytes))

-- some runs of the whole are put, and the bytes that are left have the others
pub record Showing (whole left text : List ℕ) : Type 0 where
  pub all : text ++ rest left ≡ rest whole
  pub short : length text + 6 * length left ≤ 6 * max_table
  pub small : (i : ℕ) → i < length left → get_or left i 0 ≤ 255

module _ (lent : List ℕ) where
  abbrev start : List ℕ
  start = take max_table lent

  start_short : length start ≤ max_table
  start_short = rw length-take (omega arith)

  pub showing_start : ((i : ℕ) → get_or lent i 0 ≤ 255) → Showing start start []
  showing_start small =
      record {
        all = refl;
        short = omega (arith, start_short);
        small = λ i more. rw (get_or-take max_table lent i 0 (omega (arith, start_short))) (small i);
      }

module _ {whole text : List ℕ} (front left : List ℕ) (h : Showing whole (front ++ left) text) (some : 0 < length front) where
  abbrev field : List ℕ
  field = space ∷ run_field (run_of (get_or front 0 0) (length front))

  field_fits : length field ≤ 6 * length front
  field_fits =
      field_short (get_or front 0 0) (length front) (rw (get_or-append front left 0 0 some) at (h.small 0 (omega (arith, length-append front left))))
      (omega arith) (omega (arith, h.short, length-append front left))

  -- there is room for the next run
  pub showing_room : length text + length field ≤ max_shown
  showing_room = omega (arith, field_fits, h.short, length-append front left)

  pub showing_step : IsChunk left front → Showing whole left (text ++ field)
  showing_step cut =
      record {
        all =
            append_assoc text field (rest left)
            ∙ ap (λ (l : List ℕ). text ++ l)
            (sym (rest_more (run_field (run_of (get_or front 0 0) (length front))) (map run_field (runs_of left))))
            ∙ rw (first_chunk left front some cut) at h.all;
        short = omega (arith, field_fits, h.short, length-append front left, length-append text field);
        small =
            λ i more.
            rw (get_or-append-add front left i 0) at (h.small (length front + i) (omega (arith, length-append front left)));
      }

-- the line feed has room ..
pub showing_last : {whole left text : List ℕ} → Showing whole left text → length text + 1 ≤ max_shown
showing_last h = omega (arith, h.short)

-- .. and is the end where no bytes are left
pub showing_end : {whole text : List ℕ} (left : List ℕ) → length left ≡ 0 → Showing whole left text →
    text ++ (line_feed ∷ []) ≡ rest whole
unfolding runs_of spaced
showing_end [] none h = h.all
showing_end (b ∷ left) none h = absurd (omega arith)
