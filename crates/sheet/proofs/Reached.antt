-- How far a loop over some lines has come.
use Prim.Native.Nat.{ℕ, suc, ◌+◌, ◌≤◌, ◌<◌}
use native.Mathlib.Numerals.{add-one}
use native.Mathlib.Omega.{arith}
use mathlib.Core.Path.{◌≡◌, refl, sym, ap, ◌∙◌}
use mathlib.Core.List.{List, [], ◌∷◌}
use lib.ListN.{length, drop, length-drop}
use lib.Seq.{drop-cons}
use Rattle.sheet.specs.Line.{line_at}

-- i lines are behind it, and `rest` is ahead
pub record Reached (lines rest : List (List ℕ)) (i : ℕ) : Type 0 where
  pub counted : i ≤ length lines
  pub ahead : drop i lines ≡ rest

pub reached_start : (lines : List (List ℕ)) → Reached lines lines 0
reached_start lines = record { counted = omega arith; ahead = refl }

-- a line is ahead: it is that of index i ..
module _ {lines ahead rest : List (List ℕ)} {i : ℕ} {line : List ℕ} (h : Reached lines ahead i) (next : ahead ≡ line ∷ rest) where
  pub reached_below : i < length lines
  reached_below = omega (arith, length-drop i lines, ap length (h.ahead ∙ next))

  parts : line_at lines i ∷ drop (suc i) lines ≡ line ∷ rest
  parts = sym (drop-cons lines i [] reached_below) ∙ h.ahead ∙ next

  pub reached_line : line_at lines i ≡ line
  reached_line = cc parts

  -- .. and then the rest
  pub reached_step : Reached lines rest (i + 1)
  reached_step = record { counted = omega (arith, reached_below); ahead = rw add-one (cc parts) }

-- none is ahead
pub reached_end : {lines ahead : List (List ℕ)} {i : ℕ} → Reached lines ahead i → length ahead ≡ 0 → length lines ≡ i
reached_end {lines} {ahead} {i} h over = omega (arith, length-drop i lines, ap length h.ahead, over, h.counted)
