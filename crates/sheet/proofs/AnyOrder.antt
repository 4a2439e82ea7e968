-- Sheets that differ in the order of their later lines alone: if one is read, so is the other, and they hold lists that are rearrangements
-- of each other.
use Prim.Native.Nat.{ℕ, zero, suc, ◌-◌, ◌≤◌, ◌<◌, min}
use native.Mathlib.Omega.{arith}
use mathlib.Core.Path.{◌≡◌, refl, sym, ap, ◌∙◌}
use mathlib.Core.Logic.{◌↔◌}
use mathlib.Core.List.{List, [], ◌∷◌, map, flatten}
use lib.ListN.{length, take, drop, length-append}
use lib.Seq.{take_at, get_or-take, ext_get_or}
use Rattle.std.specs.Prelude.{Some}
use Rattle.std.proofs.lemmas.List.{get_or-map, length-map, take-append-drop}
use Rattle.arrays.specs.Made.{tabulate}
use Rattle.arrays.specs.Each.{All}
use Rattle.arrays.specs.Rearranged.{Perm, none, keep, swap, both}
use Rattle.arrays.proofs.Tabulates.{length_tabulate, tabulate_at}
use Rattle.arrays.proofs.Pairs.{all_index}
use Rattle.arrays.proofs.Rearranges.{perm-length, perm-append, perm_all}
use Rattle.week.specs.Record.{max_batches, no_batch}
use Rattle.week.specs.Written.{batches_of}
use Rattle.week.specs.Ordered.{Rearranged}
use Rattle.judge.proofs.WellFormed.{list_passes}
use Rattle.judge.proofs.AnyOrder.{rearranged_passes}
use Rattle.sheet.specs.declared.frame.Frame.TheVariants as frame
use Rattle.sheet.specs.Hex.{word_at}
use Rattle.sheet.specs.Line.{lines_of, line_at}
use Rattle.sheet.specs.Frame.{frame_of}
use Rattle.sheet.specs.List.{batch_from, week_from, sheet_week}
use Rattle.sheet.specs.Read.{WellWritten, LinesRearranged}
use Rattle.sheet.proofs.LinesWhole.{are_lines}

-- what a function makes of each is rearranged with them
perm_map : {A B : Type 0} (f : A → B) {xs ys : List A} → Perm xs ys → Perm (map f xs) (map f ys)
perm_map f none = none
perm_map f (keep p) = keep (perm_map f p)
perm_map f swap = swap
perm_map f (both p q) = both (perm_map f p) (perm_map f q)

-- put together, rearranged lines are as long
perm_flatten : {xs ys : List (List ℕ)} → Perm xs ys → length (flatten xs) ≡ length (flatten ys)
unfolding flatten
perm_flatten none = refl
perm_flatten (keep p) = simp length-append (omega (arith, perm_flatten p))
perm_flatten swap = simp length-append (omega arith)
perm_flatten (both p q) = perm_flatten p ∙ perm_flatten q

-- the batches of the lines, one by one
tabulate_lines : (lines : List (List ℕ)) → tabulate (λ i. batch_from (line_at lines i)) 0 (length lines) ≡ map batch_from lines
tabulate_lines lines =
    let size = length_tabulate _ 0 (length lines) in
    ext_get_or no_batch _ _ (size ∙ sym (length-map lines batch_from)) λ i l.
    let m : i < length lines = omega (arith, size) in
    tabulate_at _ (length lines) i no_batch m ∙ sym (get_or-map batch_from lines i [] no_batch m)

-- up to sixteen of them are the batches of the list
later_batches : (lines : List (List ℕ)) → length lines - 1 ≤ max_batches → batches_of (week_from lines) ≡ map batch_from (drop 1 lines)
unfolding week_from
later_batches [] most = refl
later_batches (line ∷ lines) most =
    let later : length (line ∷ lines) - 1 ≡ length lines = omega arith in
    let all : min (length lines) max_batches ≡ length lines = omega arith in
    rw (later, all) (take_at _ _ (length lines) (length_tabulate _ 0 (length lines)) ∙ tabulate_lines lines)

-- each later line is a batch, by index and as a list
abbrev IsBatch : List ℕ → Type 0
IsBatch line = frame_of line ≡ Some frame.Batch

later_each : (lines : List (List ℕ)) → ((i : ℕ) → 1 ≤ i → i < length lines → IsBatch (line_at lines i)) ↔ All IsBatch (drop 1 lines)
later_each [] = (λ each. tt, λ all i low below. absurd (omega arith))
later_each (line ∷ lines) = (λ each. (all_index IsBatch [] lines).1 (λ i l. each (suc i) (omega arith) (omega arith)), at)
  where
    at : All IsBatch lines → (i : ℕ) → 1 ≤ i → i < length (line ∷ lines) → IsBatch (line_at (line ∷ lines) i)
    at all zero low below = absurd (omega arith)
    at all (suc i) low below = (all_index IsBatch [] lines).0 all i (omega arith)

-- the lines as a whole are rearranged, and the first is the same
module _ {a b : List ℕ} (same : LinesRearranged a b) where
  all_lines : Perm (lines_of a) (lines_of b)
  all_lines =
      rw (take-append-drop 1 (lines_of a), same.first, take-append-drop 1 (lines_of b)) at (perm-append (take 1 (lines_of a)) same.later)

  first_line : line_at (lines_of a) 0 ≡ line_at (lines_of b) 0
  first_line =
      rw (get_or-take 1 (lines_of a) 0 [] (omega arith), get_or-take 1 (lines_of b) 0 [] (omega arith)) at
      (ap (λ (lines : List (List ℕ)). line_at lines 0) same.first)

  -- of a sheet that is well written: one list, rearranged, and the other sheet is well written too
  module _ (h : WellWritten a) where
    pub list_rearranged : Rearranged (sheet_week a) (sheet_week b)
    unfolding week_from
    list_rearranged =
        let most_a = ((list_passes (sheet_week a)).0 h.list).most in
        let most_b = rw (perm-length all_lines) at most_a in
        record {
          opening = ap (λ (line : List ℕ). word_at line 1) first_line;
          closing = ap (λ (line : List ℕ). word_at line 3) first_line;
          count = ap (λ n. n - 1) (perm-length all_lines);
          batches = rw (later_batches (lines_of a) most_a, later_batches (lines_of b) most_b) (perm_map batch_from same.later);
        }

    pub still_written : WellWritten b
    still_written =
        record {
          short = omega (arith, h.short, ap length (are_lines a).whole, ap length (are_lines b).whole, perm_flatten all_lines);
          some = omega (arith, h.some, perm-length all_lines);
          first = rw first_line at h.first;
          later = (later_each (lines_of b)).1 (perm_all IsBatch same.later ((later_each (lines_of a)).0 h.later));
          list = rearranged_passes list_rearranged h.list;
        }
