-- The list that a loop over the later lines makes: it counts them, and stores the batches of the first sixteen.
use Prim.Native.Nat.{ℕ, suc, ◌+◌, ◌-◌, ◌≤◌, ◌<◌, min}
use native.Mathlib.Omega.{arith}
use mathlib.Core.Bool.{Bool}
use mathlib.Core.Path.{◌≡◌, sym, ap, ◌∙◌}
use mathlib.Core.List.{List, [], ◌∷◌}
use lib.ListN.{length, get_or, set}
use denote.Param.Members.{Mut}
use denote.Ref.{Bor}
use Rattle.std.specs.Fn.{Called}
use Rattle.std.specs.List.{enumerate_from}
use Rattle.std.specs.declared.iter.Enumerate.{Enumerate}
use Rattle.std.specs.Iterator.Adapters.{enumerate_steps}
use Rattle.std.specs.declared.slice.SplitInclusive.{SplitInclusive}
use Rattle.std.proofs.lemmas.Iterator.{YieldsList}
use Rattle.std.proofs.lemmas.Iterator.Consumers.{YieldsList-at, YieldsList-from_enumerate}
use Rattle.std.proofs.lemmas.List.{get_or_default}
use Rattle.std.proofs.lemmas.List.FromFn.{length-enumerate_from, get_or-enumerate_from}
use Rattle.arrays.proofs.Stores.{Padding, padding_step}
use Rattle.week.specs.declared.record.Batch.{Batch}
use Rattle.week.specs.Record.{max_batches, empty_batch}
use Rattle.sheet.specs.Hex.{word_at}
use Rattle.sheet.specs.Line.{lines_of, line_at}
use Rattle.sheet.specs.List.{batch_from, week_from}
use Rattle.sheet.proofs.Lines.{is_feed, line_steps, lines_yielded}

-- the array has the batches of the first k later lines
abbrev pub Stored : List (List ℕ) → ℕ → List Batch → Type 0
Stored lines k = Padding (λ i. batch_from (line_at lines (suc i))) max_batches empty_batch max_batches k

-- the later lines with their places are what the walk gives
pub places_yielded : {F : Type 0} (g : Mut F (Bor ℕ × Unit {0}) Bool) {s : Enumerate (SplitInclusive ℕ F)}
    {u : SplitInclusive ℕ F} → s.count ≡ 0 → s.iter ≡ u →
    ((f : F) (a : Bor ℕ × Unit {0}) (r : Bool) (q : F) → Called g f a r q → (r ≡ is_feed a.0.now) × (q ≡ f)) →
    YieldsList (enumerate_steps (line_steps g)) (λ p. (p.0, p.1.now)) s (enumerate_from 0 (lines_of u.rest.now))
places_yielded g count source key = YieldsList-from_enumerate (YieldsList-at source (lines_yielded g key)) count

module _ {lines later : List (List ℕ)} {first : List ℕ} (next : lines ≡ first ∷ later) where
  -- a turn gives the next place, and its line
  module _ {k place : ℕ} {line : List ℕ}
      (turn : (k < length (enumerate_from 0 later)) × ((place, line) ≡ get_or (enumerate_from 0 later) k (place, line))) where
    pub place_below : suc k < length lines
    place_below = omega (arith, turn.0, length-enumerate_from 0 later, ap length next)

    here : ◌≡◌ {A = ℕ × List ℕ} (place, line) (0 + k, get_or later k line)
    here = turn.1 ∙ get_or-enumerate_from 0 later k (place, line) (omega (arith, turn.0, length-enumerate_from 0 later))

    pub place_next : place ≡ k
    place_next = omega (arith, ap (λ (p : ℕ × List ℕ). p.0) here)

    pub place_line : line_at lines (suc k) ≡ line
    place_line =
        ap (λ (ls : List (List ℕ)). line_at ls (suc k)) next
        ∙ get_or_default later k [] line (omega (arith, place_below, ap length next))
        ∙ sym (ap (λ (p : ℕ × List ℕ). p.1) here)

    -- it is stored where there is place for it ..
    pub stored_next : {batches : List Batch} {b : Batch} → Stored lines (min k max_batches) batches → place < max_batches →
        b ≡ batch_from line → Stored lines (min (k + 1) max_batches) (set batches place b)
    stored_next h low is =
        let before : min k max_batches ≡ place = omega (arith, place_next) in
        let after : place + 1 ≡ min (k + 1) max_batches = omega (arith, place_next) in
        rw (← after)
        (padding_step (rw before at h) low (is ∙ ap batch_from (sym place_line ∙ ap (λ (i : ℕ). line_at lines (suc i)) (sym place_next))))

    -- .. and counted alone where there is none
    pub stored_full : {batches : List Batch} → Stored lines (min k max_batches) batches → max_batches ≤ place →
        Stored lines (min (k + 1) max_batches) batches
    stored_full h full =
        let same : min k max_batches ≡ min (k + 1) max_batches = omega (arith, place_next) in
        rw (← same) h

  -- at the end they are the list's
  pub stored_end : {t c n k : ℕ} {batches : List Batch} → n ≡ k → Stored lines (min k max_batches) batches →
      k ≡ length (enumerate_from 0 later) → t ≡ word_at first 1 → c ≡ word_at first 3 →
      record { opening = t; closing = c; count = n; batches = batches } ≡ week_from lines
  unfolding week_from
  stored_end {k = k} counted h all opens closes =
      let count : k ≡ length lines - 1 = omega (arith, all, length-enumerate_from 0 later, ap length next) in
      rw (counted, opens, closes, h.exact, count, next)
