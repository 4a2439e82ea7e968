-- A list that can be written is read back from its sheet.
use Prim.Native.Nat.{ℕ, zero, suc, ◌+◌, ◌-◌, ◌*◌, ◌≤◌, ◌<◌, min}
use native.Mathlib.Omega.{arith}
use mathlib.Core.Path.{◌≡◌, refl, ap, ◌∙◌}
use mathlib.Core.List.{List, [], ◌∷◌, flatten}
use lib.ListN.{length, replicate, length-append, get_or-append}
use Rattle.arrays.specs.Each.{All}
use Rattle.arrays.specs.Made.{tabulate}
use Rattle.arrays.specs.Text.{line_feed}
use Rattle.arrays.proofs.Tabulates.{length_tabulate, tabulate_at, tabulate_all}
use Rattle.week.specs.declared.record.Batch.{Batch}
use Rattle.week.specs.Record.{max_batches, max_recipes, empty_batch, no_batch, batch_at}
use Rattle.sheet.specs.Line.{line_at}
use Rattle.sheet.specs.Frame.{batch_length, recipe_length, frame_of}
use Rattle.sheet.specs.Fault.{max_bytes}
use Rattle.sheet.specs.List.{batch_from, week_from}
use Rattle.sheet.proofs.OneLine.{OneLine, lines_flatten}
use Rattle.sheet.proofs.Placed.{WeekThenBatches, lines_pass}
use Rattle.draft.specs.Record.{Draft}
use Rattle.draft.specs.Sheet.{week_frame, batch_frame, batch_in, sheet_fault, Writable, batch_frames, sheet_frames, sheet_lines}
use Rattle.draft.proofs.Framed.{writable, lines_written}
use Rattle.readback.specs.ReadBack.{SizedBatch, Sized, SameList, ReadBack}
use Rattle.readback.proofs.HexBytes.{hex_bytes, bytes_unbroken, value_back}
use Rattle.readback.proofs.FrameBack.{fed, fed-length, week_bytes, week_spells, week_small, week_is}
use Rattle.readback.proofs.FrameBack.{batch_spells, batch_back, batch_is, batch_short}

-- each frame is one line
spelt_one : {line : List ℕ} (bs : List ℕ) → line ≡ fed bs → OneLine line
spelt_one bs e = record { body = hex_bytes bs; inside = bytes_unbroken bs; ended = e }

module _ (d : Draft) where
  frames_ones : All OneLine (sheet_frames d)
  unfolding sheet_frames batch_frames
  frames_ones = (
    spelt_one _ (week_spells d.opening d.closing),
    tabulate_all OneLine _ (λ i. spelt_one _ (batch_spells (batch_in d i))) 0 d.count,
  )

  frame_at : (i : ℕ) → i < d.count → line_at (sheet_frames d) (suc i) ≡ batch_frame (batch_in d i)
  unfolding sheet_frames batch_frames
  frame_at i below = tabulate_at (λ k. batch_frame (batch_in d k)) d.count i [] below

  frames-length : length (sheet_frames d) ≡ suc d.count
  unfolding sheet_frames batch_frames
  frames-length = ap suc (length_tabulate (λ k. batch_frame (batch_in d k)) 0 d.count)

  -- the batch of index i, as the array of the list that is read has it
  read_at_lem : Writable d → (i : ℕ) → i < d.count → batch_at (week_from (sheet_frames d)) i ≡ batch_from (batch_frame (batch_in d i))
  unfolding week_from
  read_at_lem writable i below =
      let n = min (length (sheet_frames d) - 1) max_batches in
      let batch : ℕ → Batch = λ k. batch_from (line_at (sheet_frames d) (suc k)) in
      let within : i < n = omega (arith, frames-length, writable.most) in
      get_or-append (tabulate batch 0 n) (replicate (max_batches - length (tabulate batch 0 n)) empty_batch) no_batch i
      (omega (arith, length_tabulate batch 0 n))
      ∙ tabulate_at batch n i no_batch within
      ∙ ap batch_from (frame_at i below)

  -- the whole list
  week_back : Sized d → Writable d → SameList d (week_from (sheet_frames d))
  unfolding week_from sheet_frames
  week_back sized writable =
      let bytes = week_bytes d.opening d.closing in
      let small = week_small d.opening d.closing sized.opening sized.closing in
      let spells = week_spells d.opening d.closing in
      record {
        opening = rw spells (value_back d.opening bytes (line_feed ∷ []) small 1 (omega arith) refl refl);
        closing = rw spells (value_back d.closing bytes (line_feed ∷ []) small 3 (omega arith) refl refl);
        count = omega (arith, frames-length);
        batches = λ i below. rw (read_at_lem writable i below) (batch_back (batch_in d i) (sized.batches i) (writable.each i below));
      }

  -- a week, and then batches
  placed : Sized d → Writable d → WeekThenBatches (sheet_frames d)
  unfolding sheet_frames frame_of
  placed sized writable =
      let week = week_is d.opening d.closing sized.opening sized.closing in
      record {
        some = omega (arith, frames-length);
        week = rw (week.0, week.1);
        batches = λ i low high.
            let at : i ≡ suc (i - 1) = omega arith in
            let below : i - 1 < d.count = omega (arith, frames-length) in
            let batch = batch_is (batch_in d (i - 1)) (sized.batches (i - 1)) (writable.each (i - 1) below) in
            rw (at, frame_at (i - 1) below, batch.0, batch.1, batch.2);
      }

  -- no sheet is too long
  frames_short : Writable d → ((i : ℕ) → SizedBatch (batch_in d i)) → (a n : ℕ) → a + n ≤ d.count →
      length (flatten (tabulate (λ i. batch_frame (batch_in d i)) a n)) ≤ (batch_length + recipe_length * max_recipes) * n
  unfolding flatten
  frames_short writable sized a zero within = omega arith
  frames_short writable sized a (suc n) within =
      omega (
        arith,
        length-append (batch_frame (batch_in d a)) (flatten (tabulate (λ i. batch_frame (batch_in d i)) (suc a) n)),
        batch_short (batch_in d a) (sized a) (writable.each a (omega arith)),
        frames_short writable sized (suc a) n (omega arith),
      )

  sheet_short : Sized d → Writable d → length (flatten (sheet_frames d)) ≤ max_bytes
  unfolding flatten sheet_frames batch_frames
  sheet_short sized writable =
      let week = week_frame d.opening d.closing in
      omega (
        arith,
        length-append week (flatten (batch_frames d d.count)),
        ap length (week_spells d.opening d.closing),
        fed-length (week_bytes d.opening d.closing),
        frames_short writable sized.batches 0 d.count (omega arith),
        writable.most,
      )

  -- ‘the list as a sheet’: 18, 16 and 17 pass it, and its lines hold the list again
  pub read_back : Sized d → (sheet_fault d).number ≡ 0 → ReadBack d (flatten (sheet_lines d))
  read_back sized passed =
      let can = writable d passed in
      rw (lines_written d passed)
      record {
        short = sheet_short sized can;
        lines = rw (lines_flatten (sheet_frames d) frames_ones) ((lines_pass (sheet_frames d)).1 (placed sized can));
        list = rw (lines_flatten (sheet_frames d) frames_ones) (week_back sized can);
      }
