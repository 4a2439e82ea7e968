-- The two frames as the bytes that they spell, and what each is read as.
use Prim.Native.Nat.{ℕ, zero, suc, ◌+◌, ◌*◌, ◌/◌, ◌%◌, ◌≤◌, ◌<◌, min}
use native.Mathlib.Omega.{arith}
use mathlib.Core.Path.{◌≡◌, refl, sym, ap, ap₂, ◌∙◌}
use mathlib.Core.Bool.{true, false}
use mathlib.Core.List.{List, [], ◌∷◌, ◌++◌, flatten}
use lib.ListN.{length, get_or, length-append, get_or-append}
use borrow.Author.Tests.{eq-eqb}
use Rattle.arrays.specs.Bits.{max16}
use Rattle.arrays.specs.Made.{tabulate}
use Rattle.arrays.specs.Text.{line_feed}
use Rattle.arrays.proofs.Places.{padded_at}
use Rattle.arrays.proofs.Tabulates.{tabulate_at}
use Rattle.week.specs.declared.record.Batch.{Batch}
use Rattle.week.specs.Record.{max_recipes, no_recipe, recipe_at}
use Rattle.sheet.specs.Hex.{byte_at, word_at}
use Rattle.sheet.specs.Line.{hex_line}
use Rattle.sheet.specs.declared.frame.Frame.TheVariants as frame
use Rattle.sheet.specs.Frame.{byte_of, batch_length, recipe_length, is_week, is_batch}
use Rattle.sheet.specs.List.{recipe_from, batch_from}
use Rattle.draft.specs.Sheet.{hex_byte, hex_value, week_frame, recipe_part, recipes_part, batch_frame}
use Rattle.readback.specs.ReadBack.{SizedBatch, SameBatch}
use Rattle.readback.proofs.HexBytes.{hex_bytes, Bytes, bytes-length, bytes_line, byte_back, two, value_back}

-- with the line feed
abbrev pub fed : List ℕ → List ℕ
fed bs = hex_bytes bs ++ (line_feed ∷ [])

pub fed-length : (bs : List ℕ) → length (fed bs) ≡ 2 * length bs + 1
fed-length bs = omega (arith, length-append (hex_bytes bs) (line_feed ∷ []), bytes-length bs)

-- the week's frame
abbrev pub week_bytes : (t c : ℕ) → List ℕ
week_bytes t c = byte_of frame.Week ∷ t / 256 ∷ t % 256 ∷ c / 256 ∷ c % 256 ∷ []

pub week_spells : (t c : ℕ) → week_frame t c ≡ fed (week_bytes t c)
unfolding week_frame hex_value hex_byte hex_bytes
week_spells t c = refl

module _ (t c : ℕ) (opening : t ≤ max16) (closing : c ≤ max16) where
  pub week_small : Bytes (week_bytes t c)
  week_small = (omega arith, two opening (two closing tt))

  -- it is a week's
  pub week_is : (hex_line (week_frame t c) ≡ true) × (is_week (week_frame t c) ≡ true)
  unfolding is_week
  week_is =
      rw (
        week_spells t c,
        bytes_line (week_bytes t c) week_small,
        byte_back (week_bytes t c) (line_feed ∷ []) week_small 0 (omega arith),
        fed-length (week_bytes t c),
      )
      (refl, refl)

-- a batch's frame
module _ (b : Batch) where
  abbrev recipe_bytes : ℕ → List ℕ
  recipe_bytes k =
      (recipe_at b k).cost / 256 ∷ (recipe_at b k).cost % 256 ∷ (recipe_at b k).worth / 256 ∷ (recipe_at b k).worth % 256 ∷ []

  abbrev recipes_bytes : ℕ → ℕ → List ℕ
  recipes_bytes a n = flatten (tabulate recipe_bytes a n)

  recipes_spell : (a n : ℕ) → flatten (tabulate (λ k. recipe_part (recipe_at b k)) a n) ≡ hex_bytes (recipes_bytes a n)
  unfolding flatten hex_value hex_byte hex_bytes
  recipes_spell a zero = refl
  recipes_spell a (suc n) = ap (λ (l : List ℕ). recipe_part (recipe_at b a) ++ l) (recipes_spell (suc a) n)

  abbrev pub batch_bytes : List ℕ
  batch_bytes =
      byte_of frame.Batch ∷ b.number / 256 ∷ b.number % 256 ∷ b.arrival / 256 ∷ b.arrival % 256 ∷ b.due / 256 ∷ b.due % 256 ∷ b.count
      ∷ recipes_bytes 0 b.count

  pub batch_spells : batch_frame b ≡ fed batch_bytes
  unfolding batch_frame recipes_part hex_value hex_byte hex_bytes
  batch_spells = rw (recipes_spell 0 b.count)

  recipes-length : (a n : ℕ) → length (recipes_bytes a n) ≡ 4 * n
  unfolding flatten
  recipes-length a zero = refl
  recipes-length a (suc n) = omega (arith, recipes-length (suc a) n)

  -- byte j of the recipe of index k
  recipe_byte : (a n k j : ℕ) → k < n → j < 4 → get_or (recipes_bytes a n) (4 * k + j) 0 ≡ get_or (recipe_bytes (a + k)) j 0
  unfolding flatten
  recipe_byte a zero k j below within = absurd (omega arith)
  recipe_byte a (suc n) zero j below within =
      let at : 4 * 0 + j ≡ j = omega arith in
      let here : a + 0 ≡ a = omega arith in
      ap (λ (i : ℕ). get_or (recipes_bytes a (suc n)) i 0) at
      ∙ get_or-append (recipe_bytes a) (recipes_bytes (suc a) n) 0 j within
      ∙ ap (λ (i : ℕ). get_or (recipe_bytes i) j 0) (sym here)
  recipe_byte a (suc n) (suc k) j below within =
      let at : 4 * suc k + j ≡ suc (suc (suc (suc (4 * k + j)))) = omega arith in
      let here : a + suc k ≡ suc a + k = omega arith in
      ap (λ (i : ℕ). get_or (recipes_bytes a (suc n)) i 0) at
      ∙ recipe_byte (suc a) n k j (omega arith) within
      ∙ ap (λ (i : ℕ). get_or (recipe_bytes i) j 0) (sym here)

  recipes_small : SizedBatch b → (a n : ℕ) → Bytes (recipes_bytes a n)
  unfolding flatten
  recipes_small sized a zero = tt
  recipes_small sized a (suc n) =
      two (sized.recipes a).0 (two (sized.recipes a).1 (recipes_small sized (suc a) n))

  module _ (sized : SizedBatch b) (kept : b.count ≤ max_recipes) where
    small : Bytes batch_bytes
    small = (
      omega arith,
      two sized.number (two sized.arrival (two sized.due (omega arith, recipes_small sized 0 b.count))),
    )

    size : length batch_bytes ≡ 8 + 4 * b.count
    size = omega (arith, recipes-length 0 b.count)

    -- a byte after the first eight
    after : (k j : ℕ) → k < b.count → j < 4 → (at : ℕ) → at ≡ 8 + (4 * k + j) → get_or batch_bytes at 0 ≡ get_or (recipe_bytes k) j 0
    after k j below within at e =
        let here : at ≡ suc (suc (suc (suc (suc (suc (suc (suc (4 * k + j)))))))) = omega arith in
        let from : 0 + k ≡ k = omega arith in
        rw here (recipe_byte 0 b.count k j below within ∙ ap (λ (i : ℕ). get_or (recipe_bytes i) j 0) from)

    recipe_back : (k : ℕ) → k < b.count → recipe_from (fed batch_bytes) k ≡ recipe_at b k
    recipe_back k below =
        ap₂ (λ (cost worth : ℕ). record { cost = cost; worth = worth })
        (word (recipe_at b k).cost 8 0 refl (omega arith) refl refl)
        (word (recipe_at b k).worth 10 2 refl (omega arith) refl refl)
      where
        word : (v from j : ℕ) → from ≡ 8 + j → j + 1 < 4 →
            get_or (recipe_bytes k) j 0 ≡ v / 256 → get_or (recipe_bytes k) (j + 1) 0 ≡ v % 256 → word_at (fed batch_bytes) (from + 4 * k) ≡ v
        word v from j e within high low =
            value_back v batch_bytes (line_feed ∷ []) small (from + 4 * k) (omega (arith, size))
            (after k j below (omega arith) (from + 4 * k) (omega arith) ∙ high)
            (after k (j + 1) below within (from + 4 * k + 1) (omega arith) ∙ low)

    count_back : byte_at (fed batch_bytes) 7 ≡ b.count
    count_back = byte_back batch_bytes (line_feed ∷ []) small 7 (omega (arith, size))

    pub batch_back : SameBatch b (batch_from (batch_frame b))
    unfolding batch_from
    batch_back =
        rw batch_spells
        record {
          number = value_back b.number batch_bytes (line_feed ∷ []) small 1 (omega (arith, size)) refl refl;
          arrival = value_back b.arrival batch_bytes (line_feed ∷ []) small 3 (omega (arith, size)) refl refl;
          due = value_back b.due batch_bytes (line_feed ∷ []) small 5 (omega (arith, size)) refl refl;
          count = count_back;
          recipes = λ k below.
              let most : k < min (byte_at (fed batch_bytes) 7) max_recipes = omega (arith, count_back) in
              padded_at max_recipes no_recipe (tabulate (recipe_from (fed batch_bytes)) 0 (min (byte_at (fed batch_bytes) 7) max_recipes)) k
              ∙ tabulate_at (recipe_from (fed batch_bytes)) (min (byte_at (fed batch_bytes) 7) max_recipes) k no_recipe most
              ∙ recipe_back k below;
        }

    -- it is a batch's, and no week's
    pub batch_is : (hex_line (batch_frame b) ≡ true) × (is_week (batch_frame b) ≡ false) × (is_batch (batch_frame b) ≡ true)
    unfolding is_week is_batch
    batch_is =
        let long : length (fed batch_bytes) ≡ batch_length + recipe_length * b.count = omega (arith, fed-length batch_bytes, size) in
        rw (
          batch_spells,
          bytes_line batch_bytes small,
          byte_back batch_bytes (line_feed ∷ []) small 0 (omega (arith, size)),
          count_back,
          eq-eqb (length (fed batch_bytes)) (batch_length + recipe_length * b.count) long,
        )
        (refl, refl, refl)

    -- ten recipes are the most
    pub batch_short : length (batch_frame b) ≤ batch_length + recipe_length * max_recipes
    batch_short = rw batch_spells (omega (arith, fed-length batch_bytes, size))
