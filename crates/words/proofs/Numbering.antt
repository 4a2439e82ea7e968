-- The numbers of a line, word by word: those of the words that are passed are kept, as far as there is place, and all are counted.
use Prim.Native.Nat.{ℕ, ◌+◌, ◌≤◌, ◌<◌}
use native.Mathlib.Omega.{arith}
use mathlib.Core.Path.{◌≡◌, refl, sym, ap, ◌∙◌}
use mathlib.Core.Bool.{true, false, ◌&&◌, and_assoc}
use mathlib.Core.List.{List, [], ◌∷◌, ◌++◌, map, append_assoc, append-nil, map-append}
use lib.ListN.{length, take, set, replicate, length-append, length-map}
use lib.Seq.{take_all, take-append-le}
use Rattle.std.specs.Prelude.{None, Some}
use Rattle.std.proofs.lemmas.Option.{cond_some}
use Rattle.arrays.specs.Made.{padded}
use Rattle.arrays.proofs.Places.{padded_set}
use Rattle.text.specs.Decimal.{value_after}
use Rattle.words.specs.Number.{is_number, number_of}
use Rattle.words.specs.Numbers.{max_kept, are_numbers, numbers_of}
use Rattle.words.proofs.Places.{cond_none}

-- what `number_of` says of a word
module _ (word : List ℕ) where
  value_of : {n : ℕ} → Some n ≡ number_of word → (is_number word ≡ true) × (n ≡ value_after 0 word)
  unfolding number_of
  value_of {n} e = let both = cond_some (is_number word) (value_after 0 word) n (sym e) in (both.0, sym both.1)

  none_of : None ≡ number_of word → is_number word ≡ false
  unfolding number_of
  none_of e = cond_none (is_number word) (value_after 0 word) e

-- of words before others
numbers-append : (xs ys : List (List ℕ)) → are_numbers (xs ++ ys) ≡ (are_numbers xs && are_numbers ys)
unfolding are_numbers
numbers-append [] ys = refl
numbers-append (x ∷ xs) ys = rw (numbers-append xs ys, and_assoc)

-- the values that are kept of words
abbrev kept : List (List ℕ) → List ℕ
kept words = padded max_kept 0 (map (value_after 0) (take max_kept words))

kept_more : (words : List (List ℕ)) (word : List ℕ) → length words < max_kept →
    set (kept words) (length words) (value_after 0 word) ≡ kept (words ++ (word ∷ []))
kept_more words word place =
    rw (
      take_all max_kept words (omega arith),
      take_all max_kept (words ++ (word ∷ [])) (omega (arith, length-append words (word ∷ []))),
      map-append,
    )
    (padded_set max_kept 0 (map (value_after 0) words) (length words) (value_after 0 word) (length-map words (value_after 0)) place)

kept_full : (words : List (List ℕ)) (word : List ℕ) → max_kept ≤ length words → kept (words ++ (word ∷ [])) ≡ kept words
kept_full words word full = rw (take-append-le max_kept words (word ∷ []) full)

-- a loop over words has passed `count` of them, and some are left
pub record Numbered (words : List (List ℕ)) (values : List ℕ) (count : ℕ) (left : List (List ℕ)) : Type 0 where
  pub passed : List (List ℕ)
  pub all : words ≡ passed ++ left
  pub numbers : are_numbers passed ≡ true
  pub counted : length passed ≡ count
  pub stored : values ≡ kept passed

pub numbered_start : (words : List (List ℕ)) → Numbered words (replicate max_kept 0) 0 words
unfolding are_numbers
numbered_start words = record { passed = []; all = refl; numbers = refl; counted = refl; stored = refl }

module _ {words : List (List ℕ)} {values : List ℕ} {count : ℕ} {left : List (List ℕ)} (h : Numbered words values count left) where
  -- no word is left
  pub numbered_end : left ≡ [] → Some (record { count = count; values = values }) ≡ numbers_of words
  unfolding numbers_of
  numbered_end none =
      let all : words ≡ h.passed = h.all ∙ rw none (append-nil h.passed) in
      rw (all, h.numbers, h.counted, h.stored)

  -- a word is next
  module _ {word : List ℕ} {after : List (List ℕ)} (next : left ≡ word ∷ after) where
    rest : words ≡ h.passed ++ word ∷ after
    rest = h.all ∙ ap (λ (l : List (List ℕ)). h.passed ++ l) next

    -- it can be counted
    pub numbered_room : count < length words
    numbered_room = omega (arith, ap length rest, length-append h.passed (word ∷ after), h.counted)

    -- it is no number
    pub numbered_none : None ≡ number_of word → None ≡ numbers_of words
    unfolding numbers_of are_numbers
    numbered_none e = rw (rest, numbers-append h.passed (word ∷ after), h.numbers, none_of _ e)

    -- it is a number, and kept if there is place
    module _ {n : ℕ} (e : Some n ≡ number_of word) where
      step : {values' : List ℕ} → values' ≡ kept (h.passed ++ (word ∷ [])) → Numbered words values' (count + 1) after
      unfolding are_numbers
      step same =
          record {
            passed = h.passed ++ (word ∷ []);
            all = rest ∙ sym (append_assoc h.passed (word ∷ []) after);
            numbers = rw (numbers-append h.passed (word ∷ []), h.numbers, (value_of _ e).0);
            counted = length-append h.passed (word ∷ []) ∙ omega (arith, h.counted);
            stored = same;
          }

      pub numbered_more : count < max_kept → Numbered words (set values count n) (count + 1) after
      numbered_more place =
          step
          (rw (h.stored, ← h.counted, (value_of word e).1) (kept_more h.passed word (omega (arith, h.counted))))

      pub numbered_full : max_kept ≤ count → Numbered words values (count + 1) after
      numbered_full full = step (h.stored ∙ sym (kept_full h.passed word (omega (arith, h.counted))))
