-- Lines, words and numbers at the corners of what a line may be, computed from the definitions: one table, one claim.
use Rattle.std.specs.Prelude.{ℕ, ◌≡◌, refl, true, cond, Option, None, Some, take, drop, replicate}
use Prim.Native.String.{String}
use mathlib.Core.List.{List, [], ◌∷◌, ◌++◌, map, flatten}
use Rattle.arrays.specs.Example.{Example, ◌is◌, same, agree}
use Rattle.arrays.specs.Text.{bytes}
use Rattle.words.specs.declared.numbers.Numbers.{Numbers}
use Rattle.words.specs.declared.line.Extension.{Extension}
use Rattle.words.specs.Line.{no_line, with_byte, with_bytes, before_feed, has_feed, extended_by}
use Rattle.words.specs.Word.{joined, parts_of, some_bytes, words_of}
use Rattle.words.specs.Number.{are_digits, is_number, number_of}
use Rattle.words.specs.Numbers.{are_numbers, numbers_of}

-- words, each with a bar after it
infixl 20 ◌reads◌
abbrev ◌reads◌ : String → String → Example
line reads words = flatten (map (λ word. word ++ bytes "|") (words_of (bytes line))) is bytes words

-- a number; nothing where there is none
abbrev value : Option ℕ → List ℕ
value (Some n) = n ∷ []
value None = []

abbrev number : String → List ℕ
number word = value (number_of (bytes word))

-- the numbers of a line from an index on: 1 and how many there are, and the first of them; 0 and 0 where a word is none
abbrev kept : Option Numbers → List ℕ
kept (Some n) = 1 ∷ n.count ∷ take n.count n.values
kept None = 0 ∷ 0 ∷ []

abbrev numbers_from : String → ℕ → List ℕ
numbers_from line at = kept (numbers_of (words_of (drop at (bytes line))))

-- a line of which some has come, after a piece from an index on: where the next one starts, 1 if it has ended, and its bytes
abbrev came : Extension → List ℕ
came e = e.next ∷ cond e.ended 1 0 ∷ take e.line.len e.line.bytes

abbrev extending : String → String → ℕ → List ℕ
extending begun piece from = came (extended_by (with_bytes no_line (bytes begun)) (bytes piece) from)

table : List Example
table =
    -- words; spaces before, between and after them; a tab is no space
    ("week 0 100" reads "week|0|100|")
    ∷ ("  show   log " reads "show|log|")
    ∷ ("" reads "")
    ∷ ("   " reads "")
    ∷ ("help\t" reads "help\t|")
    -- numbers: one to five digits, at most 65,535
    ∷ (number "0" is (0 ∷ []))
    ∷ (number "00042" is (42 ∷ []))
    ∷ (number "65535" is (65535 ∷ []))
    ∷ (number "65536" is [])
    ∷ (number "000042" is [])
    ∷ (number "" is [])
    ∷ (number "-1" is [])
    ∷ (number "1/" is [])
    ∷ (number "1:" is [])
    -- the numbers after a command; none; one that is no number; more than are kept
    ∷ (numbers_from "batch 7 0 40 30 9 10 4" 5 is (1 ∷ 7 ∷ 7 ∷ 0 ∷ 40 ∷ 30 ∷ 9 ∷ 10 ∷ 4 ∷ []))
    ∷ (numbers_from "check" 5 is (1 ∷ 0 ∷ []))
    ∷ (numbers_from "run 1 x 1" 3 is (0 ∷ 0 ∷ []))
    ∷ (kept (numbers_of (replicate 300 (bytes "2"))) is (1 ∷ 300 ∷ replicate 255 2))
    -- pieces: a line in one of them, the next line of the same piece, a line in two of them, and a piece that is over
    ∷ (extending "" "choose\nlist\n" 0 is (7 ∷ 1 ∷ bytes "choose"))
    ∷ (extending "" "choose\nlist\n" 7 is (12 ∷ 1 ∷ bytes "list"))
    ∷ (extending "cho" "ose\n" 0 is (4 ∷ 1 ∷ bytes "choose"))
    ∷ (extending "cho" "o" 0 is (1 ∷ 0 ∷ bytes "choo"))
    ∷ (extending "choose" "\n" 0 is (1 ∷ 1 ∷ bytes "choose"))
    ∷ (extending "choose" "ignored" 7 is (7 ∷ 0 ∷ bytes "choose"))
    -- a line that is longer than the longest: one byte more is held
    ∷ ((with_bytes no_line (replicate 5000 65)).len ∷ [] is (4097 ∷ []))
    ∷ []

examples : agree table ≡ true
unfolding
    table same agree flatten with_byte with_bytes before_feed has_feed extended_by joined parts_of some_bytes words_of
    are_digits is_number number_of are_numbers numbers_of
examples = refl
