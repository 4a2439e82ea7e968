-- Lines of a text: fields with a space between them, ended by a line feed; and those that a report and an answer share.
use Rattle.std.specs.Prelude.{ℕ, List, [], ◌∷◌, ◌++◌, map}
use Rattle.arrays.specs.Text.{bytes, line_feed, space}
use Rattle.week.specs.declared.refusal.Refusal.{Refusal}
use Rattle.text.specs.Decimal.{decimal}

-- fields, each after a space
unfoldable pub spaced : List (List ℕ) → List ℕ
spaced [] = []
spaced (field ∷ fields) = (space ∷ field) ++ spaced fields

-- 01: "Every line ends with a line feed.": what follows the first field, and the whole
abbrev pub rest_of : List (List ℕ) → List ℕ
rest_of fields = spaced fields ++ (line_feed ∷ [])

abbrev pub line_of : List ℕ → List (List ℕ) → List ℕ
line_of first fields = first ++ rest_of fields

-- a word and its number
abbrev pub named : List ℕ → ℕ → List ℕ
named word n = word ++ (space ∷ decimal n)

-- "week 0 100": 01, "Line 1 is t and c."
unfoldable pub week_line : (opening closing : ℕ) → List ℕ
week_line opening closing = line_of (bytes "week") (map decimal (opening ∷ closing ∷ []))

-- "refused 17 1 0": 01, "A refusal writes one line only, "refused" and its three numbers"
unfoldable pub refusal_line : Refusal → List ℕ
refusal_line r = line_of (bytes "refused") (map decimal (r.number ∷ r.place ∷ r.recipe ∷ []))

-- "changes 4 idle 10": the fields that tell of a run
abbrev pub counts : (changes idle : ℕ) → List (List ℕ)
counts changes idle = bytes "changes" ∷ decimal changes ∷ bytes "idle" ∷ decimal idle ∷ []

-- the widest line of each kind, its line feed counted: `week 65535 65535`; a number of three digits and two of twenty
abbrev pub week_width : ℕ
week_width = 17

abbrev pub refusal_width : ℕ
refusal_width = 54

-- and the widest end of a line that tells of a run: ` changes 65535 idle 65535`
abbrev pub counts_width : ℕ
counts_width = 26
