-- Fields and numbers, each after a space: one more of them, and how many bytes they are at most.
use Prim.Native.Nat.{ℕ, suc, ◌+◌, ◌*◌, ◌^◌, ◌≤◌, ◌<◌}
use native.Mathlib.Omega.{arith}
use mathlib.Core.Path.{◌≡◌, refl, sym, ap, ◌∙◌}
use mathlib.Core.List.{List, [], ◌∷◌, ◌++◌, map, map-append, append-nil, append_assoc}
use lib.ListN.{length, length-append}
use Rattle.arrays.specs.Text.{bytes, line_feed, space}
use Rattle.text.specs.Decimal.{decimal}
use Rattle.text.specs.Line.{spaced, rest_of, line_of, named, counts}
use Rattle.text.proofs.Decimals.{decimal_short}

abbrev pub numbers : List ℕ → List ℕ
numbers ns = spaced (map decimal ns)

pub spaced-append : (xs ys : List (List ℕ)) → spaced (xs ++ ys) ≡ spaced xs ++ spaced ys
unfolding spaced
spaced-append [] ys = refl
spaced-append (x ∷ xs) ys =
    ap (λ (l : List ℕ). (space ∷ x) ++ l) (spaced-append xs ys) ∙ sym (append_assoc (space ∷ x) (spaced xs) (spaced ys))

pub numbers-append : (xs ys : List ℕ) → numbers (xs ++ ys) ≡ numbers xs ++ numbers ys
numbers-append xs ys = ap spaced (map-append decimal xs ys) ∙ spaced-append (map decimal xs) (map decimal ys)

-- where all fields have room, so has the first of those that are left
pub field_room : {n : ℕ} (before : List ℕ) (all : List (List ℕ)) (text field : List ℕ) (fields : List (List ℕ)) →
    text ++ spaced (field ∷ fields) ≡ before ++ spaced all → length before + length (spaced all) ≤ n →
    length text + length (space ∷ field) ≤ n
unfolding spaced
field_room before all text field fields left room =
    omega (
      arith,
      ap length left,
      length-append before (spaced all),
      length-append text ((space ∷ field) ++ spaced fields),
      length-append (space ∷ field) (spaced fields),
    )

-- and where a line has room, so has what follows its first field
pub rest_room : {n width : ℕ} (before first text rest : List ℕ) → text ≡ before ++ first → length before + width ≤ n →
    length first + length rest ≤ width → length text + length rest ≤ n
rest_room before first text rest put room short = omega (arith, ap length put, length-append before first)

-- each has at most k + 1 digits
abbrev pub Below : ℕ → List ℕ → Type 0
Below k [] = Unit {0}
Below k (n ∷ ns) = (n < 10 ^ suc k) × Below k ns

pub numbers_short : (k : ℕ) (ns : List ℕ) → Below k ns → length (numbers ns) ≤ length ns * (k + 2)
unfolding spaced
numbers_short k [] below = omega arith
numbers_short k (n ∷ ns) below =
    rw (length-append (space ∷ decimal n) (numbers ns))
    (omega (arith, decimal_short k n below.0, numbers_short k ns below.1))

-- and the line feed after them
pub rest_short : (k : ℕ) (ns : List ℕ) → Below k ns → length (rest_of (map decimal ns)) ≤ length ns * (k + 2) + 1
rest_short k ns below = rw (length-append (numbers ns) (line_feed ∷ [])) (omega (arith, numbers_short k ns below))

-- one field more, and none
pub rest_more : (field : List ℕ) (fields : List (List ℕ)) → rest_of (field ∷ fields) ≡ (space ∷ field) ++ rest_of fields
unfolding spaced
rest_more field fields = append_assoc (space ∷ field) (spaced fields) (line_feed ∷ [])

pub rest_none : rest_of [] ≡ line_feed ∷ []
unfolding spaced
rest_none = refl

-- a word and its number, as fields after spaces
pub named_fields : (word : List ℕ) (n : ℕ) → spaced (word ∷ decimal n ∷ []) ≡ named (space ∷ word) n
unfolding spaced
named_fields word n = ap (λ (l : List ℕ). (space ∷ word) ++ l) (append-nil (space ∷ decimal n))

-- a line of the two, and how many bytes it has
named_parts : (word : List ℕ) (n : ℕ) → line_of word (decimal n ∷ []) ≡ named word n ++ (line_feed ∷ [])
named_parts word n = simp (rest_more, rest_none, append_assoc)

pub named_size : (word : List ℕ) (n : ℕ) → length (line_of word (decimal n ∷ [])) ≡ length (named word n) + 1
named_size word n = ap length (named_parts word n) ∙ length-append (named word n) (line_feed ∷ [])

-- what a line of a run ends with, in the order in which it is put
pub counts_parts : (changes idle : ℕ) →
    rest_of (counts changes idle) ≡ named (bytes " changes") changes ++ (bytes " idle" ++ rest_of (decimal idle ∷ []))
counts_parts changes idle = simp rest_more

-- of which what follows "idle" is a number of five digits, and the line feed
pub idle_rest : (idle : ℕ) → idle < 2 ^ 16 → length (rest_of (decimal idle ∷ [])) ≤ 7
idle_rest idle fits = rest_short 4 (idle ∷ []) (omega arith, tt)

-- what follows "week": two numbers of five digits, and the line feed
pub week_rest : (opening closing : ℕ) → opening < 2 ^ 16 → closing < 2 ^ 16 →
    length (rest_of (map decimal (opening ∷ closing ∷ []))) ≤ 13
week_rest opening closing o c = rest_short 4 (opening ∷ closing ∷ []) (omega arith, (omega arith, tt))

-- what follows "refused": a number of three digits, two of twenty, and the line feed
pub refusal_rest : (number place recipe : ℕ) → number < 2 ^ 8 → place < 2 ^ 64 → recipe < 2 ^ 64 →
    length (rest_of (map decimal (number ∷ place ∷ recipe ∷ []))) ≤ 47
refusal_rest number place recipe n p r =
    let others = map decimal (place ∷ recipe ∷ []) in
    rw (rest_more (decimal number) others, length-append (space ∷ decimal number) (rest_of others))
    (omega (
      arith,
      decimal_short 2 number (omega arith),
      rest_short 19 (place ∷ recipe ∷ []) (omega arith, (omega arith, tt)),
    ))
