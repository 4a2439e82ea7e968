-- Packed words: the score of a choice and its last version in one number, so that one comparison tells the better of two choices.
use Rattle.std.specs.Prelude.{ℕ, suc, ◌+◌, ◌-◌, ◌*◌, ◌%◌, ◌≤◌, ◌<◌, cond, List, get_or, eqb}
use Rattle.std.proofs.Math.Option.{Option, none, some}
use Rattle.arrays.specs.Bits.{max16}
use Rattle.jobs.specs.declared.model.Job.{Job}
use Rattle.jobs.specs.Model.{version_of}
use Rattle.jobs.specs.Best.{last_version}

-- 0 if no choice exists, else one more than the total: no choice is not a total of 0
abbrev pub score_by : (List ℕ → ℕ) → Option (List ℕ) → ℕ
score_by v none = 0
score_by v (some c) = suc (v c)

-- above every version, so that this less a version is above 0
abbrev pub radix : ℕ
radix = 16

-- a score, or a worth that is added to one, and below it the version, a lower one as a greater number: of two words the greater
-- has the greater score, and of equal scores the lower version
abbrev pub word_of : ℕ → ℕ → ℕ
word_of s k = s * radix + (radix - k)

-- the word of a choice, by its score and its last version; 0 for none
abbrev pub word_by : (List ℕ → ℕ) → Option (List ℕ) → ℕ
word_by v none = 0
word_by v (some c) = word_of (suc (v c)) (last_version (some c))

-- a word taken apart: the score, as a word without a version; and the version, 0 where there is none
abbrev pub score_part : ℕ → ℕ
score_part x = x - x % radix

abbrev pub version_part : ℕ → ℕ
version_part x = (radix - x % radix) % radix

-- a score with a version's word more; no choice stays no choice
abbrev pub raised : ℕ → ℕ → ℕ
raised score w = cond (eqb score 0) 0 (score + w)

-- the greatest worth of a version: one of 16 bits, four times
abbrev pub max_worth : ℕ
max_worth = 4 * max16

abbrev pub max_word : ℕ
max_word = word_of max_worth 1

-- 2^27: with at most 16 jobs no word reaches it
abbrev pub word_limit : ℕ
word_limit = 134217728

-- a word that leaves room for one worth more
abbrev pub Low : ℕ → Type 0
Low x = x + max_word < word_limit

-- of a row: each score leaves that room, and each word is below the limit
abbrev pub AllLow : List ℕ → Type 0
AllLow scores = (m : ℕ) → Low (get_or scores m 0)

abbrev pub AllLimited : List ℕ → Type 0
AllLimited words = (m : ℕ) → get_or words m 0 < word_limit

-- a job whose versions' worths go into words
abbrev pub Packable : Job → Type 0
Packable j = (k : ℕ) → 1 ≤ k → k ≤ j.count → (version_of j k).worth ≤ max_worth
