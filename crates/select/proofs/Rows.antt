-- A row, version by version: what is known of a job, what holds of the words after its first k versions, and before the first.
use Prim.Native.Nat.{ℕ, ◌+◌, ◌-◌, ◌≤◌, ◌<◌, max}
use native.Mathlib.Decide.{dec_lt}
use native.Mathlib.Omega.{arith}
use mathlib.Core.Path.{◌≡◌}
use mathlib.Core.Bool.{cond}
use mathlib.Core.List.{List, ◌∷◌}
use lib.ListN.{length, get_or, replicate, length-replicate}
use lib.Dec.{ltb}
use borrow.Author.Tests.{lt-ltb, le-ltb}
use Rattle.arrays.proofs.Places.{replicate_low}
use Rattle.jobs.specs.declared.model.Job.{Job}
use Rattle.jobs.specs.Model.{max_versions}
use Rattle.jobs.specs.Choice.{total}
use Rattle.select.specs.Word.{word_by, max_word, word_limit, Low, Packable}
use Rattle.select.specs.Row.{Starts, due_entry, Scored}
use Rattle.select.proofs.Cells.{best_of}

-- what is known of a job, of the entry e of its due minute, and of the scores of the jobs before, which start at entry f
pub record Ready (j : Job) (t e f : ℕ) (scores : List ℕ) : Type 0 where
  pub few : j.count ≤ max_versions
  pub ready : t ≤ j.ready
  pub packable : Packable j
  pub due : e ≡ due_entry j t (length scores)
  pub starts : Starts f scores
  pub low : (m : ℕ) → Low (get_or scores m 0)

-- x is the word of entry m after k versions; js are any jobs whose scores the row before has
abbrev pub Worded : Job → ℕ → List ℕ → ℕ → ℕ → ℕ → Type 0
Worded j t scores k m x =
    (js : List Job) → Scored js t (length scores) scores → x ≡ word_by (total (j ∷ js)) (best_of j js (t + m) k)

-- x is not above b and the word of the greatest worth, if no score before is above b
abbrev pub Bounded : List ℕ → ℕ → Type 0
Bounded scores x = (b : ℕ) → ((m : ℕ) → get_or scores m 0 ≤ b) → x ≤ b + max_word

-- the word of entry m: from the due minute on, at entry e, the greater of the one that stands and the level
unfoldable pub word_at : ℕ → List ℕ → ℕ → ℕ → ℕ
word_at e words level m = cond (ltb m e) (get_or words m 0) (max (get_or words m 0) level)

module _ (e : ℕ) (words : List ℕ) (level m : ℕ) where
  pub at_early : m < e → word_at e words level m ≡ get_or words m 0
  unfolding word_at
  at_early l = rw (lt-ltb m e l)

  pub at_late : e ≤ m → word_at e words level m ≡ max (get_or words m 0) level
  unfolding word_at
  at_late l = rw (le-ltb m e l)

-- after k versions; the words start at entry `next`
pub record Row (j : Job) (t e : ℕ) (scores words : List ℕ) (level next k : ℕ) : Type 0 where
  pub most : k ≤ j.count
  pub size : length words ≡ length scores
  pub inside : next ≤ length scores
  pub worded : (m : ℕ) → m < length scores → Worded j t scores k m (word_at e words level m)
  pub none : (m : ℕ) → m < next → word_at e words level m ≡ 0
  pub some : (m : ℕ) → next ≤ m → m < length scores → 0 < word_at e words level m
  pub low : (m : ℕ) → Bounded scores (get_or words m 0)
  pub low_level : Bounded scores level

module _ {j : Job} {t e f : ℕ} {scores : List ℕ} (job : Ready j t e f scores) where
  -- no version yet
  pub row_start : {words : List ℕ} → words ≡ replicate (length scores) 0 → Row j t e scores words 0 (length scores) 0
  row_start {words} none =
      rw none
      record {
        most = omega arith;
        size = length-replicate {A = ℕ} (length scores) 0;
        inside = omega arith;
        worded = λ m l js known. zero m;
        none = λ m l. zero m;
        some = λ m l u. absurd (omega arith);
        low = λ m b below. omega (arith, replicate_low (length scores) 0 m);
        low_level = λ b below. omega arith;
      }
    where
      zero : (m : ℕ) → word_at e (replicate (length scores) 0) 0 m ≡ 0
      zero m =
          elim (dec_lt m e) [
            | yes l ↦ omega (arith, at_early e (replicate (length scores) 0) 0 m l, replicate_low (length scores) 0 m)
            | no l ↦ omega (arith, at_late e (replicate (length scores) 0) 0 m (omega arith), replicate_low (length scores) 0 m)
          ]

  -- what is bounded is below the limit
  limited : {x : ℕ} → Bounded scores x → x < word_limit
  limited bounded = omega (arith, bounded (word_limit - 1 - max_word) (λ m. omega (arith, job.low m)))

  module _ {words : List ℕ} {level next k : ℕ} (h : Row j t e scores words level next k) where
    pub row_small : (m : ℕ) → get_or words m 0 < word_limit
    row_small m = limited (h.low m)

    pub level_small : level < word_limit
    level_small = limited h.low_level
