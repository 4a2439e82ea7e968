-- One row of the programme, as numbers: what each of its functions leaves. Entry m of a row is for the close t + m.
use Rattle.std.specs.Prelude.{ℕ, ◌+◌, ◌-◌, ◌*◌, ◌≤◌, ◌<◌, max, min, ◌≡◌, cond, ◌&&◌, List, ◌∷◌, length, get_or, leb, ltb, Some, None}
use Rattle.arrays.specs.Made.{tabulate}
use Rattle.arrays.specs.Patched.{Patched}
use Rattle.jobs.specs.declared.model.Version.{Version}
use Rattle.jobs.specs.declared.model.Job.{Job}
use Rattle.jobs.specs.Model.{max_span, max_versions, version_of, minutes_of}
use Rattle.jobs.specs.Rule.{fits, next_bound}
use Rattle.jobs.specs.Choice.{total}
use Rattle.jobs.specs.Best.{best, pick}
use Rattle.select.specs.Word.{score_by, radix, word_of, raised, max_worth, max_word}

-- the entries of a row for the longest week
abbrev pub row_length : ℕ
row_length = max_span + 1

abbrev pub score : List Job → ℕ → ℕ
score js x = score_by (total js) (best js x)

-- the entries from f on have a choice, and those before it none
pub record Starts (f : ℕ) (scores : List ℕ) : Type 0 where
  pub most : f ≤ length scores
  pub none : (m : ℕ) → m < f → get_or scores m 0 ≡ 0
  pub some : (m : ℕ) → f ≤ m → m < length scores → 0 < get_or scores m 0

-- what version k of job j offers at entry m, over the scores of the jobs before: by the rule
unfoldable pub offered : Job → ℕ → ℕ → List ℕ → ℕ → ℕ
offered j k t scores m =
    cond (fits j (version_of j k) (t + m))
    (raised (get_or scores (next_bound j (version_of j k) (t + m) - t) 0) (word_of (version_of j k).worth k))
    0

-- the first entry where version v of job j is offered, if the jobs before have a choice from entry f on; w, the end of the row, if
-- it comes too late for its due minute
unfoldable pub first_offer : Job → Version → ℕ → ℕ → ℕ → ℕ
first_offer j v t f w =
    elim v.minutes [
      | Some minutes ↦ cond (leb (t + (max (j.ready - t) f + minutes)) j.due) (max (j.ready - t) f + minutes) w
      | None ↦ f
    ]

-- what a version of word w offers at entry m, from its first on, if it starts `minutes` earlier
abbrev pub shifted : List ℕ → ℕ → ℕ → ℕ → ℕ
shifted scores minutes w m = get_or scores (m - minutes) 0 + w

-- what `offer` and `due_offer` ask of version k, which is v, and of its first entry in a row of n
abbrev pub Offerable : Version → ℕ → ℕ → ℕ → Type 0
Offerable v k first n = (v.worth ≤ max_worth) × (1 ≤ k) × (k ≤ max_versions) × (first < n → minutes_of v ≤ first)

-- the entry of the due minute, or the end of a row of w entries: from there on a version that is read offers the same
abbrev pub due_entry : Job → ℕ → ℕ → ℕ
due_entry j t w = min (j.due - t) w

-- what version k, which is v, offers from entry e on, that of the due minute; 0 if it is set aside, or its first entry comes after
-- that, or the row ends before
unfoldable pub due_offer : Version → ℕ → ℕ → ℕ → List ℕ → ℕ
due_offer v k first e scores =
    elim v.minutes [
      | Some minutes ↦ cond (leb first e && ltb e (length scores)) (shifted scores minutes (word_of v.worth k) e) 0
      | None ↦ 0
    ]

-- from entry a up to b an offer is taken where it is greater than the word that stands
abbrev pub Taken : (ℕ → ℕ) → ℕ → ℕ → List ℕ → List ℕ → Type 0
Taken offer a b words words' = Patched (λ m. max (get_or words m 0) (offer m)) a b words words'

-- a row has the scores of the jobs js, as words without a version, at each of the w closes from t on
abbrev pub Scored : List Job → ℕ → ℕ → List ℕ → Type 0
Scored js t w scores = (m : ℕ) → m < w → get_or scores m 0 ≡ score js (t + m) * radix

-- the row of job j, of w entries: from the scores of the jobs before it, whatever they are, its scores, its picks, and the entry f
-- from which on it has a choice
pub record FilledRow (j : Job) (t w : ℕ) (before : List ℕ) (f : ℕ) (scores picks : List ℕ) : Type 0 where
  pub size : length scores ≡ w
  pub scored : (js : List Job) → Scored js t w before → Scored (j ∷ js) t w scores
  pub starts : (js : List Job) → Scored js t w before → Starts f scores
  pub picked : (js : List Job) → Scored js t w before → picks ≡ tabulate (pick (j ∷ js)) t w
  pub low : (b : ℕ) → ((m : ℕ) → get_or before m 0 ≤ b) → (m : ℕ) → get_or scores m 0 ≤ b + max_word
