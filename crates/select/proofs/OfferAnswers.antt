-- What the functions of a version's offers answer, by their tests: what `offer` takes, what `due_offer` answers, and `first_offer`.
use Prim.Native.Nat.{ℕ, ◌+◌, ◌-◌, ◌≤◌, ◌<◌, max}
use native.Mathlib.Omega.{arith}
use mathlib.Core.Path.{◌≡◌, refl}
use mathlib.Core.Logic.{◌⊎◌, ⊎_elim}
use mathlib.Core.Bool.{cond, ◌&&◌}
use mathlib.Core.List.{List}
use lib.ListN.{length, get_or, take, drop}
use lib.Dec.{leb, ltb}
use borrow.Author.Tests.{le-leb, lt-leb, lt-ltb, le-ltb}
use Rattle.std.specs.Prelude.{Option, Some, None, is_some}
use Rattle.std.proofs.lemmas.Bool.{cond-false, and_left, and_right}
use Rattle.jobs.specs.declared.model.Version.{Version}
use Rattle.jobs.specs.declared.model.Job.{Job}
use Rattle.jobs.specs.Model.{minutes_of}
use Rattle.select.specs.Word.{word_of}
use Rattle.select.specs.Row.{first_offer, shifted, due_offer, Taken}
use Rattle.select.proofs.Slices.{part_at}

pub minutes_read : (v : Version) {minutes : ℕ} → v.minutes ≡ Some minutes → minutes_of v ≡ minutes
minutes_read v read = rw read

-- what `shift` takes at entry i of the part of a row that it changes
pub shift_at : (first end minutes w : ℕ) (scores words : List ℕ) → minutes ≤ first → (i : ℕ) → i < end - first →
    max (get_or (take (end - first) (drop first words)) i 0)
    (get_or (take (end - minutes - (first - minutes)) (drop (first - minutes) scores)) i 0 + w)
    ≡ max (get_or words (first + i) 0) (shifted scores minutes w (first + i))
shift_at first end minutes w scores words early i low =
    let earlier : first - minutes + i ≡ first + i - minutes = omega arith in
    rw (
      part_at first (end - first) words i low,
      part_at (first - minutes) (end - minutes - (first - minutes)) scores i (omega arith),
      earlier,
    )

-- what version k, which is v, takes by `shift`
module _
    (v : Version) (k : ℕ) (scores : List ℕ) {x : ℕ} (worded : x ≡ word_of v.worth k)
    (a b n : ℕ) {words words' : List ℕ}
  where
    pub shift_read : {minutes : ℕ} → v.minutes ≡ Some minutes → Taken (shifted scores minutes x) a b words words' →
        Taken (shifted scores (minutes_of v) (word_of v.worth k)) a (cond (is_some v.minutes) b n) words words'
    shift_read read h = rw (read, ← worded) h

    pub shift_aside : v.minutes ≡ None → Taken (shifted scores 0 x) a n words words' →
        Taken (shifted scores (minutes_of v) (word_of v.worth k)) a (cond (is_some v.minutes) b n) words words'
    shift_aside aside h = rw (aside, ← worded) h

-- what it offers from entry e on
module _ (v : Version) (k first e : ℕ) (scores : List ℕ) where
  pub due_passes : {minutes : ℕ} → v.minutes ≡ Some minutes → first ≤ e → e < length scores →
      due_offer v k first e scores ≡ shifted scores minutes (word_of v.worth k) e
  unfolding due_offer
  due_passes read l u = rw (read, le-leb first e l, lt-ltb e (length scores) u)

  pub due_aside : v.minutes ≡ None → due_offer v k first e scores ≡ 0
  unfolding due_offer
  due_aside aside = rw aside

  -- before its first entry, and past the row
  pub due_fails : (e < first) ⊎ (length scores ≤ e) → due_offer v k first e scores ≡ 0
  unfolding due_offer
  due_fails out = by_minutes v.minutes refl
    where
      by_minutes : (o : Option ℕ) → v.minutes ≡ o → due_offer v k first e scores ≡ 0
      by_minutes (Some minutes) read =
          rw read
          (cond-false (leb first e && ltb e (length scores)) _ _
          (⊎_elim (λ l. and_left _ _ (lt-leb first e l)) (λ u. and_right _ _ (le-ltb e (length scores) u)) out))
      by_minutes None aside = rw aside

-- the first entry of a version, by its cases
module _ (j : Job) (v : Version) (t f w : ℕ) where
  pub first_aside : v.minutes ≡ None → first_offer j v t f w ≡ f
  unfolding first_offer
  first_aside aside = rw aside

  module _ {minutes : ℕ} (read : v.minutes ≡ Some minutes) where
    pub first_early : t + (max (j.ready - t) f + minutes) ≤ j.due → first_offer j v t f w ≡ max (j.ready - t) f + minutes
    unfolding first_offer
    first_early early = rw (read, le-leb (t + (max (j.ready - t) f + minutes)) j.due early)

    pub first_late : j.due < t + (max (j.ready - t) f + minutes) → first_offer j v t f w ≡ w
    unfolding first_offer
    first_late late = rw (read, lt-leb (t + (max (j.ready - t) f + minutes)) j.due late)
