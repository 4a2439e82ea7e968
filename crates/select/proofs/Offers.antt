-- What a version offers at each entry of a row, by the rule's cases: from its first entry on and not before; and that `offer` and
-- `due_offer` make just these offers.
use Prim.Native.Nat.{ℕ, ◌+◌, ◌-◌, ◌≤◌, ◌<◌, max}
use native.Mathlib.Decide.{dec_le}
use native.Mathlib.Omega.{arith}
use mathlib.Core.Path.{◌≡◌, refl, sym, ap, ◌∙◌}
use mathlib.Core.Logic.{◌⊎◌, inl, inr, ⊎_elim}
use mathlib.Core.Bool.{Bool, true, false, cond}
use mathlib.Core.List.{List}
use lib.ListN.{length, get_or}
use borrow.Author.Tests.{le-leb, ne_eqb}
use Rattle.std.specs.Prelude.{Option, Some, None, is_some, unwrap_or}
use Rattle.arrays.proofs.Cases.{cond_both}
use Rattle.arrays.proofs.Patches.{patched_same, patched_widen}
use Rattle.jobs.specs.declared.model.Version.{Version}
use Rattle.jobs.specs.declared.model.Job.{Job}
use Rattle.jobs.specs.Model.{version_of, minutes_of}
use Rattle.jobs.specs.Rule.{end_of, fits, next_bound}
use Rattle.jobs.proofs.Rules.{fits_read, bound_read, bound_aside}
use Rattle.select.specs.Word.{word_of, raised}
use Rattle.select.specs.Row.{Starts, offered, first_offer, shifted, due_entry, due_offer, Taken}
use Rattle.select.proofs.Words.{raised_low}
use Rattle.select.proofs.OfferAnswers.{minutes_read, first_aside, first_early, first_late, due_passes, due_fails}

-- version k, which is v
module _ (j : Job) (k t : ℕ) (scores : List ℕ) {v : Version} (is : v ≡ version_of j k) where
  abbrev word : ℕ
  word = word_of v.worth k

  -- at the close x
  offered_at : ℕ → ℕ
  offered_at x = cond (fits j v x) (raised (get_or scores (next_bound j v x - t) 0) word) 0

  offered_at_lem : (m : ℕ) → offered j k t scores m ≡ offered_at (t + m)
  unfolding offered offered_at
  offered_at_lem m = rw is

  pub offered_low : (b : ℕ) → ((m : ℕ) → get_or scores m 0 ≤ b) → (m : ℕ) → offered j k t scores m ≤ b + word
  unfolding offered_at
  offered_low b low m =
      let at = next_bound j v (t + m) - t in
      rw (offered_at_lem m)
      (cond_both (λ y. y ≤ b + word) (fits j v (t + m)) (omega (arith, raised_low (get_or scores at 0) word, low at)) (omega arith))

  -- from the due minute on a version that is read offers the same: the close counts only by the end of the stretch
  pub offered_level : {minutes : ℕ} → v.minutes ≡ Some minutes → (e m : ℕ) → e ≡ due_entry j t (length scores) →
      e < length scores → e ≤ m → offered j k t scores e ≡ offered j k t scores m
  unfolding offered_at fits
  offered_level read e m due inside over =
      let same : end_of j (t + e) ≡ end_of j (t + m) = omega arith in
      rw (offered_at_lem e, offered_at_lem m, bound_read j v (t + e) read, bound_read j v (t + m) read, read, same)

  -- the jobs before have a choice from entry f on
  module _ (ready : t ≤ j.ready) {f : ℕ} (starts : Starts f scores) where
    raised_none : (i : ℕ) → i < f → raised (get_or scores i 0) word ≡ 0
    raised_none i l = rw (starts.none i l)

    raised_some : (i : ℕ) → f ≤ i → i < length scores → raised (get_or scores i 0) word ≡ get_or scores i 0 + word
    raised_some i l u = let some = starts.some i l u in rw (ne_eqb (get_or scores i 0) 0 (λ e. omega arith))

    -- set aside
    module _ (aside : v.minutes ≡ None) where
      offered_aside : (m : ℕ) → offered j k t scores m ≡ raised (get_or scores m 0) word
      unfolding offered_at fits
      offered_aside m =
          let at : t + m - t ≡ m = omega arith in
          rw (offered_at_lem m, bound_aside j v (t + m) aside, at, aside)

    -- read: by the end of its stretch, against the earliest that it can have
    module _ {minutes : ℕ} (read : v.minutes ≡ Some minutes) where
      abbrev first : ℕ
      first = max (j.ready - t) f + minutes

      end_none : (m : ℕ) → end_of j (t + m) < t + first → offered j k t scores m ≡ 0
      unfolding offered_at
      end_none m late = offered_at_lem m ∙ by_fit (fits j v (t + m)) refl
        where
          by_fit : (q : Bool) → fits j v (t + m) ≡ q → cond q (raised (get_or scores (next_bound j v (t + m) - t) 0) word) 0 ≡ 0
          by_fit true fit =
              let early = fits_read j v (t + m) fit read in
              raised_none (next_bound j v (t + m) - t) (omega (arith, bound_read j v (t + m) read))
          by_fit false fit = refl

      end_some : (m : ℕ) → m < length scores → t + first ≤ end_of j (t + m) →
          offered j k t scores m ≡ get_or scores (end_of j (t + m) - minutes - t) 0 + word
      unfolding offered_at fits
      end_some m inside early =
          rw (offered_at_lem m, bound_read j v (t + m) read, read, le-leb (j.ready + minutes) (end_of j (t + m)) (omega arith))
          (raised_some (end_of j (t + m) - minutes - t) (omega arith) (omega arith))

      -- its first entry is the earliest end, unless the due minute is before that
      first_cases :
          ((t + first ≤ j.due) × (first_offer j v t f (length scores) ≡ first))
          ⊎ ((j.due < t + first) × (first_offer j v t f (length scores) ≡ length scores))
      first_cases =
          elim (dec_le (t + first) j.due) [
            | yes early ↦ inl (early, first_early j v t f (length scores) read early)
            | no late ↦ inr (omega arith, first_late j v t f (length scores) read (omega arith))
          ]

      read_before : (m : ℕ) → m < length scores → m < first_offer j v t f (length scores) → offered j k t scores m ≡ 0
      read_before m inside l =
          ⊎_elim (λ c. end_none m (omega (arith, c))) (λ c. end_none m (omega (arith, c))) first_cases

      read_from : (m : ℕ) → m < length scores → first_offer j v t f (length scores) ≤ m → 0 < offered j k t scores m
      read_from m inside u =
          ⊎_elim
          (λ c.
          let early : t + first ≤ end_of j (t + m) = omega (arith, c) in
          omega (
            arith,
            end_some m inside early,
            starts.some (end_of j (t + m) - minutes - t) (omega arith) (omega arith),
          ))
          (λ c. absurd (omega (arith, c)))
          first_cases

      -- up to the due minute it starts its minutes before the close
      read_shifted : (m : ℕ) → m < length scores → first_offer j v t f (length scores) ≤ m → t + m ≤ j.due →
          shifted scores minutes word m ≡ offered j k t scores m
      read_shifted m inside u low =
          let end : end_of j (t + m) ≡ t + m = omega arith in
          let at : t + m - minutes - t ≡ m - minutes = omega arith in
          ⊎_elim (λ c. sym (rw (end, at) at (end_some m inside (omega (arith, c))))) (λ c. absurd (omega (arith, c))) first_cases

    -- by whether it is read
    abbrev begins : ℕ
    begins = first_offer j v t f (length scores)

    -- a version is offered from its first entry on, and not before
    pub offered_before : (m : ℕ) → m < length scores → m < begins → offered j k t scores m ≡ 0
    offered_before m inside l = by_minutes v.minutes refl
      where
        by_minutes : (o : Option ℕ) → v.minutes ≡ o → offered j k t scores m ≡ 0
        by_minutes (Some minutes) read = read_before read m inside l
        by_minutes None aside = offered_aside aside m ∙ raised_none m (omega (arith, first_aside j v t f (length scores) aside))

    pub offered_from : (m : ℕ) → m < length scores → begins ≤ m → 0 < offered j k t scores m
    offered_from m inside u = by_minutes v.minutes refl
      where
        by_minutes : (o : Option ℕ) → v.minutes ≡ o → 0 < offered j k t scores m
        by_minutes (Some minutes) read = read_from read m inside u
        by_minutes None aside =
            let some = raised_some m (omega (arith, first_aside j v t f (length scores) aside)) inside in
            let more = starts.some m (omega (arith, first_aside j v t f (length scores) aside)) inside in
            omega (arith, offered_aside aside m, some)

    -- it starts at the opening or later
    pub begins_high : begins < length scores → minutes_of v ≤ begins
    begins_high inside = by_minutes v.minutes refl
      where
        by_minutes : (o : Option ℕ) → v.minutes ≡ o → minutes_of v ≤ begins
        by_minutes (Some minutes) read =
            ⊎_elim (λ c. omega (arith, c, minutes_read v read)) (λ c. absurd (omega (arith, c))) (first_cases read)
        by_minutes None aside = let none : minutes_of v ≡ 0 = rw aside in omega (arith, none)

    -- what is taken from the first entry on is taken from 0 on
    taken_whole : (minutes b : ℕ) → b ≤ length scores →
        ((m : ℕ) → begins ≤ m → m < b → shifted scores minutes word m ≡ offered j k t scores m) →
        {words words' : List ℕ} → Taken (shifted scores minutes word) begins b words words' →
        Taken (offered j k t scores) 0 b words words'
    taken_whole minutes b most same {words} h =
        patched_widen (patched_same h (λ m l u. ap (max (get_or words m 0)) (same m l u))) 0 b (λ m l u. (omega arith, u))
        (λ m l u.
        ⊎_elim (λ out. omega (arith, offered_before m (omega arith) out)) (λ out. absurd (omega arith)))

    module _ (e : ℕ) (due : e ≡ due_entry j t (length scores)) where
      -- what `offer` takes
      pub offer_taken : {words words' : List ℕ} →
          Taken (shifted scores (minutes_of v) word) begins (cond (is_some v.minutes) e (length scores)) words words' →
          Taken (offered j k t scores) 0 (cond (is_some (version_of j k).minutes) e (length scores)) words words'
      offer_taken {words} {words'} h = rw (← is) (by_minutes v.minutes refl h)
        where
          by_minutes : (o : Option ℕ) → v.minutes ≡ o →
              Taken (shifted scores (unwrap_or o 0) word) begins (cond (is_some o) e (length scores)) words words' →
              Taken (offered j k t scores) 0 (cond (is_some o) e (length scores)) words words'
          by_minutes (Some minutes) read =
              taken_whole minutes e (omega arith) (λ m l u. read_shifted read m (omega arith) l (omega arith))
          by_minutes None aside =
              taken_whole 0 (length scores) (omega arith)
              (λ m l u.
              let at : m - 0 ≡ m = omega arith in
              rw at (sym (offered_aside aside m ∙ raised_some m (omega (arith, first_aside j v t f (length scores) aside)) u)))

      -- what `due_offer` answers
      pub due_offered : {minutes : ℕ} → v.minutes ≡ Some minutes → e < length scores →
          due_offer v k begins e scores ≡ offered j k t scores e
      due_offered read inside =
          elim (dec_le begins e) [
            | yes l ↦ due_passes v k begins e scores read l inside ∙ read_shifted read e inside l (due_minute l)
            | no l ↦
                due_fails v k begins e scores (inl (omega arith))
                ∙ sym (offered_before e inside (omega arith))
          ]
        where
          due_minute : begins ≤ e → t + e ≤ j.due
          due_minute l = ⊎_elim (λ c. omega (arith, c)) (λ c. absurd (omega (arith, c))) (first_cases read)
