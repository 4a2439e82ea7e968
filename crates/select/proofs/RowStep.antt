-- A row with one version more: its offers are taken, the level is raised, and the words start no later.
use Prim.Native.Nat.{ℕ, ◌+◌, ◌≤◌, ◌<◌, max, min}
use native.Mathlib.Decide.{dec_lt}
use native.Mathlib.Numerals.{add-one}
use native.Mathlib.Omega.{arith}
use mathlib.Core.Path.{◌≡◌, refl, ap, ◌∙◌}
use mathlib.Core.Logic.{◌⊎◌, inl, inr, ⊎_elim}
use mathlib.Core.Bool.{cond}
use mathlib.Core.List.{List}
use lib.ListN.{length, get_or, take}
use Rattle.std.specs.Prelude.{Option, Some, None, is_some}
use Rattle.arrays.proofs.Cases.{cond_both}
use Rattle.arrays.proofs.Patches.{patched_all}
use Rattle.jobs.specs.declared.model.Version.{Version}
use Rattle.jobs.specs.declared.model.Job.{Job}
use Rattle.jobs.specs.Model.{no_version, version_of, minutes_of}
use Rattle.select.specs.Word.{word_of}
use Rattle.select.specs.Row.{offered, first_offer, shifted, Offerable, due_offer, Taken}
use Rattle.select.proofs.Slices.{front_at}
use Rattle.select.proofs.OfferAnswers.{due_aside, due_fails}
use Rattle.select.proofs.Offers.{offered_low, offered_level, offered_before, offered_from, begins_high, offer_taken}
use Rattle.select.proofs.Offers.{due_offered}
use Rattle.select.proofs.Cells.{cell_step}
use Rattle.select.proofs.Rows.{Ready, Bounded, word_at, at_early, at_late, Row}

-- a version of a job's list, counted from 0
pub listed : (j : Job) (k : ℕ) → k < length (take j.count j.versions) →
    (k < j.count) × (get_or (take j.count j.versions) k no_version ≡ version_of j (k + 1))
listed j k more =
    let here = front_at no_version j.count j.versions k more in
    (here.0, rw add-one here.1)

module _
    {j : Job} {t e f : ℕ} {scores : List ℕ} (job : Ready j t e f scores)
    {words : List ℕ} {level next k : ℕ} (h : Row j t e scores words level next k)
  where
    -- one version more, which is v
    module _ (more : k < j.count) {v : Version} (is : v ≡ version_of j (k + 1)) where
      abbrev offer : ℕ → ℕ
      offer = offered j (k + 1) t scores

      abbrev first : ℕ
      first = first_offer j v t f (length scores)

      abbrev due : ℕ
      due = due_offer v (k + 1) first e scores

      offer_low : (m : ℕ) → Bounded scores (offer m)
      offer_low m b below =
          omega (arith, offered_low j (k + 1) t scores refl b below m, job.packable (k + 1) (omega arith) (omega arith))

      -- it offers at the due minute what it offers there, or nothing
      due_cases : (due ≡ offer e) ⊎ (due ≡ 0)
      due_cases =
          elim (dec_lt e (length scores)) [
            | yes l ↦ by_minutes l v.minutes refl
            | no l ↦ inr (due_fails v (k + 1) first e scores (inr (omega arith)))
          ]
        where
          by_minutes : e < length scores → (o : Option ℕ) → v.minutes ≡ o → (due ≡ offer e) ⊎ (due ≡ 0)
          by_minutes l (Some minutes) read = inl (due_offered j (k + 1) t scores is job.ready job.starts e job.due read l)
          by_minutes l None aside = inr (due_aside v (k + 1) first e scores aside)

      due_low : Bounded scores due
      due_low b below = ⊎_elim (λ c. omega (arith, c, offer_low e b below)) (λ c. omega (arith, c)) due_cases

      module _
          {words' : List ℕ}
          (taken : Taken offer 0 (cond (is_some (version_of j (k + 1)).minutes) e (length scores)) words words')
          {level' : ℕ} (raised : level' ≡ max level due)
        where
          -- from the due minute on, where a version that is read offers the same
          late_step : (o : Option ℕ) → v.minutes ≡ o → Taken offer 0 (cond (is_some o) e (length scores)) words words' →
              (m : ℕ) → e ≤ m → m < length scores → max (get_or words' m 0) level' ≡ max (max (get_or words m 0) level) (offer m)
          late_step (Some minutes) read h m l u =
              let same = offered_level j (k + 1) t scores is read e m job.due (omega arith) l in
              let at = due_offered j (k + 1) t scores is job.ready job.starts e job.due read (omega arith) in
              omega (arith, h.kept m (λ i. omega arith), same, at)
          late_step None aside h m l u =
              omega (arith, h.done m (omega arith) u, due_aside v (k + 1) first e scores aside)

          step_at : (m : ℕ) → m < length scores → word_at e words' level' m ≡ max (word_at e words level m) (offer m)
          step_at m u =
              elim (dec_lt m e) [
                | yes l ↦
                    omega (
                      arith,
                      at_early e words level m l,
                      at_early e words' level' m l,
                      taken.done m (omega arith) (cond_both (λ b. m < b) (is_some (version_of j (k + 1)).minutes) l u),
                    )
                | no l ↦
                    omega (
                      arith,
                      at_late e words level m (omega arith),
                      at_late e words' level' m (omega arith),
                      late_step (version_of j (k + 1)).minutes (ap (λ (u : Version). u.minutes) is) taken m (omega arith) u,
                    )
              ]

          row_more : Row j t e scores words' level' (min next first) (k + 1)
          row_more =
              record {
                most = omega arith;
                size = taken.size ∙ h.size;
                inside = omega (arith, h.inside);
                worded = λ m u js scored.
                    step_at m u
                    ∙ rw add-one
                    (cell_step j js t (length scores) scores m job.ready scored u k (omega (arith, job.few))
                    (h.worded m u js scored));
                none = λ m l.
                    let u : m < length scores = omega (arith, h.inside) in
                    omega (
                      arith,
                      step_at m u,
                      h.none m (omega arith),
                      offered_before j (k + 1) t scores is job.ready job.starts m u (omega arith),
                    );
                some = λ m l u.
                    elim (dec_lt m next) [
                      | yes early ↦
                          omega (
                            arith,
                            step_at m u,
                            offered_from j (k + 1) t scores is job.ready job.starts m u (omega arith),
                          )
                      | no late ↦ omega (arith, step_at m u, h.some m (omega arith) u)
                    ];
                low =
                    patched_all taken (Bounded scores) (λ m b below. omega (arith, h.low m b below, offer_low m b below)) h.low;
                low_level = λ b below. omega (arith, raised, h.low_level b below, due_low b below);
              }

      -- by what the functions answer
      module _ {start : ℕ} (begins : start ≡ first) where
        pub first_high : start < length scores → minutes_of v ≤ start
        first_high = rw begins (begins_high j (k + 1) t scores is job.ready job.starts)

        -- what `offer` and `due_offer` ask of the version
        pub version_asked : Offerable v (k + 1) start (length scores)
        version_asked =
            (rw is (job.packable (k + 1) (omega arith) (omega arith)), omega arith, omega (arith, job.few), first_high)

        pub row_step : {words' : List ℕ} →
            Taken (shifted scores (minutes_of v) (word_of v.worth (k + 1))) start (cond (is_some v.minutes) e (length scores)) words
            words' →
            {level' : ℕ} → level' ≡ max level (due_offer v (k + 1) start e scores) →
            {next' : ℕ} → next' ≡ min next start → Row j t e scores words' level' next' (k + 1)
        row_step taken raised least =
            rw (least, begins)
            (row_more
            (offer_taken j (k + 1) t scores is job.ready job.starts e job.due (rw begins at taken))
            (rw begins at raised))

    -- what `offer` and `due_offer` ask, of the version at index k of the job's list
    pub version_listed : k < length (take j.count j.versions) → {start : ℕ} →
        start ≡ first_offer j (get_or (take j.count j.versions) k no_version) t f (length scores) →
        Offerable (get_or (take j.count j.versions) k no_version) (k + 1) start (length scores)
    version_listed more begins = let is = listed j k more in version_asked is.0 is.1 begins
