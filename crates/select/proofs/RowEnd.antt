-- A row after the last version: the words are raised to the level and taken apart into the scores and the picks.
use Prim.Native.Nat.{ℕ, ◌+◌, ◌*◌, ◌≤◌, ◌<◌}
use native.Mathlib.Decide.{dec_lt}
use native.Mathlib.Omega.{arith}
use mathlib.Core.Path.{◌≡◌, refl, sym, ap, ◌∙◌}
use mathlib.Core.List.{List, ◌∷◌, map}
use lib.ListN.{length, get_or, length-map}
use lib.Seq.{ext_get_or}
use Rattle.arrays.proofs.Tabulates.{length_tabulate, tabulate_from}
use Rattle.arrays.proofs.Patches.{patched_all}
use Rattle.arrays.proofs.Maps.{map_at}
use Rattle.jobs.specs.declared.model.Job.{Job}
use Rattle.jobs.specs.Choice.{total}
use Rattle.jobs.specs.Best.{pick}
use Rattle.jobs.proofs.Programme.{best_step}
use Rattle.select.specs.Word.{radix, word_by, score_part, version_part}
use Rattle.select.specs.Row.{score, Taken, Scored, FilledRow}
use Rattle.select.proofs.Words.{word_some, word_score, word_version}
use Rattle.select.proofs.Cells.{best_of, last_best}
use Rattle.select.proofs.Rows.{Ready, Bounded, word_at, at_early, at_late, Row}

module _
    {j : Job} {t e f : ℕ} {scores : List ℕ} (job : Ready j t e f scores)
    {words : List ℕ} {level next k : ℕ} (h : Row j t e scores words level next k)
  where
    -- every version, the words raised to the level and taken apart
    module _ (all : j.count ≤ k) {words' : List ℕ} (levelled : Taken (λ m. level) e (length words) words words') where
      whole : length words' ≡ length scores
      whole = levelled.size ∙ h.size

      end_at : (m : ℕ) → m < length scores → get_or words' m 0 ≡ word_at e words level m
      end_at m u =
          elim (dec_lt m e) [
            | yes l ↦ levelled.kept m (λ i. omega arith) ∙ sym (at_early e words level m l)
            | no l ↦ levelled.done m (omega arith) (omega (arith, h.size)) ∙ sym (at_late e words level m (omega arith))
          ]

      bounded : (m : ℕ) → Bounded scores (get_or words' m 0)
      bounded =
          patched_all levelled (Bounded scores) (λ m b below. omega (arith, h.low m b below, h.low_level b below)) h.low

      module _ (js : List Job) (known : Scored js t (length scores) scores) (m : ℕ) (inside : m < length scores) where
        exact : k ≡ j.count
        exact = omega (arith, h.most)

        few : k < radix
        few = omega (arith, job.few, h.most)

        worded : get_or words' m 0 ≡ word_by (total (j ∷ js)) (best_of j js (t + m) k)
        worded = end_at m inside ∙ h.worded m inside js known

        score_at : score_part (get_or words' m 0) ≡ score (j ∷ js) (t + m) * radix
        score_at =
            rw (exact, ← best_step j js (t + m)) at
            (ap score_part worded ∙ word_score (total (j ∷ js)) k few (best_of j js (t + m) k) (last_best j js (t + m) k))

        pick_at : version_part (get_or words' m 0) ≡ pick (j ∷ js) (t + m)
        pick_at =
            rw (exact, ← best_step j js (t + m)) at
            (ap version_part worded ∙ word_version (total (j ∷ js)) k few (best_of j js (t + m) k) (last_best j js (t + m) k))

        some_at : next ≤ m → 0 < score_part (get_or words' m 0)
        some_at l =
            let best = best_of j js (t + m) k in
            let part = word_score (total (j ∷ js)) k few best (last_best j js (t + m) k) in
            let more = word_some (total (j ∷ js)) best (omega (arith, worded, end_at m inside, h.some m l inside)) in
            omega (arith, ap score_part worded, part)

      pub row_end : {scores' picks : List ℕ} → scores' ≡ map score_part words' → picks ≡ map version_part words' →
          FilledRow j t (length scores) scores next scores' picks
      row_end scored picked =
          rw (scored, picked)
          record {
            size = size;
            scored = λ js known m inside. map_at score_part refl words' m ∙ score_at js known m inside;
            starts = λ js known.
                record {
                  most = omega (arith, size, h.inside);
                  none = λ m l.
                      map_at score_part refl words' m
                      ∙ ap score_part (end_at m (omega (arith, h.inside)) ∙ h.none m l);
                  some = λ m l u.
                      let inside : m < length scores = omega (arith, size) in
                      omega (arith, map_at score_part refl words' m, some_at js known m inside l);
                };
            picked = λ js known.
                ext_get_or 0 _ _ (length-map words' version_part ∙ whole ∙ sym (length_tabulate (pick (j ∷ js)) t (length scores)))
                (λ m l.
                let inside : m < length scores = omega (arith, length-map words' version_part, whole) in
                map_at version_part refl words' m ∙ pick_at js known m inside
                ∙ sym (tabulate_from (pick (j ∷ js)) t (length scores) m 0 inside));
            low = λ b below m. omega (arith, map_at score_part refl words' m, bounded m b below);
          }
        where
          size : length (map score_part words') ≡ length scores
          size = length-map words' score_part ∙ whole
