-- The jobs of a week's list that is not refused: choices of them, and the table that has a row for each.
use Prim.Native.Nat.{ℕ, zero, suc, ◌-◌, ◌*◌, ◌≤◌, ◌<◌}
use native.Mathlib.Omega.{arith}
use mathlib.Core.Path.{◌≡◌, ap, ◌∙◌}
use mathlib.Core.List.{List}
use lib.ListN.{get_or, take}
use lib.Seq.{length-take-le, get_or-take}
use Rattle.arrays.specs.Made.{placed}
use Rattle.arrays.proofs.Places.{backward-take}
use Rattle.arrays.proofs.Tabulates.{tabulate_at}
use Rattle.arrays.specs.Bits.{max16}
use Rattle.jobs.specs.declared.model.Version.{Version}
use Rattle.jobs.specs.declared.model.Job.{Job}
use Rattle.jobs.specs.declared.model.JobList.{JobList}
use Rattle.jobs.specs.Model.{max_versions, no_version, no_job, version_of}
use Rattle.jobs.specs.Choice.{Valid, total}
use Rattle.jobs.specs.Contract.{Names, Answerable}
use Rattle.jobs.proofs.ChoiceArrays.{valid_names, named_version}
use Rattle.jobs.proofs.Totals.{total_bound}
use Rattle.select.specs.Word.{Packable}
use Rattle.select.specs.Contract.{Fillable}
use Rattle.week.specs.declared.record.Batch.{Batch}
use Rattle.week.specs.Record.{Week, max_batches, max_recipes, batch_at}
use Rattle.week.specs.Ordered.{ordered_week}
use Rattle.judge.proofs.Sound.{Sound, Named}
use Rattle.week.proofs.Owned.{WorthsFit}
use Rattle.planner.specs.Job.{version_from, job_from, listed_jobs, job_list_of, week_jobs, week_choice, list_choice}
use Rattle.planner.specs.Choose.{width_of}

-- the jobs of a list that is in order are those of the week
pub ordered_jobs : (w : Week) {v : Week} {jobs : JobList} → v ≡ ordered_week w → jobs ≡ listed_jobs v → jobs ≡ job_list_of w
ordered_jobs w list is = is ∙ ap listed_jobs list

-- the first bytes of an array that hold a choice hold that choice
pub list_choice_lem : (w : Week) (bytes : List ℕ) → week_choice w (list_choice w bytes) ≡ week_choice w bytes
list_choice_lem w bytes = backward-take 0 bytes w.count w.count (omega arith)

pub version_at_lem : (t : ℕ) (b : Batch) (k : ℕ) → 1 ≤ k → k ≤ max_recipes → version_of (job_from t b) k ≡ version_from b (k - 1)
version_at_lem t b zero low high = absurd (omega arith)
version_at_lem t b (suc k) low high =
    let e : suc k - 1 ≡ k = omega arith in
    rw e (tabulate_at (version_from b) max_recipes k no_version (omega arith))

module _ (w : Week) (sound : Sound (ordered_week w)) where
  pub job_at_lem : (i : ℕ) → i < w.count → get_or (job_list_of w).jobs i no_job ≡ job_from w.opening (batch_at (ordered_week w) i)
  job_at_lem i l = tabulate_at (λ i. job_from w.opening (batch_at (ordered_week w) i)) max_batches i no_job (omega (arith, sound.most))

  count_at : (i : ℕ) → i < w.count → (get_or (job_list_of w).jobs i no_job).count ≡ (batch_at (ordered_week w) i).count
  count_at i l = ap (λ (j : Job). j.count) (job_at_lem i l)

  few_versions : (i : ℕ) → i < w.count → (get_or (job_list_of w).jobs i no_job).count ≤ max_versions
  few_versions i l = omega (arith, count_at i l, sound.few i l)

  -- a choice that is handed in names a version of each job
  pub handed_names : {choice : List ℕ} → Named (ordered_week w) choice → Names (job_list_of w) choice
  handed_names named =
      record {
        most = sound.most;
        whole = omega (arith, named.whole);
        each = λ i l. ((named.each i l).0, omega (arith, count_at i l, (named.each i l).1));
        few = few_versions;
      }

  -- and an array that names one of its versions for each job is, as far as the list goes, a choice that can be handed in
  pub names_handed : {array : List ℕ} → Names (job_list_of w) array → Named (ordered_week w) (take w.count array)
  names_handed {array} names =
      record {
        whole = length-take-le w.count array names.whole;
        each = λ i l.
            rw (get_or-take w.count array i 0 l) ((names.each i l).0, omega (arith, count_at i l, (names.each i l).1));
      }

  -- a choice of the jobs, in list order, names a version of each
  pub plan_names : (ks : List ℕ) → Valid (week_jobs w) ks → Names (job_list_of w) (placed max_batches 0 ks)
  plan_names ks valid = valid_names (job_list_of w) ks valid sound.most few_versions

  -- each worth has 16 bits
  module _ (fit : WorthsFit (ordered_week w)) where
    worth_at : (i k : ℕ) → i < w.count → 1 ≤ k → k ≤ max_recipes → (version_of (get_or (job_list_of w).jobs i no_job) k).worth ≤ max16
    worth_at i k l low high =
        omega (
          arith,
          ap (λ (j : Job). (version_of j k).worth) (job_at_lem i l),
          ap (λ (v : Version). v.worth) (version_at_lem w.opening (batch_at (ordered_week w) i) k low high),
          fit i (k - 1) (omega (arith, sound.most)) (omega arith),
        )

    -- so that the programme's words have room for it
    pub packable : (i : ℕ) → i < w.count → Packable (get_or (job_list_of w).jobs i no_job)
    packable i l k low high = omega (arith, worth_at i k l low (omega (arith, few_versions i l)))

    -- and the total of a choice is at most 1,048,560, which 32 bits hold
    module _ {choice : List ℕ} (names : Names (job_list_of w) choice) where
      pub total_small : total (week_jobs w) (week_choice w choice) ≤ max_batches * max16
      total_small =
          omega (
            arith,
            total_bound (job_list_of w).jobs choice max16 w.count
                (λ i l. let named = named_version names i l in worth_at i (get_or choice i 0) l named.0 named.1),
            sound.most,
          )

      pub answerable : Answerable (job_list_of w) choice
      answerable = record { names = names; small = omega (arith, total_small) }

  -- a table that is long enough has a row for each job
  pub fillable : (size : ℕ) → w.count * width_of w ≤ size → Fillable (job_list_of w) w.opening (width_of w) size
  fillable size long =
      record {
        most = sound.most;
        few = few_versions;
        ready = λ i l. omega (arith, ap (λ (j : Job). j.ready) (job_at_lem i l));
        wide = omega (arith, sound.short);
        long = long;
      }
