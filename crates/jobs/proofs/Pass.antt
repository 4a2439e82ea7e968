-- The pass of the rule over a choice, from the last job to the first: what holds before each job.
use Prim.Native.Nat.{ℕ, suc, ◌+◌, ◌≤◌}
use native.Mathlib.Numerals.{add-one}
use native.Mathlib.Omega.{arith}
use mathlib.Core.Path.{◌≡◌, refl, sym, ap, subst, ◌∙◌}
use mathlib.Core.Bool.{true, false}
use mathlib.Core.List.{List}
use lib.ListN.{length, get_or, set, replicate}
use Rattle.std.specs.Prelude.{Ok, Err}
use Rattle.arrays.specs.Position.{backward}
use Rattle.arrays.proofs.Places.{length_backward, length_placed, placed_beyond, backward_placed, replicate_at}
use Rattle.arrays.proofs.Stores.{Filled, filled_step, filled_all}
use Rattle.jobs.specs.declared.model.Version.{Version}
use Rattle.jobs.specs.declared.model.Job.{Job}
use Rattle.jobs.specs.declared.rule.Stretch.{Stretch}
use Rattle.jobs.specs.Model.{max_jobs, no_job, version_of}
use Rattle.jobs.specs.Rule.{stretch_of, fits, next_bound, failing, stretches}
use Rattle.jobs.specs.Stretches.{no_stretch, stretches_of}
use Rattle.jobs.specs.Contract.{stretched}
use Rattle.jobs.proofs.Rules.{length_stretches, stretched_meets, stretched_fails}

-- the jobs and the choice are arrays of which the first n count
module _ (jobs : List Job) (choice : List ℕ) (close n : ℕ) where
  -- the stretches of the whole choice, and the array that holds them
  abbrev all : List Stretch
  all = stretches (backward no_job jobs n) close (backward 0 choice n)

  abbrev whole : List Stretch
  whole = stretches_of (backward no_job jobs n) close (backward 0 choice n)

  -- before job i: what the rule says of the whole is what it says of the first i jobs under the bound
  pub record Pass (array : List Stretch) (bound i : ℕ) : Type 0 where
    pub low : i ≤ n
    pub fails :
        failing (backward no_job jobs n) close (backward 0 choice n) ≡ failing (backward no_job jobs i) bound (backward 0 choice i)
    pub rest : backward no_stretch whole i ≡ stretches (backward no_job jobs i) bound (backward 0 choice i)
    pub filled : Filled no_stretch whole (λ k. i ≤ k) array

  pub length_all : length all ≡ n
  length_all =
      let same = length_backward no_job jobs n in
      length_stretches (backward no_job jobs n) close (backward 0 choice n) (length_backward 0 choice n ∙ sym same) ∙ same

  pub placed_stretches : backward no_stretch whole n ≡ all
  placed_stretches = subst (λ (i : ℕ). backward no_stretch whole i ≡ all) length_all (backward_placed max_jobs no_stretch all)

  length_whole : n ≤ max_jobs → length whole ≡ max_jobs
  length_whole most = length_placed max_jobs no_stretch all (omega (arith, length_all))

  -- at the start nothing is placed
  pub pass_start : n ≤ max_jobs → Pass (replicate max_jobs no_stretch) close n
  pass_start most =
      record {
        low = omega arith;
        fails = refl;
        rest = placed_stretches;
        filled = record {
          size = sym (length_whole most);
          done = λ k from.
              replicate_at max_jobs no_stretch k ∙ sym (placed_beyond max_jobs no_stretch all k (omega (arith, length_all)));
        };
      }

module _
    {jobs : List Job} {choice : List ℕ} {close n : ℕ} {array : List Stretch} {bound i : ℕ}
    (h : Pass jobs choice close n array bound i)
  where
    -- one job, in place `at` of the array: v is the version that the choice names
    module _ (at : ℕ) (last : i ≡ suc at) {v : Version} (named : v ≡ version_of (get_or jobs at no_job) (get_or choice at 0)) where
      here : Pass jobs choice close n array bound (suc at)
      here = subst (λ (k : ℕ). Pass jobs choice close n array bound k) last h

      -- the version fits: s is its stretch
      pub pass_step : n ≤ max_jobs → fits (get_or jobs at no_job) v bound ≡ true →
          {s : Stretch} → s ≡ stretch_of (get_or jobs at no_job) v bound →
          Pass jobs choice close n (set array at s) s.start at
      unfolding next_bound
      pass_step most fit {s} kept =
          let next : next_bound (get_or jobs at no_job) v bound ≡ s.start = ap (λ (q : Stretch). q.start) (sym kept) in
          record {
            low = omega (arith, here.low);
            fails = rw (← named, fit, next) at here.fails;
            rest = cc here.rest;
            filled =
                filled_step no_stretch (whole jobs choice close n) (λ k. suc at ≤ k) (λ k. at ≤ k) at array s
                (omega (arith, length_whole jobs choice close n most, here.low)) (cc here.rest) (λ k q n. omega arith)
                here.filled;
          }

      -- it does not: the rule's answer is the position, counted from 1
      pub pass_fails : fits (get_or jobs at no_job) v bound ≡ false →
          Err (record { position = at + 1 }) ≡ stretched (backward no_job jobs n) close (backward 0 choice n)
      pass_fails unfit =
          rw add-one
          (sym (stretched_fails _ _ _ at ((rw (← named, unfit) at here.fails) ∙ ap suc (length_backward no_job jobs at))))

    -- no job is left: the rule's answer is the array
    pub pass_end : i ≡ 0 → Ok array ≡ stretched (backward no_job jobs n) close (backward 0 choice n)
    pass_end first =
        let end : Pass jobs choice close n array bound 0 = subst (λ (k : ℕ). Pass jobs choice close n array bound k) first h in
        rw (
          stretched_meets _ _ _ end.fails,
          filled_all no_stretch (whole jobs choice close n) (λ k. 0 ≤ k) array (λ k l. omega arith) end.filled,
        )
