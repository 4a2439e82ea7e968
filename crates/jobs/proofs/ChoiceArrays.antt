-- A choice as an array in list order, and as a list with the last job's version first: how the two say the same.
use Prim.Native.Nat.{ℕ, zero, suc, ◌≤◌, ◌<◌}
use native.Mathlib.Decide.{ℕ_discrete}
use native.Mathlib.Omega.{arith}
use mathlib.Core.Path.{◌≡◌, ◌∙◌}
use mathlib.Core.List.{List}
use lib.ListN.{length, get_or}
use Rattle.arrays.specs.Position.{backward}
use Rattle.arrays.specs.Made.{placed}
use Rattle.arrays.specs.Each.{OneOfEach}
use Rattle.arrays.proofs.Places.{length_backward, length_placed, backward_placed}
use Rattle.jobs.specs.declared.model.Job.{Job}
use Rattle.jobs.specs.declared.model.JobList.{JobList}
use Rattle.jobs.specs.Model.{max_jobs, max_versions, no_job, jobs_of, chosen}
use Rattle.jobs.specs.Choice.{Valid}
use Rattle.jobs.specs.Contract.{Names}
use Rattle.jobs.proofs.Rules.{valid-length}

module _ (jobs : List Job) (choice : List ℕ) where
  -- the first n places each name one of their job's versions
  abbrev Each : ℕ → Type 0
  Each n = OneOfEach n (λ i. (get_or jobs i no_job).count) choice

  each_valid : (n : ℕ) → Each n → Valid (backward no_job jobs n) (backward 0 choice n)
  each_valid zero each = tt
  each_valid (suc n) each =
      let last = each n (omega arith) in
      (last.0, last.1, each_valid n (λ i l. each i (omega arith)))

  valid_each : (n : ℕ) → Valid (backward no_job jobs n) (backward 0 choice n) → Each n
  valid_each zero valid i below = absurd (omega arith)
  valid_each (suc n) valid i below =
      elim (ℕ_discrete i n) [
        | yes e ↦ rw e (valid.0, valid.1)
        | no other ↦ valid_each n valid.2 i (omega arith)
      ]

-- an array that names one of its versions for each job is a choice of the jobs
pub names_valid : {list : JobList} {choice : List ℕ} → Names list choice → Valid (jobs_of list) (chosen list choice)
names_valid {list} {choice} names = each_valid list.jobs choice list.count names.each

-- and names versions 1 to 10
pub named_version : {list : JobList} {choice : List ℕ} → Names list choice → OneOfEach list.count (λ i. max_versions) choice
named_version names i below =
    let each = names.each i below in
    (each.0, omega (arith, each.1, names.few i below))

module _ (list : JobList) (ks : List ℕ) (valid : Valid (jobs_of list) ks) where
  pub length_choice : length ks ≡ list.count
  length_choice = valid-length (jobs_of list) ks valid ∙ length_backward no_job list.jobs list.count

  -- the array of a choice holds that choice
  pub chosen_placed : chosen list (placed max_jobs 0 ks) ≡ ks
  chosen_placed = rw (← length_choice) (backward_placed max_jobs 0 ks)

  -- and names one of its versions for each job
  pub valid_names : list.count ≤ max_jobs → ((i : ℕ) → i < list.count → (get_or list.jobs i no_job).count ≤ max_versions) →
      Names list (placed max_jobs 0 ks)
  valid_names most few =
      record {
        most = most;
        whole = omega (arith, length_placed max_jobs 0 ks (omega (arith, length_choice)));
        each = valid_each list.jobs (placed max_jobs 0 ks) list.count (rw chosen_placed valid);
        few = few;
      }
