-- Laws of the rule: what a job that fits leaves of the bound, where a choice fails, how many stretches it has, the answer.
use Prim.Native.Nat.{ℕ, suc, ◌+◌, ◌-◌, ◌≤◌}
use native.Mathlib.Omega.{arith}
use mathlib.Core.Path.{◌≡◌, refl, ap}
use mathlib.Core.Logic.{◌↔◌}
use mathlib.Core.Bool.{Bool, true, false, cond, ◌&&◌, false≢true}
use mathlib.Core.List.{List, [], ◌∷◌}
use lib.ListN.{length}
use lib.Dec.{eqb-suc-zero}
use borrow.Author.Tests.{leb-true}
use Rattle.std.specs.Prelude.{Option, Some, None, Ok, Err}
use Rattle.jobs.specs.declared.model.Version.{Version}
use Rattle.jobs.specs.declared.model.Job.{Job}
use Rattle.jobs.specs.Model.{version_of}
use Rattle.jobs.specs.Rule.{end_of, stretch_of, fits, next_bound, meets, failing, stretches}
use Rattle.jobs.specs.Choice.{Valid}
use Rattle.jobs.specs.Stretches.{stretches_of}
use Rattle.jobs.specs.Contract.{stretched}

-- a version that is read and fits: its minutes lie between the job's ready minute and the end of its stretch
pub fits_read : (j : Job) (v : Version) (x : ℕ) → fits j v x ≡ true → {m : ℕ} → v.minutes ≡ Some m → j.ready + m ≤ end_of j x
unfolding fits
fits_read j v x h r = leb-true _ _ (rw (r, fits) at h)

-- the bound that a version leaves, by whether it is read
pub bound_read : (j : Job) (v : Version) (x : ℕ) {m : ℕ} → v.minutes ≡ Some m → next_bound j v x ≡ end_of j x - m
unfolding next_bound stretch_of
bound_read j v x r = rw r

pub bound_aside : (j : Job) (v : Version) (x : ℕ) → v.minutes ≡ None → next_bound j v x ≡ x
unfolding next_bound stretch_of
bound_aside j v x r = rw r

-- where its stretch ends, by whether it is read
pub end_read : (j : Job) (v : Version) (x : ℕ) {m : ℕ} → v.minutes ≡ Some m → (stretch_of j v x).end ≡ end_of j x
unfolding stretch_of
end_read j v x r = rw r

end_aside : (j : Job) (v : Version) (x : ℕ) → v.minutes ≡ None → (stretch_of j v x).end ≡ x
unfolding stretch_of
end_aside j v x r = rw r

-- it ends between the bound that it leaves and its own
pub end_in : (j : Job) (v : Version) (x : ℕ) → (next_bound j v x ≤ (stretch_of j v x).end) × ((stretch_of j v x).end ≤ x)
end_in j v x = by_minutes v.minutes refl
  where
    by_minutes : (o : Option ℕ) → v.minutes ≡ o → (next_bound j v x ≤ (stretch_of j v x).end) × ((stretch_of j v x).end ≤ x)
    by_minutes (Some m) r = omega (arith, end_read j v x r, bound_read j v x r)
    by_minutes None r = omega (arith, end_aside j v x r, bound_aside j v x r)

-- a job that is ready at t or later and fits under a bound of t or later leaves a bound from t to that one
pub bound_in : (j : Job) (v : Version) (x t : ℕ) → t ≤ j.ready → t ≤ x → fits j v x ≡ true →
    (t ≤ next_bound j v x) × (next_bound j v x ≤ x)
bound_in j v x t ready from fit = by_minutes v.minutes refl
  where
    by_minutes : (o : Option ℕ) → v.minutes ≡ o → (t ≤ next_bound j v x) × (next_bound j v x ≤ x)
    by_minutes (Some m) r = omega (arith, bound_read j v x r, fits_read j v x fit r)
    by_minutes None r = omega (arith, bound_aside j v x r)

-- a choice meets the rule exactly where no position fails
pub meets_failing : (js : List Job) (x : ℕ) (ks : List ℕ) → (meets js x ks ≡ true) ↔ (failing js x ks ≡ 0)
meets_failing [] x ks = (λ h. refl, λ h. refl)
meets_failing (j ∷ js) x [] = (λ h. absurd (false≢true h), λ h. absurd (omega arith))
meets_failing (j ∷ js) x (k ∷ ks) = by_fit (fits j (version_of j k) x) (meets_failing js (next_bound j (version_of j k) x) ks)
  where
    by_fit : (q : Bool) {m : Bool} {n : ℕ} → (m ≡ true) ↔ (n ≡ 0) → ((q && m) ≡ true) ↔ (cond q n (suc (length js)) ≡ 0)
    by_fit true h = h
    by_fit false h = (λ e. absurd (false≢true e), λ e. absurd (omega arith))

-- a choice of the jobs names as many versions as there are jobs
pub valid-length : (js : List Job) (ks : List ℕ) → Valid js ks → length ks ≡ length js
valid-length [] [] h = refl
valid-length [] (k ∷ ks) h = absurd h
valid-length (j ∷ js) [] h = absurd h
valid-length (j ∷ js) (k ∷ ks) h = ap suc (valid-length js ks h.2)

-- and has as many stretches
pub length_stretches : (js : List Job) (x : ℕ) (ks : List ℕ) → length ks ≡ length js → length (stretches js x ks) ≡ length js
length_stretches [] x ks h = refl
length_stretches (j ∷ js) x [] h = h
length_stretches (j ∷ js) x (k ∷ ks) h = ap suc (length_stretches js (next_bound j (version_of j k) x) ks (omega arith))

-- the rule's answer where it is met, and where position n fails
pub stretched_meets : (js : List Job) (x : ℕ) (ks : List ℕ) → failing js x ks ≡ 0 → stretched js x ks ≡ Ok (stretches_of js x ks)
unfolding stretched
stretched_meets js x ks h = rw h

pub stretched_fails : (js : List Job) (x : ℕ) (ks : List ℕ) (n : ℕ) → failing js x ks ≡ suc n →
    stretched js x ks ≡ Err (record { position = suc n })
unfolding stretched
stretched_fails js x ks n h = rw (h, eqb-suc-zero)
