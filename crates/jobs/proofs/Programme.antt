-- The dynamic programme's law: the best choice of a list of jobs, by the best choices of the jobs before its last.
use Prim.Native.Nat.{ℕ, zero, suc, ◌+◌, ◌≤◌, ◌<◌}
use native.Mathlib.Omega.{arith}
use mathlib.Core.Path.{◌≡◌, refl, ◌∙◌}
use mathlib.Core.Bool.{Bool, true, false, cond}
use mathlib.Core.List.{List, ◌∷◌, map}
use mathlib.Core.Option
use mathlib.Core.Option.{Option, none}
use lib.Dec.{ltb}
use borrow.Author.Tests.{ltb-true, ltb-false, lt-ltb, le-ltb}
use Rattle.jobs.specs.declared.model.Job.{Job}
use Rattle.jobs.specs.Model.{version_of}
use Rattle.jobs.specs.Rule.{fits, next_bound, meets}
use Rattle.jobs.specs.Choice.{total, under, choices}
use Rattle.jobs.specs.Best.{greater, first_best, best}
use Rattle.jobs.proofs.FirstBest.{first_best-append, first_best-map, first_best_none}

-- version k of the last job over a choice of the jobs before
abbrev pub within : ℕ → Option (List ℕ) → Option (List ℕ)
within k o = Option.map (λ (c : List ℕ). k ∷ c) o

-- the same, where version k fits under bound x
abbrev pub step : Job → ℕ → ℕ → Option (List ℕ) → Option (List ℕ)
step j x k o = cond (fits j (version_of j k) x) (within k o) none

-- the first of greatest value among versions 1 to n
abbrev pub among : (List ℕ → ℕ) → (ℕ → Option (List ℕ)) → ℕ → Option (List ℕ)
among v f zero = none
among v f (suc n) = greater v (among v f n) (f (suc n))

-- the first best by the last job's version, for any test and any value
first_best_under : (p : List ℕ → Bool) (v : List ℕ → ℕ) (cs : List (List ℕ)) (n : ℕ) →
    first_best p v (under n cs) ≡ among v (λ k. first_best p v (map (λ (c : List ℕ). k ∷ c) cs)) n
first_best_under p v cs zero = refl
first_best_under p v cs (suc n) =
    first_best-append p v (under n cs) (map (λ (c : List ℕ). suc n ∷ c) cs) ∙ rw (first_best_under p v cs n)

-- equal answers for each version have equal bests
among_same : (v : List ℕ → ℕ) (f g : ℕ → Option (List ℕ)) → ((k : ℕ) → f k ≡ g k) → (n : ℕ) → among v f n ≡ among v g n
among_same v f g same zero = refl
among_same v f g same (suc n) = rw (among_same v f g same n, same (suc n))

-- a worth added to both sides of a test leaves it
ltb_add : (w a b : ℕ) (q : Bool) → ltb a b ≡ q → ltb (w + a) (w + b) ≡ q
ltb_add w a b true h = let l : a < b = ltb-true _ _ h in lt-ltb (w + a) (w + b) (omega arith)
ltb_add w a b false h = let l : b ≤ a = ltb-false _ _ h in le-ltb (w + a) (w + b) (omega arith)

module _ (j : Job) (js : List Job) (x : ℕ) where
  -- one version of the last job
  best_under : (cs : List (List ℕ)) (k : ℕ) (q : Bool) → fits j (version_of j k) x ≡ q →
      first_best (meets (j ∷ js) x) (total (j ∷ js)) (map (λ (c : List ℕ). k ∷ c) cs)
      ≡ cond q (within k (first_best (meets js (next_bound j (version_of j k) x)) (total js) cs)) none
  best_under cs k true h =
      first_best-map
      (meets js (next_bound j (version_of j k) x))
      (meets (j ∷ js) x)
      (total js)
      (total (j ∷ js))
      (λ c. k ∷ c)
      (λ c. rw h)
      (λ a b. ltb_add (version_of j k).worth (total js a) (total js b) (ltb (total js a) (total js b)) refl)
      cs
  best_under cs k false h = first_best_none (meets (j ∷ js) x) (total (j ∷ js)) (λ c. k ∷ c) (λ c. rw h) cs

  -- the law
  pub best_step :
      best (j ∷ js) x
      ≡ among (total (j ∷ js)) (λ k. step j x k (best js (next_bound j (version_of j k) x))) j.count
  unfolding best
  best_step =
      first_best_under (meets (j ∷ js) x) (total (j ∷ js)) (choices js) j.count
      ∙ among_same _ _ _ (λ k. best_under (choices js) k (fits j (version_of j k) x) refl) j.count
