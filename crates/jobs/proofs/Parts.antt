-- What a best choice is made of: a version of the last job that fits, and the best choice of the jobs before under the bound that
-- it leaves.
use Prim.Native.Nat.{ℕ, zero, suc, ◌≤◌}
use native.Mathlib.Omega.{arith}
use mathlib.Core.Path.{◌≡◌, refl}
use mathlib.Core.Bool.{Bool, true, false, cond}
use mathlib.Core.List.{List, [], ◌∷◌}
use mathlib.Core.Option.{Option, none, some}
use lib.Dec.{ltb}
use Rattle.arrays.proofs.Cases.{cond_both}
use Rattle.jobs.specs.declared.model.Job.{Job}
use Rattle.jobs.specs.Model.{version_of}
use Rattle.jobs.specs.Rule.{fits, next_bound}
use Rattle.jobs.specs.Choice.{total}
use Rattle.jobs.specs.Best.{greater, best, last_version, pick}
use Rattle.jobs.proofs.Programme.{within, step, among, best_step}

-- version k of job j over the choice ks of the jobs before it, under the bound x
pub record Parts (j : Job) (js : List Job) (x k : ℕ) (ks : List ℕ) : Type 0 where
  pub low : 1 ≤ k
  pub high : k ≤ j.count
  pub fit : fits j (version_of j k) x ≡ true
  pub rest : best js (next_bound j (version_of j k) x) ≡ some ks

-- a choice, if there is one, names a version first, and P holds of it and the rest
abbrev pub Leads : (ℕ → List ℕ → Type 0) → Option (List ℕ) → Type 0
Leads P none = Unit {0}
Leads P (some []) = ⊥
Leads P (some (k ∷ ks)) = P k ks

module _ (P : ℕ → List ℕ → Type 0) (v : List ℕ → ℕ) where
  leads_greater : (a b : Option (List ℕ)) → Leads P a → Leads P b → Leads P (greater v a b)
  leads_greater none b h l = l
  leads_greater (some a) none h l = h
  leads_greater (some a) (some b) h l = cond_both (Leads P) (ltb (v a) (v b)) l h

  pub leads_among : (f : ℕ → Option (List ℕ)) (n : ℕ) → ((k : ℕ) → 1 ≤ k → k ≤ n → Leads P (f k)) → Leads P (among v f n)
  leads_among f zero each = tt
  leads_among f (suc n) each =
      leads_greater (among v f n) (f (suc n)) (leads_among f n (λ k l h. each k l (omega arith)))
      (each (suc n) (omega arith) (omega arith))

module _ (j : Job) (js : List Job) (x : ℕ) where
  leads_step : (k : ℕ) → 1 ≤ k → k ≤ j.count → (q : Bool) → fits j (version_of j k) x ≡ q → (o : Option (List ℕ)) →
      best js (next_bound j (version_of j k) x) ≡ o → Leads (Parts j js x) (cond q (within k o) none)
  leads_step k low high true fit none rest = tt
  leads_step k low high true fit (some ks) rest = record { low = low; high = high; fit = fit; rest = rest }
  leads_step k low high false fit o rest = tt

  -- the law, of a choice that may not exist
  best_leads : Leads (Parts j js x) (best (j ∷ js) x)
  best_leads =
      rw best_step
      (leads_among (Parts j js x) (total (j ∷ js)) (λ k. step j x k (best js (next_bound j (version_of j k) x))) j.count
      (λ k low high. leads_step k low high (fits j (version_of j k) x) refl (best js (next_bound j (version_of j k) x)) refl))

  best_parts : (k : ℕ) (ks : List ℕ) → best (j ∷ js) x ≡ some (k ∷ ks) → Parts j js x k ks
  best_parts k ks e = rw e at best_leads

  -- it is never empty
  best_full : best (j ∷ js) x ≡ some [] → ⊥
  best_full e = rw e at best_leads

  -- a pick of 0 says that there is none
  pub pick_none : pick (j ∷ js) x ≡ 0 → best (j ∷ js) x ≡ none
  pick_none = by_best (best (j ∷ js) x) refl
    where
      by_best : (o : Option (List ℕ)) → best (j ∷ js) x ≡ o → last_version o ≡ 0 → o ≡ none
      by_best none e nothing = refl
      by_best (some []) e nothing = absurd (best_full e)
      by_best (some (k ∷ ks)) e nothing = absurd (omega (arith, (best_parts k ks e).low))

  -- any other is the last job's version in it
  pub pick_some : {k : ℕ} → k ≡ pick (j ∷ js) x → (k ≡ 0 → ⊥) →
      (ks : List ℕ) × (best (j ∷ js) x ≡ some (k ∷ ks)) × Parts j js x k ks
  pick_some {k} picked other = by_best (best (j ∷ js) x) refl picked
    where
      by_best : (o : Option (List ℕ)) → best (j ∷ js) x ≡ o → k ≡ last_version o →
          (ks : List ℕ) × (best (j ∷ js) x ≡ some (k ∷ ks)) × Parts j js x k ks
      by_best none e same = absurd (other same)
      by_best (some []) e same = absurd (other same)
      by_best (some (m ∷ ks)) e same =
          let whole : best (j ∷ js) x ≡ some (k ∷ ks) = rw same e in
          (ks, whole, best_parts k ks whole)
