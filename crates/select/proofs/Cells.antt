-- One cell of a row: the word of the best choice with one of the first versions, and what one version more makes of it.
use Prim.Native.Nat.{ℕ, suc, ◌+◌, ◌-◌, ◌*◌, ◌≤◌, ◌<◌, max}
use native.Mathlib.Omega.{arith}
use mathlib.Core.Path.{◌≡◌, refl, ap, ◌∙◌}
use mathlib.Core.Bool.{Bool, true, false, cond}
use mathlib.Core.List.{List, ◌∷◌}
use mathlib.Core.Option.{Option, none, some}
use lib.ListN.{get_or}
use Rattle.jobs.specs.declared.model.Job.{Job}
use Rattle.jobs.specs.Model.{version_of}
use Rattle.jobs.specs.Rule.{fits, next_bound}
use Rattle.jobs.specs.Choice.{total}
use Rattle.jobs.specs.Best.{best}
use Rattle.jobs.proofs.Rules.{bound_in}
use Rattle.jobs.proofs.Programme.{within, step, among}
use Rattle.jobs.proofs.Parts.{leads_among}
use Rattle.select.specs.Word.{radix, word_of, word_by, raised}
use Rattle.select.specs.Row.{score, offered, Scored}
use Rattle.select.proofs.Words.{LastIn, word_greater, raised_word}

-- the best choice of the jobs js with version k of job j after them, and with one of its first k versions
abbrev best_with : Job → List Job → ℕ → ℕ → Option (List ℕ)
best_with j js x k = step j x k (best js (next_bound j (version_of j k) x))

abbrev pub best_of : Job → List Job → ℕ → ℕ → Option (List ℕ)
best_of j js x = among (total (j ∷ js)) (best_with j js x)

-- version k is the last of each choice that it is put before
last_step : (a b : ℕ) (j : Job) (x k : ℕ) → a ≤ k → k ≤ b → (o : Option (List ℕ)) → LastIn a b (step j x k o)
last_step a b j x k low high o = by_fit (fits j (version_of j k) x) o
  where
    by_fit : (q : Bool) (o : Option (List ℕ)) → LastIn a b (cond q (within k o) none)
    by_fit true none = tt
    by_fit true (some c) = (low, high)
    by_fit false o = tt

pub last_best : (j : Job) (js : List Job) (x k : ℕ) → LastIn 1 k (best_of j js x k)
last_best j js x k =
    leads_among _ (total (j ∷ js)) (best_with j js x) k
    (λ i low high. last_step 1 k j x i low high (best js (next_bound j (version_of j i) x)))

-- entry m of the row of job j, over a row that has the scores of the jobs js
module _
    (j : Job) (js : List Job) (t w : ℕ) (scores : List ℕ) (m : ℕ)
    (ready : t ≤ j.ready) (known : Scored js t w scores) (inside : m < w)
  where
    -- what a version offers is the word of the best choice with it: the bound that it leaves has an entry in the row before
    offer_word : (k : ℕ) → offered j k t scores m ≡ word_by (total (j ∷ js)) (best_with j js (t + m) k)
    unfolding offered
    offer_word k = by_fit (fits j (version_of j k) (t + m)) refl
      where
        bound : ℕ
        bound = next_bound j (version_of j k) (t + m)

        by_fit : (q : Bool) → fits j (version_of j k) (t + m) ≡ q →
            cond q (raised (get_or scores (bound - t) 0) (word_of (version_of j k).worth k)) 0
            ≡ word_by (total (j ∷ js)) (cond q (within k (best js bound)) none)
        by_fit true fit =
            let range = bound_in j (version_of j k) (t + m) t ready (omega arith) fit in
            let back : t + (bound - t) ≡ bound = omega arith in
            rw (known (bound - t) (omega arith) ∙ ap (λ (x : ℕ). score js x * radix) back) (raised_word j js k (best js bound))
        by_fit false fit = refl

    -- the first k + 1 versions, from the first k
    pub cell_step : (k : ℕ) → k < radix → {x : ℕ} → x ≡ word_by (total (j ∷ js)) (best_of j js (t + m) k) →
        max x (offered j (suc k) t scores m) ≡ word_by (total (j ∷ js)) (best_of j js (t + m) (suc k))
    cell_step k few e =
        rw (e, offer_word (suc k))
        (word_greater (total (j ∷ js)) k few (best_of j js (t + m) k) (best_with j js (t + m) (suc k))
        (last_best j js (t + m) k)
        (last_step (suc k) (suc k) j (t + m) (suc k) (omega arith) (omega arith)
        (best js (next_bound j (version_of j (suc k)) (t + m)))))
