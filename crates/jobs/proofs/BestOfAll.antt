-- Demand 3's law: the best choice against every other that meets the rule, and no best choice exactly where none meets it.
use Prim.Native.Nat.{ℕ, ◌≤◌}
use native.Mathlib.Omega.{arith}
use mathlib.Core.Path.{◌≡◌, refl}
use mathlib.Core.Logic.{⊎_elim}
use mathlib.Core.Bool.{true}
use mathlib.Core.List.{List, [], ◌∷◌}
use mathlib.Core.Option.{none, some}
use lib.ListN.{length}
use Rattle.jobs.specs.declared.model.Job.{Job}
use Rattle.jobs.specs.Rule.{meets}
use Rattle.jobs.specs.Choice.{Valid, total}
use Rattle.jobs.specs.Best.{best, Chosen, NoneMeets, pick, PickSays}
use Rattle.jobs.proofs.Parts.{pick_none, pick_some}
use Rattle.jobs.proofs.FirstChoice.{First, Answer, Candidate, behind_le, first_answer, answer_none}

best_answer : (js : List Job) (x : ℕ) → Answer (Candidate (meets js x) js) (total js) (best js x)
unfolding best
best_answer js x = first_answer js (meets js x) (total js)

best_first : (js : List Job) (x : ℕ) (ch : List ℕ) → best js x ≡ some ch → First (Candidate (meets js x) js) (total js) ch
best_first js x ch e = rw e at (best_answer js x)

-- a best choice meets the rule, and every other that meets it has a smaller total, or the same total and is higher
pub best_some : (js : List Job) (x : ℕ) (ch : List ℕ) → best js x ≡ some ch → Chosen js x ch
best_some js x ch e =
    let h = best_first js x ch e in
    record {
      valid = h.inside.0;
      meeting = h.inside.1;
      others = λ c valid meeting other. ⊎_elim (λ same. absurd (other same)) (λ r. r) (h.over c (valid, meeting));
    }

-- its total is the greatest
pub best_most : (js : List Job) (x : ℕ) (ch : List ℕ) → best js x ≡ some ch →
    (c : List ℕ) → Valid js c → meets js x c ≡ true → total js c ≤ total js ch
best_most js x ch e c valid meeting = behind_le (total js) ch c ((best_first js x ch e).over c (valid, meeting))

-- where there is no best choice, none meets the rule
pub best_none : (js : List Job) (x : ℕ) → best js x ≡ none → NoneMeets js x
best_none js x e c valid meeting =
    let h : Answer (Candidate (meets js x) js) (total js) none = rw e at (best_answer js x) in
    h c (valid, meeting)

-- and the other way round
pub none_best : (js : List Job) (x : ℕ) → NoneMeets js x → best js x ≡ none
none_best js x empty =
    answer_none (Candidate (meets js x) js) (total js) (best js x) (best_answer js x) (λ c i. empty c i.0 i.1)

-- a pick says which of the two it is
pub pick_says : (js : List Job) (x : ℕ) → 1 ≤ length js → PickSays js x (pick js x)
pick_says [] x full = absurd (omega arith)
pick_says (j ∷ js) x full =
    record {
      some = λ above.
          let picked = pick_some j js x refl (λ zero. omega arith) in
          (picked.0, best_some (j ∷ js) x (pick (j ∷ js) x ∷ picked.0) picked.1);
      none = λ zero. best_none (j ∷ js) x (pick_none j js x zero);
    }
