-- The best choice, over every choice and the rule: no search is mentioned here.
use Rattle.std.specs.Prelude.{ℕ, ◌≤◌, ◌<◌, ◌≡◌, ◌⊎◌, Bool, true, cond, List, [], ◌∷◌, ltb}
use Rattle.std.proofs.Math.Option.{Option, none, some}
use Rattle.jobs.specs.declared.model.Job.{Job}
use Rattle.jobs.specs.Rule.{meets}
use Rattle.jobs.specs.Choice.{Valid, Higher, total, choices}

-- the one of greater value; the first where the two tie
abbrev pub greater : (List ℕ → ℕ) → Option (List ℕ) → Option (List ℕ) → Option (List ℕ)
greater v none b = b
greater v (some a) none = some a
greater v (some a) (some b) = cond (ltb (v a) (v b)) (some b) (some a)

-- a choice that passes a test
abbrev pub passing : (List ℕ → Bool) → List ℕ → Option (List ℕ)
passing p c = cond (p c) (some c) none

-- the first of greatest value among the choices of a list that pass a test
abbrev pub first_best : (List ℕ → Bool) → (List ℕ → ℕ) → List (List ℕ) → Option (List ℕ)
first_best p v [] = none
first_best p v (c ∷ cs) = greater v (passing p c) (first_best p v cs)

-- 01: "Among the choices with the greatest total of those that meet the rule, the one taken has the lowest recipe
-- number at the last batch, then at the one before, and so on to the first." x is the closing minute.
unfoldable pub best : List Job → ℕ → Option (List ℕ)
best js x = first_best (meets js x) (total js) (choices js)

-- demand 3: "the plan meets the rule"; "Every other choice of one recipe a batch that meets the rule has a smaller total, or the
-- same total and a higher recipe number at the last batch where the two differ."
pub record Chosen (js : List Job) (x : ℕ) (ch : List ℕ) : Type 0 where
  pub valid : Valid js ch
  pub meeting : meets js x ch ≡ true
  pub others : (c : List ℕ) → Valid js c → meets js x c ≡ true → (c ≡ ch → ⊥) →
      (total js c < total js ch) ⊎ ((total js c ≡ total js ch) × Higher ch c)

-- some choice meets the rule; "no choice meets the rule"
abbrev pub SomeMeets : List Job → ℕ → Type 0
SomeMeets js x = (c : List ℕ) × Valid js c × (meets js x c ≡ true)

abbrev pub NoneMeets : List Job → ℕ → Type 0
NoneMeets js x = (c : List ℕ) → Valid js c → meets js x c ≡ true → ⊥

-- the last job's version of a choice; 0 for none
abbrev pub last_version : Option (List ℕ) → ℕ
last_version none = 0
last_version (some []) = 0
last_version (some (k ∷ ks)) = k

-- 01, "The picks table": "the recipe that the best choice for batches 1 to i, with x as the closing minute, gives to batch i; it
-- is 0 if no choice exists"
abbrev pub pick : List Job → ℕ → ℕ
pick js x = last_version (best js x)

-- the same over the rule: above 0, k is the last job's version in the choice that demand 3 asks for; at 0 no choice meets the rule
pub record PickSays (js : List Job) (x k : ℕ) : Type 0 where
  pub some : 1 ≤ k → (ks : List ℕ) × Chosen js x (k ∷ ks)
  pub none : k ≡ 0 → NoneMeets js x
