-- Choices: one version for each job, the last job's first. Their totals, all of them in order, and the tie rule.
use Rattle.std.specs.Prelude.{ℕ, zero, suc, ◌+◌, ◌≤◌, ◌<◌, ◌≡◌, ◌⊎◌, List, [], ◌∷◌, ◌++◌, map}
use Rattle.jobs.specs.declared.model.Job.{Job}
use Rattle.jobs.specs.Model.{version_of}

-- 01: "A choice names for each batch, in list order, one of its recipes."
abbrev pub Valid : List Job → List ℕ → Type 0
Valid [] [] = Unit {0}
Valid [] (k ∷ ks) = ⊥
Valid (j ∷ js) [] = ⊥
Valid (j ∷ js) (k ∷ ks) = (1 ≤ k) × (k ≤ j.count) × Valid js ks

-- 01: "The total of a choice is the sum of the chosen worths."
abbrev pub total : List Job → List ℕ → ℕ
total [] ks = 0
total (j ∷ js) [] = 0
total (j ∷ js) (k ∷ ks) = (version_of j k).worth + total js ks

-- the choices cs of the jobs before, under versions 1 to k of the last job
abbrev pub under : ℕ → List (List ℕ) → List (List ℕ)
under zero cs = []
under (suc k) cs = under k cs ++ map (λ (c : List ℕ). suc k ∷ c) cs

-- every choice once: version 1 first, the last job's version leading
abbrev pub choices : List Job → List (List ℕ)
choices [] = [] ∷ []
choices (j ∷ js) = under j.count (choices js)

-- 01: "the one taken has the lowest recipe number at the last batch, then at the one before": of two choices, the second
-- names the higher version at the last job where they differ
abbrev pub Higher : List ℕ → List ℕ → Type 0
Higher [] ms = ⊥
Higher (k ∷ ks) [] = ⊥
Higher (k ∷ ks) (m ∷ ms) = (k < m) ⊎ ((k ≡ m) × Higher ks ms)
