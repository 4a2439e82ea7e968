-- Words of choices: which of two is the greater, a word taken apart, and a version's word over a score.
use Prim.Native.Nat.{ℕ, suc, ◌+◌, ◌*◌, ◌≤◌, ◌<◌, max}
use native.Mathlib.Omega.{arith}
use mathlib.Core.Path.{◌≡◌, refl}
use mathlib.Core.Bool.{Bool, true, false, cond}
use mathlib.Core.List.{List, [], ◌∷◌}
use mathlib.Core.Option.{Option, none, some}
use lib.Dec.{ltb, eqb}
use borrow.Author.Tests.{ltb-true, ltb-false, ne_eqb}
use Rattle.arrays.proofs.Cases.{cond_both}
use Rattle.jobs.specs.declared.model.Job.{Job}
use Rattle.jobs.specs.Model.{version_of}
use Rattle.jobs.specs.Choice.{total}
use Rattle.jobs.specs.Best.{greater, last_version}
use Rattle.jobs.proofs.Programme.{within}
use Rattle.jobs.proofs.Parts.{Leads}
use Rattle.select.specs.Word.{score_by, radix, word_of, word_by, score_part, version_part, raised}

-- the last version of a choice, if there is one, is from a to b
abbrev pub LastIn : ℕ → ℕ → Option (List ℕ) → Type 0
LastIn a b = Leads (λ k ks. (a ≤ k) × (k ≤ b))

-- the greater of two choices has the greater word, if the last version of the second is the higher
pub word_greater : (v : List ℕ → ℕ) (k : ℕ) → k < radix → (a b : Option (List ℕ)) → LastIn 1 k a → LastIn (suc k) (suc k) b →
    max (word_by v a) (word_by v b) ≡ word_by v (greater v a b)
word_greater v k few none b h i = omega arith
word_greater v k few (some a) none h i = omega arith
word_greater v k few (some []) (some b) h i = absurd h
word_greater v k few (some (a ∷ rest)) (some []) h i = absurd i
word_greater v k few (some (a ∷ rest)) (some (b ∷ rest')) h i = by_test (ltb (v (a ∷ rest)) (v (b ∷ rest'))) refl
  where
    by_test : (q : Bool) → ltb (v (a ∷ rest)) (v (b ∷ rest')) ≡ q →
        max (word_by v (some (a ∷ rest))) (word_by v (some (b ∷ rest'))) ≡ word_by v (cond q (some (b ∷ rest')) (some (a ∷ rest)))
    by_test true more = omega (arith, ltb-true (v (a ∷ rest)) (v (b ∷ rest')) more)
    by_test false less = omega (arith, ltb-false (v (a ∷ rest)) (v (b ∷ rest')) less)

-- a word taken apart
module _ (v : List ℕ → ℕ) (k : ℕ) (few : k < radix) where
  pub word_score : (o : Option (List ℕ)) → LastIn 1 k o → score_part (word_by v o) ≡ score_by v o * radix
  word_score none h = refl
  word_score (some []) h = absurd h
  word_score (some (c ∷ cs)) h = omega arith

  pub word_version : (o : Option (List ℕ)) → LastIn 1 k o → version_part (word_by v o) ≡ last_version o
  word_version none h = refl
  word_version (some []) h = absurd h
  word_version (some (c ∷ cs)) h = omega arith

-- a word above 0 has a score above 0
pub word_some : (v : List ℕ → ℕ) (o : Option (List ℕ)) → 0 < word_by v o → 0 < score_by v o
word_some v none h = absurd (omega arith)
word_some v (some c) h = omega arith

-- a version's word over the score of a choice is the word of the choice with that version
pub raised_word : (j : Job) (js : List Job) (k : ℕ) (o : Option (List ℕ)) →
    raised (score_by (total js) o * radix) (word_of (version_of j k).worth k) ≡ word_by (total (j ∷ js)) (within k o)
raised_word j js k none = refl
raised_word j js k (some c) = rw (ne_eqb (score_by (total js) (some c) * radix) 0 (omega arith)) (omega arith)

pub raised_low : (score w : ℕ) → raised score w ≤ score + w
raised_low score w = cond_both (λ r. r ≤ score + w) (eqb score 0) (omega arith) (omega arith)
