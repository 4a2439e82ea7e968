-- The first run of some bytes.
use Prim.Native.Nat.{ℕ, zero, suc, ◌+◌, ◌-◌, ◌≤◌, ◌<◌}
use native.Mathlib.Numerals.{unary_clauses}
use native.Mathlib.Omega.{arith}
use mathlib.Core.Path.{◌≡◌, refl, ap, ◌∙◌}
use mathlib.Core.Bool.{false}
use mathlib.Core.List.{List, [], ◌∷◌, ◌++◌}
use lib.ListN.{length, get_or, replicate}
use lib.Dec.{eqb}
use borrow.Author.Tests.{eq-eqb, ne_eqb, eqb-false}
use Rattle.std.specs.List.{IsChunkByPrefix}
use Rattle.arrays.proofs.Cases.{cond_both}
use Rattle.lent.specs.Shown.{Run, run_of, joined, runs_of, Other}

-- a byte of another value than the first run's is a run of its own
own_run : (v : ℕ) (runs : List Run) → Other v runs → joined v runs ≡ run_of v 1 ∷ runs
unfolding joined
own_run v [] other = refl
own_run v (r ∷ runs) other = rw (ne_eqb v r.value other)

-- and the first run is of the value of the first byte
first_other : (v b : ℕ) (runs : List Run) → (v ≡ b → ⊥) → Other v (joined b runs)
unfolding joined
first_other v b [] other = other
first_other v b (r ∷ runs) other = cond_both (Other v) (eqb b r.value) other other

-- bytes of one value, before others, are the first run
pub first_run : (v n : ℕ) (rest : List ℕ) → 1 ≤ n → Other v (runs_of rest) →
    runs_of (replicate n v ++ rest) ≡ run_of v n ∷ runs_of rest
unfolding runs_of joined
first_run v zero rest some other = absurd (omega arith)
first_run v (suc zero) rest some other = own_run v (runs_of rest) other
first_run v (suc (suc n)) rest some other =
    ap (joined v) (first_run v (suc n) rest (omega arith) other) ∙ rw (eq-eqb v v refl)

-- a front whose bytes each equal the next, and the longest such, is the first run
module _ (left : List ℕ) where
  abbrev pub IsChunk : List ℕ → Type 0
  IsChunk front = IsChunkByPrefix eqb (front ++ left) (length front)

  shorter : (b c : ℕ) (front : List ℕ) → IsChunk (b ∷ c ∷ front) → IsChunk (c ∷ front)
  shorter b c front cut = (
    λ k d more. simp unary_clauses (simp unary_clauses at (cut.0 (k + 1) d (omega arith))),
    λ more d.
        let before : length (b ∷ c ∷ front) - 1 ≡ suc (length (c ∷ front) - 1) = omega arith in
        rw before at (cut.1 (omega arith) d),
  )

  pub first_chunk : (front : List ℕ) → 0 < length front → IsChunk front →
      runs_of (front ++ left) ≡ run_of (get_or front 0 0) (length front) ∷ runs_of left
  unfolding runs_of joined
  first_chunk [] some cut = absurd (omega arith)
  first_chunk (b ∷ []) some cut = own_run b (runs_of left) (other_after left cut.1)
    where
      other_after : (l : List ℕ) → (1 < length (b ∷ l) → (d : ℕ) → eqb b (get_or l 0 d) ≡ false) → Other b (runs_of l)
      other_after [] ends = tt
      other_after (c ∷ l) ends = first_other b c (runs_of l) (eqb-false b c (ends (omega arith) 0))
  first_chunk (b ∷ c ∷ front) some cut =
      ap (joined b) (first_chunk (c ∷ front) (omega arith) (shorter b c front cut)) ∙ rw (cut.0 0 0 (omega arith))
