-- The runs of some bytes are the bytes in their order, cut where the value changes and nowhere else; and no other runs are so.
use Prim.Native.Nat.{ℕ, ◌≤◌}
use native.Mathlib.Decide.{ℕ_discrete}
use native.Mathlib.Omega.{arith}
use mathlib.Core.Path.{◌≡◌, refl, sym, ap, ◌∙◌}
use mathlib.Core.List.{List, [], ◌∷◌, map, flatten}
use lib.Dec.{eqb}
use borrow.Author.Tests.{eq-eqb, ne_eqb}
use Rattle.arrays.specs.Each.{All}
use Rattle.arrays.proofs.Cases.{cond_both}
use Rattle.lent.specs.Shown.{Run, joined, runs_of, spread, Apart, AreRuns}
use Rattle.lent.proofs.Runs.{first_run}

-- a byte more ..
module _ (b : ℕ) where
  joined_whole : (runs : List Run) → flatten (map spread (joined b runs)) ≡ b ∷ flatten (map spread runs)
  unfolding joined flatten
  joined_whole [] = refl
  joined_whole (r ∷ runs) =
      elim (ℕ_discrete b r.value) [
        | yes e ↦ rw (eq-eqb b r.value e, e)
        | no other ↦ rw (ne_eqb b r.value other)
      ]

  joined_some : (runs : List Run) → All (λ r. 1 ≤ r.count) runs → All (λ r. 1 ≤ r.count) (joined b runs)
  unfolding joined
  joined_some [] some = (omega arith, tt)
  joined_some (r ∷ runs) some =
      cond_both (All (λ r. 1 ≤ r.count)) (eqb b r.value) (omega arith, some.1) (omega arith, some)

  joined_apart : (runs : List Run) → Apart runs → Apart (joined b runs)
  unfolding joined
  joined_apart [] apart = (tt, tt)
  joined_apart (r ∷ runs) apart =
      elim (ℕ_discrete b r.value) [
        | yes e ↦ rw (eq-eqb b r.value e, e) apart
        | no other ↦ rw (ne_eqb b r.value other) (other, apart)
      ]

-- .. and so all of them
pub are_runs : (lent : List ℕ) → AreRuns lent (runs_of lent)
unfolding runs_of flatten
are_runs [] = record { whole = refl; some = tt; apart = tt }
are_runs (b ∷ bs) =
    let h = are_runs bs in
    record {
      whole = joined_whole b (runs_of bs) ∙ ap (λ (l : List ℕ). b ∷ l) h.whole;
      some = joined_some b (runs_of bs) h.some;
      apart = joined_apart b (runs_of bs) h.apart;
    }

-- there are no others
spread_only : (runs : List Run) → All (λ r. 1 ≤ r.count) runs → Apart runs → runs_of (flatten (map spread runs)) ≡ runs
unfolding runs_of flatten
spread_only [] some apart = refl
spread_only (r ∷ runs) some apart =
    let rest = spread_only runs some.1 apart.1 in
    first_run r.value r.count (flatten (map spread runs)) some.0 (rw rest apart.0)
    ∙ ap (λ (l : List Run). r ∷ l) rest

pub runs_only : (lent : List ℕ) (runs : List Run) → AreRuns lent runs → runs ≡ runs_of lent
runs_only lent runs h = sym (spread_only runs h.some h.apart) ∙ ap runs_of h.whole
