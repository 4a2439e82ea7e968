-- The job that is read in a minute is the first that is pending, which is to say ready and with minutes left; there is one such.
use Prim.Native.Nat.{ℕ, zero, suc, ◌≤◌, ◌<◌}
use native.Mathlib.Decide.{ℕ_discrete, dec_le}
use native.Mathlib.Omega.{arith}
use mathlib.Core.Path.{◌≡◌, refl, sym, subst, ◌∙◌}
use mathlib.Core.Bool.{Bool, true, false, cond, ◌&&◌, and-eq-true_iff, false≢true}
use lib.Dec.{ltb, leb}
use borrow.Author.Tests.{ltb-true, lt-ltb, leb-true, le-leb}
use Rattle.edf.specs.Run.{first_some, first_pending, Reads}

-- the test of `first_pending`, in numbers
pub pending_true : (r l m : ℕ) → (leb r m && ltb 0 l) ≡ true → (r ≤ m) × (1 ≤ l)
pending_true r l m h = let both = (and-eq-true_iff (leb r m) (ltb 0 l)).0 h in (leb-true _ _ both.0, ltb-true _ _ both.1)

pub true_pending : (r l m : ℕ) → r ≤ m → 1 ≤ l → (leb r m && ltb 0 l) ≡ true
true_pending r l m ready some = (and-eq-true_iff (leb r m) (ltb 0 l)).1 (le-leb r m ready, lt-ltb 0 l some)

-- `Reads` of 0 says that no job is pending: of no jobs
pub none_pending : (ready left : ℕ → ℕ) (m : ℕ) → Reads ready left m 0 0
none_pending ready left m =
    record {
      within = omega arith;
      arrived = λ p. absurd (omega arith);
      unread = λ p. absurd (omega arith);
      first = λ j low high r l. absurd (omega arith);
    }

-- of jobs 1 to i none is pending
module _ {ready left : ℕ → ℕ} {m i : ℕ} (none : Reads ready left m i 0) where
  -- nor is job i + 1
  pub next_passed : (ready (suc i) ≤ m → 1 ≤ left (suc i) → ⊥) → Reads ready left m (suc i) 0
  next_passed passed =
      record {
        within = omega arith;
        arrived = λ p. absurd (omega arith);
        unread = λ p. absurd (omega arith);
        first = λ j low high r l.
            elim (ℕ_discrete j (suc i)) [
              | yes same ↦ absurd (passed (subst (λ (x : ℕ). ready x ≤ m) same r) (subst (λ (x : ℕ). 1 ≤ left x) same l))
              | no other ↦ none.first j low (omega arith) r l
            ];
      }

  -- job i + 1 is: it is read, however many follow
  pub next_pending : {n : ℕ} → i < n → ready (suc i) ≤ m → 1 ≤ left (suc i) → Reads ready left m n (suc i)
  next_pending within arrived unread =
      record {
        within = within;
        arrived = λ p. arrived;
        unread = λ p. unread;
        first = λ j low high r l.
            elim (dec_le j i) [
              | yes before ↦ omega (arith, none.first j low before r l)
              | no after ↦ omega arith
            ];
      }

module _ (ready left : ℕ → ℕ) (m : ℕ) where
  -- job i + 1 after the first i, by whether it is pending
  reads_next : (i k : ℕ) (q : Bool) → (leb (ready (suc i)) m && ltb 0 (left (suc i))) ≡ q → Reads ready left m i k →
      Reads ready left m (suc i) (first_some k (cond q (suc i) 0))
  reads_next i zero true e h =
      let here = pending_true (ready (suc i)) (left (suc i)) m e in
      next_pending h (omega arith) here.0 here.1
  reads_next i zero false e h = next_passed h (λ r l. false≢true (sym e ∙ true_pending _ _ _ r l))
  reads_next i (suc k) q e h =
      record {
        within = omega (arith, h.within);
        arrived = h.arrived;
        unread = h.unread;
        first = λ j low high r l.
            elim (ℕ_discrete j (suc i)) [
              | yes same ↦ omega (arith, h.within)
              | no other ↦ h.first j low (omega arith) r l
            ];
      }

  pub reads : (n : ℕ) → Reads ready left m n (first_pending ready left m n)
  unfolding first_pending
  reads zero = none_pending ready left m
  reads (suc n) = reads_next n (first_pending ready left m n) _ refl (reads n)

  -- there is one such job
  pub reads_one : {n k : ℕ} → Reads ready left m n k → k ≡ first_pending ready left m n
  reads_one {n} {k} h =
      let f = first_pending ready left m n in
      let g : Reads ready left m n f = reads n in
      elim (ℕ_discrete k 0) [
        | yes none ↦
            elim (ℕ_discrete f 0) [
              | yes e ↦ none ∙ sym e
              | no some ↦
                  absurd (omega (arith, h.first f (omega arith) g.within (g.arrived (omega arith)) (g.unread (omega arith))))
            ]
        | no some ↦
            let low = g.first k (omega arith) h.within (h.arrived (omega arith)) (h.unread (omega arith)) in
            omega (arith, low, h.first f low.0 g.within (g.arrived low.0) (g.unread low.0))
      ]

-- and it depends on the ready minutes and the minutes left of jobs 1 to n alone
module _ {ready left ready' left' : ℕ → ℕ} {n : ℕ}
    (same-ready : (j : ℕ) → 1 ≤ j → j ≤ n → ready j ≡ ready' j) (same_left : (j : ℕ) → 1 ≤ j → j ≤ n → left j ≡ left' j)
  where
    pub reads_same : {m k : ℕ} → Reads ready left m n k → Reads ready' left' m n k
    reads_same {m} {k} h =
        record {
          within = h.within;
          arrived = λ p. omega (arith, h.arrived p, same-ready k p h.within);
          unread = λ p. omega (arith, h.unread p, same_left k p h.within);
          first = λ j low high r l.
              h.first j low high (omega (arith, same-ready j low high)) (omega (arith, same_left j low high));
        }

    pub pending_same : (m : ℕ) → first_pending ready left m n ≡ first_pending ready' left' m n
    pending_same m = reads_one ready' left' m (reads_same (reads ready left m n))
