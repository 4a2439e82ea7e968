-- The log as a list: its length, its first part, its entries, and what it depends on.
use Prim.Native.Nat.{ℕ, zero, suc, ◌+◌, ◌≤◌, ◌<◌}
use native.Mathlib.Decide.{ℕ_discrete}
use native.Mathlib.Omega.{arith}
use mathlib.Core.Path.{◌≡◌, refl, sym, ap, subst, ◌∙◌}
use mathlib.Core.Bool.{cond}
use mathlib.Core.List.{List, [], ◌∷◌, ◌++◌}
use lib.ListN.{length, get_or, take, drop, length-append, take-append-drop}
use lib.Dec.{eqb}
use lib.Seq.{get_or_at, get_or-take, take-append-le, take_all}
use Rattle.edf.specs.Run.{entries, minutes_left, first_pending, log_of}
use Rattle.edf.proofs.Pending.{pending_same}

entries-append : (j : ℕ) (xs ys : List ℕ) → entries j (xs ++ ys) ≡ entries j xs + entries j ys
unfolding entries
entries-append j [] ys = omega arith
entries-append j (x ∷ xs) ys = omega (arith, entries-append j xs ys)

-- the first part of a log has no more of them than the whole
pub entries-take : (j d : ℕ) (log : List ℕ) → entries j (take d log) ≤ entries j log
entries-take j d log =
    omega (arith, ap (entries j) (take-append-drop d log), entries-append j (take d log) (drop d log))

module _ (n : ℕ) (ready minutes : ℕ → ℕ) (t : ℕ) where
  -- the log of d minutes, the minutes left after it, and the job that is read next
  abbrev pub log_to : ℕ → List ℕ
  log_to d = log_of n ready minutes t d

  abbrev pub left_at : ℕ → ℕ → ℕ
  left_at d j = minutes_left minutes (log_to d) j

  abbrev pub read_at : ℕ → ℕ
  read_at d = first_pending ready (left_at d) (t + d) n

  pub log_next : (d : ℕ) → log_to (suc d) ≡ log_to d ++ (read_at d ∷ [])
  unfolding log_of
  log_next d = refl

  pub length_log : (d : ℕ) → length (log_to d) ≡ d
  unfolding log_of
  length_log zero = refl
  length_log (suc d) = length-append (log_to d) (read_at d ∷ []) ∙ omega (arith, length_log d)

  pub take_log : (d w : ℕ) → d ≤ w → take d (log_to w) ≡ log_to d
  unfolding log_of
  take_log d zero h = let e : 0 ≡ d = omega arith in subst (λ (k : ℕ). take k (log_to 0) ≡ log_to k) e refl
  take_log d (suc w) h =
      elim (ℕ_discrete d (suc w)) [
        | yes e ↦ rw e (take_all (suc w) (log_to (suc w)) (omega (arith, length_log (suc w))))
        | no other ↦
            ap (take d) (log_next w)
            ∙ take-append-le d (log_to w) (read_at w ∷ []) (omega (arith, length_log w))
            ∙ take_log d w (omega arith)
      ]

  pub entry_log : (d w : ℕ) → d < w → get_or (log_to w) d 0 ≡ read_at d
  entry_log d w h =
      sym (get_or-take (suc d) (log_to w) d 0 (omega arith))
      ∙ ap (λ (log : List ℕ). get_or log d 0) (take_log (suc d) w h ∙ log_next d)
      ∙ get_or_at (log_to d) (read_at d) [] 0 d (length_log d)

  pub entries_next : (d j : ℕ) → entries j (log_to (suc d)) ≡ entries j (log_to d) + cond (eqb (read_at d) j) 1 0
  unfolding entries
  entries_next d j = ap (entries j) (log_next d) ∙ entries-append j (log_to d) (read_at d ∷ []) ∙ omega arith

-- the log depends on the ready minutes and the minutes of jobs 1 to n alone
module _ {n : ℕ} {ready minutes ready' minutes' : ℕ → ℕ}
    (same-ready : (j : ℕ) → 1 ≤ j → j ≤ n → ready j ≡ ready' j) (same-minutes : (j : ℕ) → 1 ≤ j → j ≤ n → minutes j ≡ minutes' j)
  where
    pub log_same : (t w : ℕ) → log_of n ready minutes t w ≡ log_of n ready' minutes' t w
    unfolding log_of minutes_left
    log_same t zero = refl
    log_same t (suc w) =
        rw (log_same t w)
        (ap (λ (k : ℕ). log_of n ready' minutes' t w ++ (k ∷ []))
        (pending_same same-ready (λ j low high. rw (same-minutes j low high)) (t + w)))
