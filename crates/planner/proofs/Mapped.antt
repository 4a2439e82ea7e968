-- What `from_fn` of an array and `map_err` of a result give.
use Prim.Native.Nat.{ℕ, zero, suc, ◌+◌, ◌≤◌, ◌<◌}
use native.Mathlib.Decide.{ℕ_discrete}
use native.Mathlib.Omega.{arith}
use mathlib.Core.Path.{◌≡◌, refl, sym, ◌∙◌}
use mathlib.Core.List.{List}
use lib.ListN.{get_or}
use lib.Seq.{ext_get_or}
use denote.Param.Members.{Mut, Called}
use Rattle.std.specs.Prelude.{Result, Ok, Err, MatchResult, IsErrAnd}
use Rattle.std.proofs.lemmas.Result.{MatchResult-at_ok, MatchResult-at_err}
use Rattle.std.specs.Array.{IsFromFnResultFrom, IsFromFnResult}
use Rattle.arrays.specs.Made.{tabulate}
use Rattle.arrays.proofs.Tabulates.{length_tabulate, tabulate_at}

-- an array, by a closure f that gives h and keeps what it captures
module _
    {F B : Type 0} (g : Mut F (ℕ × Unit {0}) B) (f : F) (h : ℕ → B)
    (calls : (k : ℕ) (b : B) (q : F) → Called g f (k, tt) b q → (q ≡ f) × (b ≡ h k)) (ys : List B) (d : B)
  where
    made_each : (p : F) (i n : ℕ) → p ≡ f → IsFromFnResultFrom g p ys i n → (k : ℕ) → i ≤ k → k < i + n → get_or ys k d ≡ h k
    made_each p i zero same made k low high = absurd (omega arith)
    made_each p i (suc n) same (q, y, there, called, rest) k low high =
        let gives = calls i y q (rw same at called) in
        elim (ℕ_discrete k i) [
          | yes is ↦ rw is (there.1 d ∙ gives.1)
          | no other ↦ made_each q (i + 1) n gives.0 rest k (omega arith) (omega arith)
        ]

    pub made : {n : ℕ} → IsFromFnResult g f ys n → ys ≡ tabulate h 0 n
    made {n} by =
        ext_get_or d ys (tabulate h 0 n) (by.long ∙ sym (length_tabulate h 0 n))
        (λ k l.
        let low : k < n = omega (arith, by.long) in
        made_each f 0 n refl by.each k (omega arith) (omega arith) ∙ sym (tabulate_at h n k d low))

-- a result m that `map_err` has made of r, by a closure that gives h: it is r, with h of its error
module _
    {T E D : Type 0} (h : E → D) {P : E → D → Type 0} (r : Result T E) (m : Result T D)
    (cases : MatchResult r (λ x. m ≡ Ok x) (λ x. IsErrAnd m (P x))) (calls : (x : E) (y : D) → P x y → y ≡ h x)
  where
    by_cases : MatchResult m (λ x. r ≡ Ok x) (λ y. (x : E) × (r ≡ Err x) × (y ≡ h x))
    by_cases = go r m cases
      where
        go : (r : Result T E) (m : Result T D) → MatchResult r (λ x. m ≡ Ok x) (λ x. IsErrAnd m (P x)) →
            MatchResult m (λ x. r ≡ Ok x) (λ y. (x : E) × (r ≡ Err x) × (y ≡ h x))
        go (Ok x) (Ok y) same = cc
        go (Ok x) (Err y) same = absurd cc
        go (Err x) (Ok y) same = absurd same
        go (Err x) (Err y) same = (x, refl, calls x y same)

    pub map_err_ok : {x : T} → m ≡ Ok x → r ≡ Ok x
    map_err_ok is = MatchResult-at_ok _ _ _ is by_cases

    pub map_err_err : {y : D} → m ≡ Err y → (x : E) × (r ≡ Err x) × (y ≡ h x)
    map_err_err is = MatchResult-at_err _ _ _ is by_cases
