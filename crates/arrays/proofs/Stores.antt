-- An array that a loop fills, one store a turn, with the entries of another: in any order, and from the front by a function, as far as a
-- count.
use Prim.Native.Nat.{ℕ, ◌+◌, ◌-◌, ◌≤◌, ◌<◌}
use native.Mathlib.Decide.{ℕ_discrete}
use native.Mathlib.Omega.{arith}
use mathlib.Core.Path.{◌≡◌, ap, ◌∙◌}
use mathlib.Core.List.{List}
use lib.ListN.{length, get_or, set, replicate, length-set, length-replicate}
use lib.Seq.{get_or-set_same, get_or-set_other, ext_get_or}
use Rattle.arrays.specs.Made.{tabulate, padded}
use Rattle.arrays.proofs.Places.{padded_set}
use Rattle.arrays.proofs.Tabulates.{length_tabulate, tabulate_more}

module _ {A : Type 0} where
  -- what holds of the entry that is stored at i, and of every other, holds of each
  pub set_each : (d : A) (array : List A) (i : ℕ) (a : A) → i < length array → (P : ℕ → A → Type 0) → P i a →
      ((k : ℕ) → (k ≡ i → ⊥) → P k (get_or array k d)) → (k : ℕ) → P k (get_or (set array i a) k d)
  set_each d array i a low P here others k =
      elim (ℕ_discrete k i) [
        | yes e ↦ rw (e, get_or-set_same array i a d low) here
        | no n ↦ rw (get_or-set_other array i k a d n) (others k n)
      ]

  -- the array has the entries of `to` at the indices P
  pub record Filled (d : A) (to : List A) (P : ℕ → Type 0) (array : List A) : Type 0 where
    pub size : length array ≡ length to
    pub done : (k : ℕ) → P k → get_or array k d ≡ get_or to k d

  -- a store at i leaves the other indices
  pub filled_step : (d : A) (to : List A) (P Q : ℕ → Type 0) (i : ℕ) (array : List A) (a : A) → i < length to → a ≡ get_or to i d →
      ((k : ℕ) → Q k → (k ≡ i → ⊥) → P k) → Filled d to P array → Filled d to Q (set array i a)
  filled_step d to P Q i array a low same others h =
      record {
        size = length-set array i a ∙ h.size;
        done =
            set_each d array i a (omega (arith, h.size)) (λ k x. Q k → x ≡ get_or to k d) (λ q. same)
            (λ k n q. h.done k (others k q n));
      }

  pub filled_all : (d : A) (to : List A) (P : ℕ → Type 0) (array : List A) → ((k : ℕ) → k < length to → P k) →
      Filled d to P array → array ≡ to
  filled_all d to P array all h = ext_get_or d array to h.size (λ k l. h.done k (all k (omega (arith, h.size))))

  -- the array, of m, has f below i and d from there on; it is to have f below n
  pub record Padding (f : ℕ → A) (m : ℕ) (d : A) (n i : ℕ) (array : List A) : Type 0 where
    pub most : n ≤ m
    pub within : i ≤ n
    pub size : length array ≡ m
    pub exact : array ≡ padded m d (tabulate f 0 i)

  pub padding_start : (f : ℕ → A) (m : ℕ) (d : A) (n : ℕ) → n ≤ m → Padding f m d n 0 (replicate m d)
  padding_start f m d n most =
      let all : m ≡ m - 0 = omega arith in
      record {
        most = most;
        within = omega arith;
        size = length-replicate m d;
        exact = ap (λ (k : ℕ). replicate k d) all;
      }

  module _ {f : ℕ → A} {m : ℕ} {d : A} {n i : ℕ} {array : List A} (h : Padding f m d n i array) where
    pub padding_step : i < n → {a : A} → a ≡ f i → Padding f m d n (i + 1) (set array i a)
    padding_step more {a} e =
        record {
          most = h.most;
          within = omega arith;
          size = length-set array i a ∙ h.size;
          exact =
              rw (
                h.exact,
                padded_set m d (tabulate f 0 i) i a (length_tabulate f 0 i) (omega (arith, h.most)),
                tabulate_more,
                e,
              );
        }

    pub padding_end : n ≤ i → array ≡ padded m d (tabulate f 0 n)
    padding_end over =
        let all : i ≡ n = omega (arith, h.within) in
        h.exact ∙ ap (λ (k : ℕ). padded m d (tabulate f 0 k)) all
