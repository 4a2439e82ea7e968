-- Lists of which a range of entries is changed: the same said of a wider range; and a loop that changes them so.
use Prim.Native.Nat.{ℕ, ◌≤◌, ◌<◌, max}
use native.Mathlib.Decide.{dec_le, dec_lt}
use native.Mathlib.Omega.{arith}
use mathlib.Core.Path.{◌≡◌, ◌∙◌}
use mathlib.Core.Logic.{◌⊎◌, inl, inr, ⊎_elim}
use mathlib.Core.List.{List}
use lib.ListN.{get_or}
use Rattle.arrays.specs.Patched.{Patched}

module _ {g : ℕ → ℕ} {a b : ℕ} {old new : List ℕ} (h : Patched g a b old new) where
  pub patched_same : {g' : ℕ → ℕ} → ((m : ℕ) → a ≤ m → m < b → g m ≡ g' m) → Patched g' a b old new
  patched_same same = record { size = h.size; done = λ m l u. h.done m l u ∙ same m l u; kept = h.kept }

  -- an entry is changed, or it is outside and kept
  patched_at : (m : ℕ) → (get_or new m 0 ≡ g m) ⊎ (((m < a) ⊎ (b ≤ m)) × (get_or new m 0 ≡ get_or old m 0))
  patched_at m =
      elim (dec_le a m) [
        | yes from ↦ elim (dec_lt m b) [
          | yes to ↦ inl (h.done m from to)
          | no out ↦ inr (inr (omega arith), h.kept m (λ i. out i.1))
        ]
        | no out ↦ inr (inl (omega arith), h.kept m (λ i. out i.0))
      ]

  -- what holds of every entry of g and of the old list
  pub patched_all : (P : ℕ → Type 0) → ((m : ℕ) → P (g m)) → ((m : ℕ) → P (get_or old m 0)) → (m : ℕ) → P (get_or new m 0)
  patched_all P changed stood m = ⊎_elim (λ e. rw e (changed m)) (λ w. rw w.1 (stood m)) (patched_at m)

  -- the entries from a' up to b' have those from a up to b among them, and the others of them are those of g already
  pub patched_widen : (a' b' : ℕ) → ((m : ℕ) → a ≤ m → m < b → (a' ≤ m) × (m < b')) →
      ((m : ℕ) → a' ≤ m → m < b' → (m < a) ⊎ (b ≤ m) → get_or old m 0 ≡ g m) → Patched g a' b' old new
  patched_widen a' b' among already =
      record {
        size = h.size;
        done = λ m l u. ⊎_elim (λ e. e) (λ w. w.1 ∙ already m l u w.0) (patched_at m);
        kept = λ m out. h.kept m (λ i. out (among m i.0 i.1));
      }

-- a loop over the entries from a up to b, which stands at m
pub record Patching (g : ℕ → ℕ) (a b : ℕ) (old new : List ℕ) (m : ℕ) : Type 0 where
  pub from : a ≤ m
  pub to : m ≤ max a b
  pub patched : Patched g a m old new

module _ {g : ℕ → ℕ} {a b : ℕ} {old new : List ℕ} {m : ℕ} (h : Patching g a b old new m) where
  pub patching_end : b ≤ m → Patched g a b old new
  patching_end over =
      patched_widen h.patched a b (λ i l u. omega (arith, h.to))
      (λ i l u. ⊎_elim (λ out. absurd (omega arith)) (λ out. absurd (omega arith)))
