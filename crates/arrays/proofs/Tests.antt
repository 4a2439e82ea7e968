-- Tests: what each says where it holds and where it does not, both ways.
use Prim.Native.Nat.{ℕ, ◌≤◌, ◌<◌}
use native.Mathlib.Omega.{arith}
use mathlib.Core.Path.{◌≡◌, refl, sym}
use mathlib.Core.Logic.{◌↔◌, ◌⊎◌, inl, inr, ⊎_elim}
use mathlib.Core.Bool.{Bool, true, false, ◌||◌, ◌&&◌, not, true≢false, false≢true}
use lib.Dec.{ltb, leb, eqb}
use borrow.Author.Tests.{ltb-true, lt-ltb, ltb-false, le-ltb, leb-true, le-leb, leb-false, lt-leb, eqb-true, eq-eqb, eqb-false, ne_eqb}

pub lt_holds : (a b : ℕ) → (ltb a b ≡ true) ↔ (a < b)
lt_holds a b = (ltb-true a b, lt-ltb a b)

pub le_holds : (a b : ℕ) → (leb a b ≡ true) ↔ (a ≤ b)
le_holds a b = (leb-true a b, le-leb a b)

pub same_holds : (a b : ℕ) → (eqb a b ≡ true) ↔ (a ≡ b)
same_holds a b = (eqb-true a b, eq-eqb a b)

pub not_holds : (p : Bool) {P : Type 0} → (p ≡ false) ↔ P → (not p ≡ true) ↔ P
not_holds true e = (λ h. absurd (false≢true h), λ h. absurd (true≢false (e.1 h)))
not_holds false e = (λ _. e.0 refl, λ _. refl)

pub either_holds : (p q : Bool) {P Q : Type 0} → (p ≡ true) ↔ P → (q ≡ true) ↔ Q → ((p || q) ≡ true) ↔ (P ⊎ Q)
either_holds true q e f = (λ _. inl (e.0 refl), λ _. refl)
either_holds false q e f = (λ h. inr (f.0 h), ⊎_elim (λ h. absurd (false≢true (e.1 h))) f.1)

pub or_true : (p : Bool) → (p || true) ≡ true
or_true true = refl
or_true false = refl

pub both_hold : (p q : Bool) {P Q : Type 0} → (p ≡ true) ↔ P → (q ≡ true) ↔ Q → ((p && q) ≡ true) ↔ (P × Q)
both_hold true q e f = (λ h. (e.0 refl, f.0 h), λ h. f.1 h.1)
both_hold false q e f = (λ h. absurd (false≢true h), λ h. e.1 h.0)

pub lt_fails : (a b : ℕ) → (ltb a b ≡ false) ↔ (b ≤ a)
lt_fails a b = (ltb-false a b, le-ltb a b)

pub le_fails : (a b : ℕ) → (leb a b ≡ false) ↔ (b < a)
le_fails a b = (leb-false a b, lt-leb a b)

pub none_fails : (a : ℕ) → (ltb 0 a ≡ false) ↔ (a ≡ 0)
none_fails a = (λ e. let l = ltb-false 0 a e in omega arith, λ z. le-ltb 0 a (omega arith))

pub zero_fails : (a : ℕ) → (eqb a 0 ≡ false) ↔ (1 ≤ a)
zero_fails a = (λ e. let n = eqb-false a 0 e in omega arith, λ l. ne_eqb a 0 (λ z. omega arith))

pub same_fails : (a b : ℕ) → (eqb a b ≡ false) ↔ (a ≡ b → ⊥)
same_fails a b = (eqb-false a b, ne_eqb a b)

pub or_fails : (p q : Bool) {P Q : Type 0} → (p ≡ false) ↔ P → (q ≡ false) ↔ Q → ((p || q) ≡ false) ↔ (P × Q)
or_fails true q e f = (λ h. absurd (true≢false h), λ h. absurd (true≢false (e.1 h.0)))
or_fails false q e f = (λ h. (e.0 refl, f.0 h), λ h. f.1 h.1)

pub and_fails : (p q : Bool) {P Q : Type 0} → (p ≡ true) ↔ P → (q ≡ false) ↔ Q → ((p && q) ≡ false) ↔ (P → Q)
and_fails true q e f = (λ h _. f.0 h, λ h. f.1 (h (e.0 refl)))
and_fails false q e f = (λ _ p. absurd (true≢false (sym (e.1 p))), λ _. refl)
