-- `Batch::stored` stores what it is handed: `from_fn` may ask its closure for each place of the array, and the closure for the first alone.
use Rattle.std.proofs.Common.{rules, ℕ, ◌<◌, ◌≡◌, refl, sym, ◌∙◌, subst, arith}
use Rattle.std.specs.Array.{index_steps}
use Rattle.std.specs.Iterator.{CallableAtEachTurn}
use Rattle.std.proofs.lemmas.Fn.{serves_by}
use Rattle.week.proofs.record.Batch.stored.Goals as goal

-- what a call leaves as it is may be called at each turn that it may be called at
at_each_turn : {P : Type 0} {R : P → ℕ → P → Type 0} {Q : P → ℕ → Type 0} {n : ℕ} {p : P} → ((x : ℕ) (q : P) → R p x q → q ≡ p) →
    ((x : ℕ) → x < n → Q p x) → CallableAtEachTurn (index_steps n) R Q 0 p
at_each_turn {P} {R} {Q} {n} {p} stays may =
    serves_by R (λ xs q. p ≡ q)
    (λ xs q x v same run. same ∙ sym (stays x v (subst (λ (s : P). R s x v) (sym same) run) ∙ same)) (index_steps n) Q 0 p refl
    (λ xs t q x u y step same. subst (λ (s : P). Q s x) same (may x (omega (arith, step.0, step.1))))

pub from_fn-requires : goal.from_fn-requires
from_fn-requires g c = (omega arith, at_each_turn (λ x q run. search rules) (λ x low. search rules))
