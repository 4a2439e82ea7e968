-- Refusals, and the first of several: document 01, "Who can be refused, and why".
use Rattle.std.specs.Prelude.{ℕ, zero, suc, Bool, cond, List, [], ◌∷◌, ltb, eqb}
use Rattle.week.specs.declared.refusal.Refusal.{Refusal}

-- nothing is refused
abbrev pub accepted : Refusal
accepted = record { number = 0; place = 0; recipe = 0 }

-- "An answer of refusal is three numbers: its own, a place and a recipe."
abbrev pub refused : ℕ → ℕ → ℕ → Refusal
refused number place recipe = record { number = number; place = place; recipe = recipe }

-- a number with its place, its recipe and its condition
unfoldable pub refused_if : ℕ → ℕ → ℕ → Bool → Refusal
refused_if number place recipe holds = cond holds (refused number place recipe) accepted

-- the first of two that refuses
unfoldable pub or_else : Refusal → Refusal → Refusal
or_else a b = cond (eqb a.number 0) b a

-- "The number answered is the first in this order whose condition holds, and nothing else is refused."
unfoldable pub first_of : List Refusal → Refusal
first_of [] = accepted
first_of (r ∷ rs) = or_else r (first_of rs)

-- the first that refuses of f i, f (i + 1), .., m of them
unfoldable pub first : (ℕ → Refusal) → ℕ → ℕ → Refusal
first f i zero = accepted
first f i (suc m) = or_else (f i) (first f (suc i) m)

-- of a lent slice: 11, 12 and 19 are each about one that is shorter than is needed
unfoldable pub short_fault : ℕ → (needed size : ℕ) → Refusal
short_fault number needed size = refused_if number 0 0 (ltb size needed)

-- what an operation answers, or leaves in lent memory, where it does not refuse and where it does
unfoldable pub unless_refused : {A : Type 0} → Refusal → A → A → A
unless_refused fault passed refused = cond (eqb fault.number 0) passed refused

-- an operation's answer: the refusal that comes first, made an answer, or what it answers where nothing refuses
unfoldable pub answer_by : {A : Type 0} → Refusal → (Refusal → A) → A → A
answer_by fault refusing passed = unless_refused fault passed (refusing fault)

-- a refusal that names no place, in a place
unfoldable pub at_place : ℕ → Refusal → Refusal
at_place place r = unless_refused r accepted (refused r.number place r.recipe)
