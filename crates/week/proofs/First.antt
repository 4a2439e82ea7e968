-- The first that refuses: the laws of `or_else`, `first_of`, `first`, `refused_if` and `at_place`, each stated once for every proof of a
-- refusal.
use Prim.Native.Nat.{ℕ, zero, suc, ◌+◌, ◌-◌, ◌<◌, ◌≤◌}
use native.Mathlib.Nat.{sub-zero}
use native.Mathlib.Numerals.{add-one}
use native.Mathlib.Decide.{ℕ_discrete}
use native.Mathlib.Omega.{arith}
use mathlib.Core.Path.{◌≡◌, refl, ap, sym, ◌∙◌}
use mathlib.Core.Bool.{Bool, true, false}
use mathlib.Core.List.{List, [], ◌∷◌, ◌++◌, map}
use lib.Dec.{eqb}
use borrow.Author.Tests.{eqb-false, eq-eqb, ne_eqb}
use Rattle.std.proofs.Common.{Option, Some, None, MatchOption}
use Rattle.week.specs.declared.refusal.Refusal.{Refusal}
use Rattle.week.specs.Refusal.{accepted, refused, refused_if, or_else, first_of, first, unless_refused, at_place}

pub number_of_lem : {a b : Refusal} → a ≡ b → a.number ≡ b.number
number_of_lem e = ap (λ (r : Refusal). r.number) e

-- a refusal of a number that is not 0 refuses
pub refuses : {a : Refusal} (number : ℕ) {place recipe : ℕ} → eqb number 0 ≡ false → a ≡ refused number place recipe →
    a.number ≡ 0 → ⊥
refuses number some e z = eqb-false number 0 some (sym (number_of_lem e) ∙ z)

-- and so does what it equals
pub refuses_too : {a b : Refusal} → a ≡ b → (a.number ≡ 0 → ⊥) → b.number ≡ 0 → ⊥
refuses_too e h z = h (number_of_lem e ∙ z)

-- where its number is 0, it names no place and no recipe
abbrev pub Proper : Refusal → Type 0
Proper r = r.number ≡ 0 → r ≡ accepted

-- ---- of two
module _ (a b : Refusal) where
  pub or_first : (a.number ≡ 0 → ⊥) → or_else a b ≡ a
  unfolding or_else
  or_first h = simp (ne_eqb _ _ h)

  pub or_second : a.number ≡ 0 → or_else a b ≡ b
  unfolding or_else
  or_second h = simp (eq-eqb _ _ h)

  or_none : (or_else a b).number ≡ 0 → (a.number ≡ 0) × (b.number ≡ 0)
  or_none h =
      elim (ℕ_discrete a.number 0)
      [ yes z ↦ (z, number_of_lem (sym (or_second z)) ∙ h) | no n ↦ absurd (refuses_too (sym (or_first n)) n h) ]

  or_proper : Proper b → Proper (or_else a b)
  or_proper p h = let z = or_none h in or_second z.0 ∙ p z.1

  or_assoc : (d : Refusal) → or_else (or_else a b) d ≡ or_else a (or_else b d)
  unfolding or_else
  or_assoc d = elim (ℕ_discrete a.number 0) [ yes z ↦ simp (eq-eqb _ _ z) | no n ↦ simp (ne_eqb _ _ n) ]

or_accepted : (a : Refusal) → Proper a → or_else a accepted ≡ a
or_accepted a p =
    elim (ℕ_discrete a.number 0) [ yes z ↦ or_second a accepted z ∙ sym (p z) | no n ↦ or_first a accepted n ]

-- ---- of a condition
module _ (number place recipe : ℕ) where
  pub refused_if_true : {holds : Bool} → holds ≡ true → refused_if number place recipe holds ≡ refused number place recipe
  unfolding refused_if
  refused_if_true e = rw e

  pub refused_if_false : {holds : Bool} → holds ≡ false → refused_if number place recipe holds ≡ accepted
  unfolding refused_if
  refused_if_false e = rw e

-- of a number that is not 0
module _ (number place recipe : ℕ) (some : eqb number 0 ≡ false) where
  pub refused_if_none : (holds : Bool) → (refused_if number place recipe holds).number ≡ 0 → holds ≡ false
  unfolding refused_if
  refused_if_none true h = absurd (eqb-false number 0 some h)
  refused_if_none false h = refl

  pub refused_if_proper : (holds : Bool) → Proper (refused_if number place recipe holds)
  refused_if_proper holds h = refused_if_false number place recipe (refused_if_none holds h)

-- ---- in a place
module _ (place : ℕ) (r : Refusal) where
  pub place_refused : (r.number ≡ 0 → ⊥) → at_place place r ≡ refused r.number place r.recipe
  unfolding at_place unless_refused
  place_refused n = rw (ne_eqb r.number 0 n)

  place_passed : r.number ≡ 0 → at_place place r ≡ accepted
  unfolding at_place unless_refused
  place_passed z = rw (eq-eqb r.number 0 z)

  pub place_number : (at_place place r).number ≡ r.number
  place_number =
      elim (ℕ_discrete r.number 0)
      [ yes z ↦ number_of_lem (place_passed z) ∙ sym z | no n ↦ number_of_lem (place_refused n) ]

place_or : (place : ℕ) (a b : Refusal) → at_place place (or_else a b) ≡ or_else (at_place place a) (at_place place b)
place_or place a b =
    elim (ℕ_discrete a.number 0) [
      | yes z ↦ ap (at_place place) (or_second a b z) ∙ sym (or_second _ _ (place_number place a ∙ z))
      | no n ↦ ap (at_place place) (or_first a b n) ∙ sym (or_first _ _ (λ z. n (sym (place_number place a) ∙ z)))
    ]

-- of a condition that names no place
pub place_if : (number place recipe : ℕ) → eqb number 0 ≡ false → (holds : Bool) →
    at_place place (refused_if number 0 recipe holds) ≡ refused_if number place recipe holds
unfolding refused_if
place_if number place recipe some true = place_refused place (refused number 0 recipe) (eqb-false number 0 some)
place_if number place recipe some false = place_passed place accepted refl

-- ---- of a list
pub place_each : (place : ℕ) (rs : List Refusal) → at_place place (first_of rs) ≡ first_of (map (at_place place) rs)
unfolding first_of
place_each place [] = place_passed place accepted refl
place_each place (r ∷ rs) = place_or place r (first_of rs) ∙ ap (or_else (at_place place r)) (place_each place rs)

module _ (r : Refusal) (rs : List Refusal) where
  pub first_of_here : (r.number ≡ 0 → ⊥) → first_of (r ∷ rs) ≡ r
  unfolding first_of
  first_of_here = or_first r (first_of rs)

  pub first_of_later : r.number ≡ 0 → first_of (r ∷ rs) ≡ first_of rs
  unfolding first_of
  first_of_later = or_second r (first_of rs)

  pub first_of_none : (first_of (r ∷ rs)).number ≡ 0 → (r.number ≡ 0) × ((first_of rs).number ≡ 0)
  unfolding first_of
  first_of_none = or_none r (first_of rs)

pub first_of_one : (r : Refusal) → Proper r → first_of (r ∷ []) ≡ r
unfolding first_of
first_of_one = or_accepted

-- of two, the first does not refuse
pub first_of_last : (a b : Refusal) → a.number ≡ 0 → Proper b → first_of (a ∷ b ∷ []) ≡ b
first_of_last a b z p = first_of_later a (b ∷ []) z ∙ first_of_one b p

pub first_of_proper : (rs : List Refusal) → Proper (first_of rs)
unfolding first_of
first_of_proper [] h = refl
first_of_proper (r ∷ rs) h = or_proper r (first_of rs) (first_of_proper rs) h

pub first_of-append : (xs ys : List Refusal) → first_of (xs ++ ys) ≡ or_else (first_of xs) (first_of ys)
unfolding first_of or_else
first_of-append [] ys = refl
first_of-append (x ∷ xs) ys = ap (or_else x) (first_of-append xs ys) ∙ sym (or_assoc x (first_of xs) (first_of ys))

-- an order in two parts: the first part refuses, or the second decides
module _ (xs ys : List Refusal) where
  pub append_first : ((first_of xs).number ≡ 0 → ⊥) → first_of (xs ++ ys) ≡ first_of xs
  append_first n = first_of-append xs ys ∙ or_first (first_of xs) (first_of ys) n

  pub append_rest : (first_of xs).number ≡ 0 → first_of (xs ++ ys) ≡ first_of ys
  append_rest z = first_of-append xs ys ∙ or_second (first_of xs) (first_of ys) z

-- one more at the end
pub append_last : (xs : List Refusal) (r : Refusal) → Proper r → (first_of xs).number ≡ 0 → first_of (xs ++ (r ∷ [])) ≡ r
append_last xs r proper z = append_rest xs (r ∷ []) z ∙ first_of_one r proper

-- one that refuses nothing, at the end
pub append_accepted : (xs : List Refusal) → first_of (xs ++ (accepted ∷ [])) ≡ first_of xs
append_accepted xs =
    first_of-append xs (accepted ∷ [])
    ∙ ap (or_else (first_of xs)) (first_of_one accepted (λ _. refl))
    ∙ or_accepted (first_of xs) (first_of_proper xs)

-- ---- of f i, f (i + 1), ..
pub place_first : (place : ℕ) (f : ℕ → Refusal) (i m : ℕ) → at_place place (first f i m) ≡ first (λ k. at_place place (f k)) i m
unfolding first
place_first place f i zero = place_passed place accepted refl
place_first place f i (suc m) =
    place_or place (f i) (first f (suc i) m) ∙ ap (or_else (at_place place (f i))) (place_first place f (suc i) m)

module _ (f : ℕ → Refusal) where
  pub first_up : (i m : ℕ) → first f (suc i) m ≡ first (λ k. f (suc k)) i m
  unfolding first
  first_up i zero = refl
  first_up i (suc m) = ap (or_else (f (suc i))) (first_up (suc i) m)

  pub first_proper : (i m : ℕ) → Proper (first f i m)
  unfolding first
  first_proper i zero h = refl
  first_proper i (suc m) h = or_proper (f i) (first f (suc i) m) (first_proper (suc i) m) h

  none_from : (i m : ℕ) → (first f i m).number ≡ 0 → (j : ℕ) → i ≤ j → j < i + m → (f j).number ≡ 0
  unfolding first
  none_from i zero h j l u = absurd (omega arith)
  none_from i (suc m) h j l u =
      let z = or_none (f i) (first f (suc i) m) h in
      elim (ℕ_discrete j i) [
        | yes e ↦ ap (λ (k : ℕ). (f k).number) e ∙ z.0
        | no n ↦ none_from (suc i) m z.1 j (omega arith) (omega arith)
      ]

  pub first_none : (n : ℕ) → (first f 0 n).number ≡ 0 → (i : ℕ) → i < n → (f i).number ≡ 0
  first_none n h i l = none_from 0 n h i (omega arith) (omega arith)

  from_none : (i m : ℕ) → ((j : ℕ) → i ≤ j → j < i + m → (f j).number ≡ 0) → first f i m ≡ accepted
  unfolding first
  from_none i zero each = refl
  from_none i (suc m) each =
      or_second (f i) (first f (suc i) m) (each i (omega arith) (omega arith))
      ∙ from_none (suc i) m (λ j l u. each j (omega arith) (omega arith))

  -- and the other way round
  pub none_first : (n : ℕ) → ((i : ℕ) → i < n → (f i).number ≡ 0) → first f 0 n ≡ accepted
  none_first n each = from_none 0 n (λ i l u. each i (omega arith))

  -- from i on, below n
  module _ (i n : ℕ) where
    step : i < n → first f i (n - i) ≡ or_else (f i) (first f (i + 1) (n - (i + 1)))
    unfolding first
    step h =
        let e : n - i ≡ suc (n - (i + 1)) = omega arith in
        rw (e, add-one)

    first_here : i < n → ((f i).number ≡ 0 → ⊥) → first f i (n - i) ≡ f i
    first_here h z = step h ∙ or_first _ _ z

    first_later : i < n → (f i).number ≡ 0 → first f i (n - i) ≡ first f (i + 1) (n - (i + 1))
    first_later h z = step h ∙ or_second _ _ z

    first_end : n ≤ i → first f i (n - i) ≡ accepted
    unfolding first
    first_end h =
        let e : n - i ≡ 0 = omega arith in
        rw e

    -- a loop that has come to i: what is left to ask is the answer, `whole`
    module _ {whole : Refusal} (rest : first f i (n - i) ≡ whole) where
      pub search_found : {r : Refusal} → i < n → r ≡ f i → (r.number ≡ 0 → ⊥) → r ≡ whole
      search_found h e z = e ∙ sym (first_here h (refuses_too e z)) ∙ rest

      pub search_on : i < n → (f i).number ≡ 0 → first f (i + 1) (n - (i + 1)) ≡ whole
      search_on h z = sym (first_later h z) ∙ rest

      pub search_over : n ≤ i → accepted ≡ whole
      search_over h = sym (first_end h) ∙ rest

  -- a loop that begins after a condition that does not hold
  pub search_after : (number place recipe n : ℕ) {holds : Bool} → holds ≡ false →
      first f 0 (n - 0) ≡ first_of (refused_if number place recipe holds ∷ first f 0 n ∷ [])
  search_after number place recipe n e =
      rw sub-zero (sym (first_of_last _ _ (number_of_lem (refused_if_false number place recipe e)) (first_proper 0 n)))

  -- the first whose test is found to hold, and what is answered of it, or of none
  module _ (n number : ℕ) (place recipe : ℕ → ℕ) (test : ℕ → Bool) (some : eqb number 0 ≡ false)
      (is : (i : ℕ) → i < n → f i ≡ refused_if number (place i) (recipe i) (test i)) where
    passed : (i : ℕ) → i < n → test i ≡ false → (f i).number ≡ 0
    passed i low fails = number_of_lem (is i low ∙ refused_if_false number (place i) (recipe i) fails)

    reached : (i : ℕ) → i ≤ n → ((h : ℕ) → h < i → test h ≡ false) → first f i (n - i) ≡ first f 0 n
    reached zero low before = rw sub-zero
    reached (suc i) low before =
        let rest = reached i (omega arith) (λ h l. before h (omega arith)) in
        rw (← add-one i) (search_on i n rest (omega arith) (passed i (omega arith) (before i (omega arith))))

    pub first_found : (found : Option ℕ) (answer : Refusal) →
        MatchOption found ((i : ℕ) → i < n → test i ≡ false)
        (λ i. (i < n) × (test i ≡ true) × ((h : ℕ) → h < i → test h ≡ false)) →
        MatchOption found (answer ≡ accepted) (λ i. answer ≡ refused number (place i) (recipe i)) → answer ≡ first f 0 n
    first_found None answer none e = e ∙ sym (none_first n (λ i low. passed i low (none i low)))
    first_found (Some i) answer (low, holds, before) e =
        search_found i n (reached i (omega arith) before) low
        (e ∙ sym (is i low ∙ refused_if_true number (place i) (recipe i) holds)) (refuses number some e)
